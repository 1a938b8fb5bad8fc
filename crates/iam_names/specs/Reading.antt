-- Values and their texts.
use Rattle.std.specs.Prelude.{◌≡◌, ◌≢◌, ℕ, List, Some, None}
use Rattle.std.specs.declared.option.Option.{Option}

-- what is read: a well formed value whose text this is, or none, and then no well formed value has this text
abbrev pub IsRead : {A : Type 0} → (A → Type 0) → (A → List ℕ) → List ℕ → Option A → Type 0
IsRead {A} IsFormed text_of text None = (value : A) → IsFormed value → text ≢ text_of value
IsRead IsFormed text_of text (Some value) = IsFormed value × (text ≡ text_of value)

-- the text of a well formed value gives that value
abbrev pub ReadsBack : {A : Type 0} → (A → Type 0) → (A → List ℕ) → List ℕ → Option A → Type 0
ReadsBack {A} IsFormed text_of text read = (value : A) → IsFormed value → text ≡ text_of value → read ≡ Some value

-- well formed values with one text are the same
abbrev pub IsToldByText : {A : Type 0} → (A → Type 0) → (A → List ℕ) → Type 0
IsToldByText {A} IsFormed text_of = (a b : A) → IsFormed a → IsFormed b → text_of a ≡ text_of b → a ≡ b
