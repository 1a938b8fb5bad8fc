-- What members are read as, and where the first bad one is.
use Rattle.std.specs.Prelude.{◌≡◌, ◌≢◌, ◌⊎◌, ℕ, suc, List, [], ◌∷◌, Option, Some, None, option_and_then, Result, Ok, Err}
use Rattle.serde_json.specs.Data.{Data, null, boolean, number, string, array, object, Items, no_items, item}
use Rattle.serde_json.specs.Find.{get, as_str, as_array, as_number, as_u64}
use Rattle.iam_json_data.specs.declared.stop.BodyStop.{BodyStop}
use Rattle.iam_json_data.specs.declared.stop.BodyStop.TheVariants.{BadJson, BadField, OutOfMemory}
use Rattle.iam_json_data.specs.Path.{under, item_name}

-- the answer of a reader, by what is said of a value and of the path of a bad member; memory is free
abbrev pub Gives : {A : Type 0} → (Result A (List ℕ) → Type 0) → Result A BodyStop → Type 0
Gives reads (Ok value) = reads (Ok value)
Gives reads (Err BadJson) = ⊥
Gives reads (Err (BadField path)) = reads (Err path)
Gives reads (Err OutOfMemory) = Unit {0}

-- what is bad inside is bad there, seen from outside
abbrev pub IsBadInside : {A : Type 0} → (Result A (List ℕ) → Type 0) → List ℕ → List ℕ → Type 0
IsBadInside reads name path = (inner : List ℕ) × (path ≡ under name inner) × reads (Err inner)

-- one is read after another, and the first bad one counts
abbrev pub Then : {A B : Type 0} → (Result A (List ℕ) → Type 0) → (A → Result B (List ℕ) → Type 0) → Result B (List ℕ) → Type 0
Then {A} first next (Ok value) = (before : A) × first (Ok before) × next before (Ok value)
Then {A} first next (Err path) = first (Err path) ⊎ ((before : A) × first (Ok before) × next before (Err path))

-- ---- kinds of members

-- a text that a well formed value has
abbrev pub ReadsText : {A : Type 0} → (A → Type 0) → (A → List ℕ) → Data → Result A (List ℕ) → Type 0
ReadsText IsFormed text_of d (Ok value) = IsFormed value × (as_str d ≡ Some (text_of value))
ReadsText {A} IsFormed text_of d (Err path) = (path ≡ []) × ((value : A) → IsFormed value → as_str d ≢ Some (text_of value))

-- a whole number of 64 bits
abbrev pub ReadsNumber : Data → Result ℕ (List ℕ) → Type 0
ReadsNumber d (Ok value) = option_and_then as_u64 (as_number d) ≡ Some value
ReadsNumber d (Err path) = (path ≡ []) × (option_and_then as_u64 (as_number d) ≡ None)

-- the items of a list, counted from this place on
abbrev pub ReadsItems : {A : Type 0} → (Data → Result A (List ℕ) → Type 0) → ℕ → Items → Result (List A) (List ℕ) → Type 0
ReadsItems reads place no_items (Ok values) = values ≡ []
ReadsItems reads place no_items (Err path) = ⊥
ReadsItems reads place (item d ds) (Ok []) = ⊥
ReadsItems reads place (item d ds) (Ok (value ∷ values)) = reads d (Ok value) × ReadsItems reads (suc place) ds (Ok values)
ReadsItems {A} reads place (item d ds) (Err path) =
    IsBadInside (reads d) (item_name place) path ⊎ ((value : A) × reads d (Ok value) × ReadsItems reads (suc place) ds (Err path))

-- what is there, which has to be of its type
abbrev pub ReadsSome : {A B : Type 0} → (B → Result A (List ℕ) → Type 0) → Option B → Result A (List ℕ) → Type 0
ReadsSome reads None said = said ≡ Err []
ReadsSome reads (Some there) said = reads there said

-- a list
abbrev pub ReadsList : {A : Type 0} → (Data → Result A (List ℕ) → Type 0) → Data → Result (List A) (List ℕ) → Type 0
ReadsList reads d = ReadsSome (ReadsItems reads 0) (as_array d)

-- ---- members of an object

-- null counts as absent
abbrev pub unless_null : Data → Option Data
unless_null null = None
unless_null (boolean b) = Some (boolean b)
unless_null (number n) = Some (number n)
unless_null (string s) = Some (string s)
unless_null (array ds) = Some (array ds)
unless_null (object ms) = Some (object ms)

-- what stands at a name
abbrev pub present : List ℕ → Data → Option Data
present name d = option_and_then unless_null (get name d)

-- a member that may be absent
abbrev pub ReadsMember : {A : Type 0} → (Data → Result A (List ℕ) → Type 0) → List ℕ → Option Data → Result (Option A) (List ℕ) → Type 0
ReadsMember reads name None said = said ≡ Ok None
ReadsMember reads name (Some d) (Ok None) = ⊥
ReadsMember reads name (Some d) (Ok (Some value)) = reads d (Ok value)
ReadsMember reads name (Some d) (Err path) = IsBadInside (reads d) name path

-- a member that has to be there
abbrev pub ReadsRequired : {A : Type 0} → (Data → Result A (List ℕ) → Type 0) → List ℕ → Option Data → Result A (List ℕ) → Type 0
ReadsRequired reads name None said = said ≡ Err name
ReadsRequired reads name (Some d) (Ok value) = reads d (Ok value)
ReadsRequired reads name (Some d) (Err path) = IsBadInside (reads d) name path
