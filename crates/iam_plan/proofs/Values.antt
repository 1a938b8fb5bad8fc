-- Values that are there.
use Rattle.std.proofs.Common.{◌≡◌, ◌∙◌, List, ℕ, Some, None}
use Rattle.std.specs.Prelude.{IsSomeAnd}
use Rattle.std.specs.declared.option.Option.{Option}

-- the value has the first of two properties
pub first_of : {A : Type 0} (r : Option A) (P Q : A → Type 0) → IsSomeAnd r (λ t. P t × Q t) → IsSomeAnd r P
first_of None P Q h = h
first_of (Some t) P Q h = h.0

-- what equals the value's copy equals the value
pub copied : {A : Type 0} (r : Option A) (P : A → Type 0) (a b : A) → a ≡ b → IsSomeAnd r (λ t. P t × (b ≡ t)) → IsSomeAnd r (λ t. P t × (a ≡ t))
copied None P a b is h = h
copied (Some t) P a b is h = (h.0, is ∙ h.1)

-- what holds of the value that is there gives this
pub of_value : (value : Option (List ℕ)) (Form : List ℕ → Type 0) (Goal : Type 0) → IsSomeAnd value Form → ((text : List ℕ) → Form text → Goal) → Goal
of_value None Form Goal has gives = absurd has
of_value (Some text) Form Goal has gives = gives text has

-- what two forms of the value that is there give
pub of_both : (value : Option (List ℕ)) (One Other : List ℕ → Type 0) (Goal : Type 0) → IsSomeAnd value One → IsSomeAnd value Other → ((text : List ℕ) → One text → Other text → Goal) → Goal
of_both None One Other Goal has also gives = absurd has
of_both (Some text) One Other Goal has also gives = gives text has also
