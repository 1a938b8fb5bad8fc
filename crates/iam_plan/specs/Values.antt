-- The values of options by their names.
use Rattle.std.specs.Prelude.{ℕ, List, Some, None, IsSomeAnd, map}
use Rattle.std.specs.declared.option.Option.{Option}
use Rattle.std.specs.Borrow.{Bor}

-- the value of each option by its name, where it is given
abbrev pub Values : Type 0
Values = List ℕ → Option (List ℕ)

-- the option is given, and its value has the form
abbrev pub HasOption : List ℕ → Values → (List ℕ → Type 0) → Type 0
HasOption name values Form = IsSomeAnd (values name) Form

-- what is found is what this holds of, and nothing where it holds of none
abbrev pub IsFound : {A : Type 0} → (A → Type 0) → Option A → Type 0
IsFound {A} Holds None = (value : A) → ¬ Holds value
IsFound Holds (Some value) = Holds value

-- the texts that are lent
abbrev pub texts : List (Bor (List ℕ)) → List (List ℕ)
texts = map (λ lent. lent.now)
