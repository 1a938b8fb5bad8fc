-- Facts by parts: one section a part.
use Rattle.std.specs.Prelude.{◌≡◌, ℕ, List, [], ◌∷◌, map, flat_map}
use Rattle.std.specs.declared.cmp.Ordering.TheVariants.{Less}
use Rattle.std.specs.Ordering.{nat_cmp}
use Rattle.std.specs.Cmp.Lexicographic.{slice_cmp}
use Rattle.iam_types.specs.declared.fact.Fact.{Fact}
use Rattle.iam_model.specs.Part.{Part}

pub record Section : Type 0 where
  pub part : List ℕ
  pub facts : List Fact

-- the rows of a part as its facts
abbrev pub section : {A : Type 0} → Part A → List A → Section
section part rows = record { part = part.name; facts = map part.wrap rows }

abbrev pub all_facts : List Section → List Fact
all_facts sections = flat_map (λ section. section.facts) sections

-- the parts' names ascend in bytes
abbrev pub Ascending : List Section → Type 0
Ascending [] = Unit {0}
Ascending (first ∷ []) = Unit {0}
Ascending (first ∷ next ∷ more) = (slice_cmp nat_cmp first.part next.part ≡ Less) × Ascending (next ∷ more)
