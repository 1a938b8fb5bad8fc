-- The laws of meaning.
use Rattle.std.specs.Prelude.{◌≡◌, ◌↔◌, ℤ}
use Rattle.cel_tree.specs.declared.tree.Expr.{Expr}
use Rattle.cel_value.specs.declared.value.Outcome.{Outcome}
use Rattle.cel_types.specs.declared.form.TimePart.{TimePart}
use Rattle.cel_types.specs.declared.kind.Kind.{Kind}
use Rattle.cel_types.specs.Sight.{Sight}
use Rattle.cel_types.specs.Calendar.{HasPart}
use Rattle.cel_types.specs.HasKind.{HasKind}
use Rattle.cel_types.specs.Means.{Means}
use Rattle.cel_types.specs.Setting.{Setting}
use Rattle.cel_meaning.specs.Dates.{part_outcome}
use Rattle.cel_meaning.specs.OutcomeOf.{outcome_of}

-- a tree that has a kind comes to exactly what the function gives
abbrev pub OutcomesAreComputed : Type 0
OutcomesAreComputed = (s : Setting) (sight : Sight) (e : Expr) (k : Kind) (o : Outcome) → HasKind sight e k → (outcome_of s e ≡ o) ↔ Means s e o

-- each time has exactly the parts that the function gives
abbrev pub PartsAreComputed : Type 0
PartsAreComputed = (part : TimePart) (t : ℤ) (o : Outcome) → (part_outcome part t ≡ o) ↔ HasPart part t o
