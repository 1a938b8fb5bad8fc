-- What a command means.
use Rattle.std.specs.Prelude.{List, []}
use Rattle.iam_text.specs.declared.moment.Moment.{Moment}
use Rattle.iam_types.specs.declared.fact.FactChange.{FactChange}
use Rattle.iam_types.specs.declared.tables.Tables.{Tables}
use Rattle.iam_model.specs.Refusals.{Rules, no_rules}

-- When it is well formed; and, given at a moment, what the tables refuse of it, the tables after it, and the changes of facts that lead there.
pub record Meaning : Type 1 where
  pub given : Type 0
  pub rules : Moment → Tables → Rules
  pub after : Moment → Tables → Tables
  pub changes : Moment → Tables → List FactChange

-- it can't be given yet
abbrev pub not_yet : Meaning
not_yet = record { given = ⊥; rules = λ moment tables. no_rules; after = λ moment tables. tables; changes = λ moment tables. [] }
