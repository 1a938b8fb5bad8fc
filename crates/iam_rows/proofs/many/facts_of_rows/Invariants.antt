use Rattle.std.proofs.Common.{take}
use Rattle.iam_rows.specs.Kept.{AreFactsOf}
use Rattle.iam_rows.proofs.many.facts_of_rows.Given as goal

abbrev pub invariant-loop-row : goal.invariant-loop-row
invariant-loop-row l = AreFactsOf (take l.row-index l.rows) l.facts
