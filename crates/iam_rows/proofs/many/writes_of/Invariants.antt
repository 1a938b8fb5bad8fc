use Rattle.std.proofs.Common.{take}
use Rattle.iam_rows.specs.Kept.{AreWrites}
use Rattle.iam_rows.proofs.many.writes_of.Given as goal

abbrev pub invariant-loop-change : goal.invariant-loop-change
invariant-loop-change l = AreWrites (take l.change-index l.changes) l.writes
