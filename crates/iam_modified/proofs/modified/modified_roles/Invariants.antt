use Rattle.std.proofs.Common.{length}
use Rattle.iam_modified.proofs.Runs.{AreGone}
use Rattle.iam_modified.proofs.modified.modified_roles.Given as goal

abbrev pub invariant-loop-first : goal.invariant-loop-first
invariant-loop-first l = AreGone l.old l.new l.modified l.left

abbrev pub decreases-loop-first : goal.decreases-loop-first
decreases-loop-first l = length l.left
