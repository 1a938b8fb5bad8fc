use Rattle.std.proofs.Common.{length}
use Rattle.cel_answers.proofs.Lines.{IsSoFar}
use Rattle.cel_answers.proofs.escapes.unescaped.Given as goal

abbrev pub invariant-line : goal.invariant-line
invariant-line l = IsSoFar l.initial.left l.found.items l.left

abbrev pub decreases-line : goal.decreases-line
decreases-line l = length l.left
