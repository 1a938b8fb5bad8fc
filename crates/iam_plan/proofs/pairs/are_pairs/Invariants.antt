use Rattle.std.proofs.Common.{◌≡◌, length}
use Rattle.iam_plan.specs.Values.{texts}
use Rattle.iam_plan.specs.Words.{are_paired}
use Rattle.iam_plan.proofs.pairs.are_pairs.Given as goal

abbrev pub invariant-loop-rest : goal.invariant-loop-rest
invariant-loop-rest l = are_paired (texts l.names) l.rest ≡ are_paired (texts l.names) l.words

abbrev pub decreases-loop-rest : goal.decreases-loop-rest
decreases-loop-rest l = length l.rest
