use Rattle.std.proofs.Common.{◌≡◌, length}
use Rattle.iam_plan.specs.Words.{begins_pair}
use Rattle.iam_plan.proofs.pairs.begins_pair.Given as goal

abbrev pub invariant-loop-rest : goal.invariant-loop-rest
invariant-loop-rest l = begins_pair l.word l.rest ≡ begins_pair l.word l.words

abbrev pub decreases-loop-rest : goal.decreases-loop-rest
decreases-loop-rest l = length l.rest
