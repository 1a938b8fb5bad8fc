use Rattle.iam_names.proofs.Exact.{caller_exact}
use Rattle.iam_names.proofs.caller.same_caller.Goals as goal

pub returns : goal.returns
returns c = rw c.eq.ensures (caller_exact _ _)
