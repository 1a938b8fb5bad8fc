use Rattle.iam_answer.proofs.Accepting.{tells_acceptance}
use Rattle.iam_answer.proofs.laws.replies_tell_acceptance.Goals as goal

pub returns : goal.returns
returns c = tells_acceptance
