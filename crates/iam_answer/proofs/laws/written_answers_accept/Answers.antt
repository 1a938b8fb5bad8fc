use Rattle.iam_answer.proofs.Accepting.{written_accepts}
use Rattle.iam_answer.proofs.laws.written_answers_accept.Goals as goal

pub returns : goal.returns
returns c = written_accepts
