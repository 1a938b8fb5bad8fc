use Rattle.iam_json.proofs.Floats.{answer_without_float}
use Rattle.iam_json.proofs.answer.answer_body.Goals as goal

pub text_of-requires : goal.text_of-requires
text_of-requires c = rw c.in_ok-value.ensures (answer_without_float c.args.answer.now)
