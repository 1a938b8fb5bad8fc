use Rattle.iam_json.proofs.Floats.{error_without_float}
use Rattle.iam_json.proofs.reply.error_body.Goals as goal

pub text_of-requires : goal.text_of-requires
text_of-requires c = rw c.in_ok-value.ensures (error_without_float c.args.reply.now.details)
