use Rattle.iam_json.proofs.One.{line_one}
use Rattle.iam_json.proofs.laws.one_call.Goals as goal

pub returns : goal.returns
returns c = line_one
