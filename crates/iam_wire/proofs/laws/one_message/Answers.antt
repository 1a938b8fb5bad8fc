use Rattle.iam_wire.proofs.Fronts.{one_message}
use Rattle.iam_wire.proofs.laws.one_message.Goals as goal

pub returns : goal.returns
returns c = one_message
