use Rattle.iam_wire.proofs.Fronts.{some_front}
use Rattle.iam_wire.proofs.laws.some_front.Goals as goal

pub returns : goal.returns
returns c = some_front
