use Rattle.iam_wire.proofs.Fronts.{prefix_short}
use Rattle.iam_wire.proofs.laws.prefixes_are_short.Goals as goal

pub returns : goal.returns
returns c = prefix_short
