use Rattle.iam_model.proofs.Lists.{nodes_formed}
use Rattle.iam_model.proofs.laws.nodes_are_formed.Goals as goal

pub returns : goal.returns
returns c = nodes_formed
