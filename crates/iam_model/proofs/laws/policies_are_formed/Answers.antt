use Rattle.iam_model.proofs.Lists.{policies_formed}
use Rattle.iam_model.proofs.laws.policies_are_formed.Goals as goal

pub returns : goal.returns
returns c = policies_formed
