use Rattle.iam_model.proofs.Children.{children_listed}
use Rattle.iam_model.proofs.laws.children_are_listed.Goals as goal

pub returns : goal.returns
returns c = children_listed
