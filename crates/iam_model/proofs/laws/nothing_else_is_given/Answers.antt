use Rattle.iam_model.proofs.Lists.{nothing_else_given}
use Rattle.iam_model.proofs.laws.nothing_else_is_given.Goals as goal

pub returns : goal.returns
returns c = nothing_else_given
