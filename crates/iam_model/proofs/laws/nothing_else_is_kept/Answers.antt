use Rattle.iam_model.proofs.Lists.{nothing_else}
use Rattle.iam_model.proofs.laws.nothing_else_is_kept.Goals as goal

pub returns : goal.returns
returns c = nothing_else
