use Rattle.iam_model.proofs.Places.{all_put}
use Rattle.iam_model.proofs.laws.facts_are_put.Goals as goal

pub returns : goal.returns
returns c = all_put
