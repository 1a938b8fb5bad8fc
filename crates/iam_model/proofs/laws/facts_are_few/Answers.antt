use Rattle.iam_model.proofs.Lists.{facts_are_few}
use Rattle.iam_model.proofs.laws.facts_are_few.Goals as goal

pub returns : goal.returns
returns c = facts_are_few
