use Rattle.iam_model.proofs.Given.{broken_give_none}
use Rattle.iam_model.proofs.laws.broken_facts_give_none.Goals as goal

pub returns : goal.returns
returns c = broken_give_none
