use Rattle.iam_model.proofs.Given.{tables_have_placed}
use Rattle.iam_model.proofs.laws.tables_have_placed_facts.Goals as goal

pub returns : goal.returns
returns c = tables_have_placed
