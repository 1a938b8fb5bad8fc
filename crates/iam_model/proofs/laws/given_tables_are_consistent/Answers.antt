use Rattle.iam_model.proofs.Given.{given_consistent}
use Rattle.iam_model.proofs.laws.given_tables_are_consistent.Goals as goal

pub returns : goal.returns
returns c = given_consistent
