use Rattle.iam_model.proofs.Given.{consistent_given}
use Rattle.iam_model.proofs.laws.consistent_tables_are_given.Goals as goal

pub returns : goal.returns
returns c = consistent_given
