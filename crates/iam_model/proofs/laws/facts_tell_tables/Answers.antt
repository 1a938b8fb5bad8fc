use Rattle.iam_model.proofs.Parts.{told}
use Rattle.iam_model.proofs.laws.facts_tell_tables.Goals as goal

pub returns : goal.returns
returns c = told
