use Rattle.iam_model.proofs.Keeping.{entry_leads}
use Rattle.iam_model.proofs.laws.changes_are_counted.Goals as goal

pub returns : goal.returns
returns c = λ tables entry consistent formed fitting. (entry_leads tables entry consistent formed fitting).counted
