use Rattle.iam_model.proofs.Fitting.{rules_fit}
use Rattle.iam_model.proofs.laws.accepted_rules_fit.Goals as goal

pub returns : goal.returns
returns c = rules_fit
