use Rattle.iam_model.proofs.Opens.{opens_consistent}
use Rattle.iam_model.proofs.laws.openings_are_consistent.Goals as goal

pub returns : goal.returns
returns c = opens_consistent
