use Rattle.iam_plan.proofs.Told.{formed}
use Rattle.iam_plan.proofs.laws.openings_are_formed.Goals as goal

pub returns : goal.returns
returns c = formed
