use Rattle.iam_plan.proofs.Told.{told}
use Rattle.iam_plan.proofs.laws.plans_are_told.Goals as goal

pub returns : goal.returns
returns c = told
