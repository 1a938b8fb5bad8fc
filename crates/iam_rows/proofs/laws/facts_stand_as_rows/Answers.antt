use Rattle.iam_rows.proofs.Follow.{stand_as}
use Rattle.iam_rows.proofs.laws.facts_stand_as_rows.Goals as goal

pub returns : goal.returns
returns c = stand_as
