use Rattle.iam_law.proofs.Turns.{one_first}
use Rattle.iam_law.proofs.laws.firsts_are_one.Goals as goal

pub returns : goal.returns
returns c = one_first
