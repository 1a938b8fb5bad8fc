use Rattle.iam_law.proofs.Turns.{found_is_first}
use Rattle.iam_law.proofs.laws.grants_are_first.Goals as goal

pub returns : goal.returns
returns c = found_is_first
