use Rattle.iam_model.proofs.Counting.{policies_countable}
use Rattle.iam_model.proofs.laws.policies_are_countable.Goals as goal

pub returns : goal.returns
returns c = policies_countable
