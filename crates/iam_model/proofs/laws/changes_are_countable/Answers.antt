use Rattle.iam_model.proofs.Counting.{changes_countable}
use Rattle.iam_model.proofs.laws.changes_are_countable.Goals as goal

pub returns : goal.returns
returns c = changes_countable
