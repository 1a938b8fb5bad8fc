use Rattle.iam_law.proofs.Histories.{history_counted}
use Rattle.iam_law.proofs.laws.histories_are_counted.Goals as goal

pub returns : goal.returns
returns c = λ tables entries. history_counted c.changes_keep_good.ensures c.accepted_changes_are_counted.ensures entries tables
