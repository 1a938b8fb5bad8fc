use Rattle.iam_law.proofs.Histories.{legal_good}
use Rattle.iam_law.proofs.laws.histories_keep_good.Goals as goal

pub returns : goal.returns
returns c = λ tables entries. legal_good c.changes_keep_good.ensures entries tables
