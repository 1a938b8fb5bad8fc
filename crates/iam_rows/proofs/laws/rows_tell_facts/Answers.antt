use Rattle.iam_rows.proofs.Same.{same_facts}
use Rattle.iam_rows.proofs.laws.rows_tell_facts.Goals as goal

pub returns : goal.returns
returns c = same_facts
