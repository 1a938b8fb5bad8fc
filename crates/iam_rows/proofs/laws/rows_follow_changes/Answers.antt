use Rattle.iam_rows.proofs.Follow.{changes_follow}
use Rattle.iam_rows.proofs.laws.rows_follow_changes.Goals as goal

pub returns : goal.returns
returns c = changes_follow
