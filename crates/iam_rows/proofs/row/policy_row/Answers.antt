use Rattle.iam_rows.proofs.Back.{policy_without_float}
use Rattle.iam_rows.proofs.row.policy_row.Goals as goal

pub row_with-requires : goal.row_with-requires
row_with-requires c = rw c.in_ok-value.ensures (policy_without_float c.args.policy.now)
