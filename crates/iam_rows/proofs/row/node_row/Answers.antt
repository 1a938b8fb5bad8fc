use Rattle.iam_rows.proofs.Back.{node_without_float}
use Rattle.iam_rows.proofs.row.node_row.Goals as goal

pub row_with-requires : goal.row_with-requires
row_with-requires c = rw c.in_ok-value.ensures (node_without_float c.args.node.now)
