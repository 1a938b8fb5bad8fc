use Rattle.iam_rows.proofs.Like.{node_named, no_node}
use Rattle.iam_rows.proofs.fact.node_like.Goals as goal

pub returns-in-Some : goal.returns-in-Some
returns-in-Some c = node_named c.args.row.now c.in-Some.id c.node_from.result c.in-Some.ensures.0 c.in-Some.ensures.1 (rw c.as_str.ensures.value at c.node_from.ensures)

pub returns-in-None : goal.returns-in-None
returns-in-None c = no_node c.args.row.now c.in-None.ensures
