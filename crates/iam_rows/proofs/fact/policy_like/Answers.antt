use Rattle.iam_rows.proofs.Like.{policy_named, no_policy}
use Rattle.iam_rows.proofs.fact.policy_like.Goals as goal

pub returns-in-Some : goal.returns-in-Some
returns-in-Some c = policy_named c.args.row.now c.in-Some.node c.policy_from.result c.in-Some.ensures.0 c.in-Some.ensures.1 (rw c.as_str.ensures.value at c.policy_from.ensures)

pub returns-in-None : goal.returns-in-None
returns-in-None c = no_policy c.args.row.now c.in-None.ensures
