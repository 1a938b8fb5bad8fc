use Rattle.iam_rows.proofs.Like.{org_named, no_org}
use Rattle.iam_rows.proofs.fact.org_like.Goals as goal

pub returns-in-Some : goal.returns-in-Some
returns-in-Some c = org_named c.args.row.now c.in-Some.number c.org_from.result c.in-Some.ensures.0 c.in-Some.ensures.1 (rw c.as_str.ensures.value at c.org_from.ensures)

pub returns-in-None : goal.returns-in-None
returns-in-None c = no_org c.args.row.now c.in-None.ensures
