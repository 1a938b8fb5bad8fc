use Rattle.iam_rows.proofs.Like.{org_fact, org_stopped}
use Rattle.iam_rows.proofs.fact.fact_like.Goals as goal

pub returns-in-Ok : goal.returns-in-Ok
returns-in-Ok c = org_fact c.args.row.now c.in-Ok.org (c.is_part.ensures.0 c.if-is_part.true) c.in-Ok.ensures

pub returns-in-Err : goal.returns-in-Err
returns-in-Err c = org_stopped c.args.row.now c.in-Err.stop (c.is_part.ensures.0 c.if-is_part.true) c.in-Err.ensures
