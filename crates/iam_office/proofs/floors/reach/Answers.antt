use Rattle.iam_office.proofs.Reaching.{floor_ahead, floor_reached, no_floor}
use Rattle.iam_office.proofs.floors.reach.Goals as goal

pub returns-in-None-clause-told : goal.returns-in-None-clause-told
returns-in-None-clause-told g c = rw c.in-None.is (no_floor g.O.Office.stands g.O.Office.alone c.args.office.now (tt {0}))

pub returns-in-Ok-clause-told : goal.returns-in-Ok-clause-told
returns-in-Ok-clause-told g c = rw c.in-Some.is (floor_reached g.O.Office.stands g.O.Office.alone _ _ c.in-Some.asked (tt {0}) c.in-Ok.ensures.told)

pub returns-in-Err-Ahead-clause-told : goal.returns-in-Err-Ahead-clause-told
returns-in-Err-Ahead-clause-told g c =
    rw c.in-Some.is (floor_ahead (Unit {0}) g.O.Office.stands g.O.Office.alone _ _ c.in-Some.asked c.in-Err-Ahead.known (rw c.in-Err-Ahead.field-0-is at c.in-Err-Ahead.ensures.told))

pub returns-in-Err-OutOfMemory-clause-told : goal.returns-in-Err-OutOfMemory-clause-told
returns-in-Err-OutOfMemory-clause-told g c = rw c.in-Err-OutOfMemory.field-0-is at c.in-Err-OutOfMemory.ensures.told
