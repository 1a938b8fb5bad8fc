use Rattle.std.proofs.Common.{◌≡◌}
use Rattle.iam_json.specs.declared.call.Call.TheVariants.{Read}
use Rattle.iam_office.proofs.Clocks.{rise_later, rise_unreached, timed_unreached}
use Rattle.iam_office.proofs.Reaching.{above, below}
use Rattle.iam_office.proofs.handling.read_above.Goals as goal

pub returns-in-Ok-clause-handled : goal.returns-in-Ok-clause-handled
returns-in-Ok-clause-handled g c = λ message asked. above g.O.Office.stands _ _ _ _ _ _ (tt {0}) message _ _ c.in-Ok.ensures.told c.in-Ok.ensures.accepted (c.read.ensures.handled message c.args.floor asked)

pub returns-in-Ok-clause-faults : goal.returns-in-Ok-clause-faults
returns-in-Ok-clause-faults g c = rise_later _ _ _ _ c.in-Ok.ensures.later c.read.ensures.faults

pub returns-in-Ok-clause-same : goal.returns-in-Ok-clause-same
returns-in-Ok-clause-same g c = g.met.O.Office.same_onward _ _ _ c.in-Ok.ensures.same c.read.ensures.same

pub returns-in-Err-clause-handled : goal.returns-in-Err-clause-handled
returns-in-Err-clause-handled g c = λ message asked. below (Unit {0}) g.O.Office.stands _ _ _ _ message c.args.caller.now c.args.floor (Read c.args.ask.now) _ _ _ _ c.in-Err.ensures.told c.in-Err.ensures.accepted asked c.unreached.ensures

pub returns-in-Err-clause-timed : goal.returns-in-Err-clause-timed
returns-in-Err-clause-timed g c = timed_unreached _ _ _ _ c.unreached.ensures

pub returns-in-Err-clause-faults : goal.returns-in-Err-clause-faults
returns-in-Err-clause-faults g c = rise_unreached _ _ _ _ _ _ c.unreached.ensures c.in-Err.ensures.later
