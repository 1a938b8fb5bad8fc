use Rattle.std.proofs.Common.{refl}
use Rattle.iam_json.specs.declared.call.Call.TheVariants.{Write}
use Rattle.iam_office.proofs.Answering.{no_clock}
use Rattle.iam_office.proofs.Clocks.{clocked_failed, clocked_timed, rise_plainly}
use Rattle.iam_office.proofs.Counting.{count_stays, none_without_clock}
use Rattle.iam_office.proofs.Leading.{leads_here}
use Rattle.iam_office.proofs.handling.serve_write.Goals as goal

pub returns-in-Ok-clause-handled : goal.returns-in-Ok-clause-handled
returns-in-Ok-clause-handled g c = c.write_above.ensures.handled

pub returns-in-Ok-clause-clock : goal.returns-in-Ok-clause-clock
returns-in-Ok-clause-clock g c = clocked_timed _ _ _ _ _ _ c.in-Ok.ensures.given c.in-Ok.ensures.cause.later c.write_above.ensures.timed

pub returns-in-Err-clause-handled : goal.returns-in-Err-clause-handled
returns-in-Err-clause-handled g c = λ message asked. record {
  answers = leads_here g.O.Office.stands _ _ (λ t h. no_clock g.O.Office.alone message _ _ t h (c.args.caller, c.args.floor, Write c.args.command, asked) c.no_clock.ensures);
  count = count_stays _ _ _ refl (none_without_clock message _ _ _ c.no_clock.ensures);
}

pub returns-in-Err-clause-clock : goal.returns-in-Err-clause-clock
returns-in-Err-clause-clock g c = clocked_failed _ _ _ _ _ _ _ c.in-Err.ensures.given c.in-Err.ensures.cause.failed c.no_clock.ensures

pub returns-in-Err-clause-faults : goal.returns-in-Err-clause-faults
returns-in-Err-clause-faults g c = rise_plainly _ _ _ _ _ refl c.no_clock.ensures
