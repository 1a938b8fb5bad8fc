use Rattle.std.proofs.Common.{ap}
use Rattle.std.specs.Prelude.{Err}
use Rattle.iam_office.proofs.Answering.{write_answers, write_stopped}
use Rattle.iam_office.proofs.Clocks.{rise_shown, rise_stopped, timed_shown, timed_stopped}
use Rattle.iam_office.proofs.Counting.{count_rises, count_shown, count_stopped}
use Rattle.iam_office.proofs.Leading.{leads_as}
use Rattle.iam_office.proofs.handling.write.Goals as goal

pub returns-in-Ok-clause-handled : goal.returns-in-Ok-clause-handled
returns-in-Ok-clause-handled g c = λ message floor asked. (
  leads_as g.O.Office.stands _ _ _ _ c.in-Ok.ensures.told (λ t h more told reached. write_answers g.O.Office.alone message c.args.entry floor c.in-Ok.answer _ _ t h more asked reached c.show.ensures told),
  count_rises _ _ _ _ c.in-Ok.ensures.accepted (count_shown message c.args.entry floor _ _ _ _ asked c.show.ensures),
)

pub returns-in-Ok-clause-timed : goal.returns-in-Ok-clause-timed
returns-in-Ok-clause-timed g c = timed_shown _ _ _ _ _ c.show.ensures

pub returns-in-Ok-clause-faults : goal.returns-in-Ok-clause-faults
returns-in-Ok-clause-faults g c = rise_shown _ _ _ _ _ _ _ c.show.ensures c.in-Ok.ensures.later

pub returns-in-Err-clause-handled : goal.returns-in-Err-clause-handled
returns-in-Err-clause-handled g c = λ message floor asked. (
  leads_as g.O.Office.stands _ _ _ _ c.in-Err.ensures.told (λ t h more told reached. write_stopped g.O.Office.alone message c.args.entry floor c.in-Err.stopped _ _ t h more asked reached c.stop.ensures told),
  count_rises _ _ _ _ c.in-Err.ensures.accepted (count_stopped message _ _ _ _ c.stop.ensures),
)

pub returns-in-Err-clause-timed : goal.returns-in-Err-clause-timed
returns-in-Err-clause-timed g c = timed_stopped _ _ _ _ c.stop.ensures

pub returns-in-Err-clause-faults : goal.returns-in-Err-clause-faults
returns-in-Err-clause-faults g c = rise_stopped _ _ _ _ _ _ c.stop.ensures c.in-Err.ensures.later (λ is. c.in-Err.ensures.cause (ap Err is))
