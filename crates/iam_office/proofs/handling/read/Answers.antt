use Rattle.std.proofs.Common.{Some, ap}
use Rattle.iam_office.specs.Turns.{keeper_faults_of}
use Rattle.iam_office.proofs.Answering.{read_answers, read_gives, unanswered}
use Rattle.iam_office.proofs.Clocks.{rise_none, timed_no_memory}
use Rattle.iam_office.proofs.Counting.{count_stays, none_read, none_without_memory}
use Rattle.iam_office.proofs.Leading.{leads_as}
use Rattle.iam_office.proofs.handling.read.Goals as goal

pub returns-in_default-clause-handled : goal.returns-in_default-clause-handled
returns-in_default-clause-handled g c = λ message floor asked. (
  leads_as g.O.Office.stands _ _ _ _ c.in_default.ensures.told (λ t h more told reached. unanswered g.O.Office.alone message (Some c.args.moment) _ _ t h more (read_gives message c.args.caller.now floor c.args.ask.now asked) c.no_memory.ensures told),
  count_stays _ _ _ c.in_default.ensures.accepted (none_without_memory message _ _ _ c.no_memory.ensures),
)

pub returns-in_default-clause-timed : goal.returns-in_default-clause-timed
returns-in_default-clause-timed g c = timed_no_memory _ _ _ c.no_memory.ensures

pub returns-in_default-clause-faults : goal.returns-in_default-clause-faults
returns-in_default-clause-faults g c = rise_none _ _ _ (ap keeper_faults_of c.no_memory.ensures.step) c.in_default.ensures.later

pub returns-in-Ok-reply-clause-handled : goal.returns-in-Ok-reply-clause-handled
returns-in-Ok-reply-clause-handled g c = λ message floor asked. (
  leads_as g.O.Office.stands _ _ _ _ c.in-Ok.ensures.told (λ t h more told reached. read_answers g.O.Office.alone message c.args.ask.now c.args.caller.now floor c.args.moment c.in-Ok.answer c.in-Ok-reply.bytes t h more asked reached c.in-Ok-reply.ensures told),
  count_stays _ _ _ c.in-Ok.ensures.accepted (none_read message c.args.caller.now floor c.args.ask.now _ _ _ asked),
)

pub returns-in-Err-clause-handled : goal.returns-in-Err-clause-handled
returns-in-Err-clause-handled g c = λ message floor asked. (
  leads_as g.O.Office.stands _ _ _ _ c.in-Ok.ensures.told (λ t h more told reached. unanswered g.O.Office.alone message (Some c.args.moment) _ _ t h more (read_gives message c.args.caller.now floor c.args.ask.now asked) c.no_memory-in-Err.ensures (λ one. (told.2 one).0)),
  count_stays _ _ _ c.in-Ok.ensures.accepted (none_without_memory message _ _ _ c.no_memory-in-Err.ensures),
)

pub returns-in-Err-clause-timed : goal.returns-in-Err-clause-timed
returns-in-Err-clause-timed g c = timed_no_memory _ _ _ c.no_memory-in-Err.ensures

pub returns-in-Err-clause-faults : goal.returns-in-Err-clause-faults
returns-in-Err-clause-faults g c = rise_none _ _ _ (ap keeper_faults_of c.no_memory-in-Err.ensures.step) c.in-Ok.ensures.later
