use Rattle.std.proofs.Common.{arith}
use Rattle.iam_office.proofs.Finishing.{clock_rose, clock_stopped, clocked_behind, clocked_early, read_stopped, rise_behind, rise_early, talked, talked_none, write_rose}
use Rattle.iam_office.proofs.Going.{clock_none, tells_none}
use Rattle.iam_office.proofs.conversing.talk.Goals as goal

pub returns-in_default-clause-talked : goal.returns-in_default-clause-talked
returns-in_default-clause-talked g c =
    talked_none c.streams.ensures _ _ _ _ _ _ _ _ (tells_none g.O.Office.stands g.O.Office.accepted g.O.Office.alone c.args.office.now) clock_none c.requires c.finish.ensures.finished c.finish.ensures.unread.0

pub returns-in_default-clause-clock : goal.returns-in_default-clause-clock
returns-in_default-clause-clock g c = clocked_early _ _ c.requires c.finish.ensures.finished

pub returns-in_default-clause-faults : goal.returns-in_default-clause-faults
returns-in_default-clause-faults g c = rise_early _ c.requires c.finish.ensures.finished

pub returns-in_default-clause-causes : goal.returns-in_default-clause-causes
returns-in_default-clause-causes g c = record {
  read = λ is. let stopped = read_stopped c.finish.ensures.finished is in cc stopped;
  write = write_rose _ _ _ (c.finish.ensures.writes _ (omega arith));
  clock = λ is. let stopped = clock_stopped c.finish.ensures.finished is in cc stopped;
}

pub returns-clause-talked : goal.returns-clause-talked
returns-clause-talked g c =
    let all = c.answer_all-stop.ensures in
    talked c.streams.ensures _ _ _ _ _ _ _ _ _ _ _ all.answered all.at all.most c.finish-2.ensures.finished c.finish-2.ensures.unread.0

pub returns-clause-clock : goal.returns-clause-clock
returns-clause-clock g c = clocked_behind _ _ _ _ c.finish-2.ensures.finished c.answer_all-stop.ensures.clock

pub returns-clause-faults : goal.returns-clause-faults
returns-clause-faults g c = rise_behind _ _ c.finish-2.ensures.finished c.answer_all-stop.ensures.faults

pub returns-clause-causes : goal.returns-clause-causes
returns-clause-causes g c = record {
  read = λ is. rw c.finish-2.ensures.unread.1 (c.answer_all-stop.ensures.reads (read_stopped c.finish-2.ensures.finished is));
  write = write_rose _ _ _ (c.finish-2.ensures.writes _ c.answer_all-stop.ensures.writes);
  clock = λ is. clock_rose _ _ _ _ _ _ c.answer_all-stop.ensures.at c.answer_all-stop.ensures.clock (clock_stopped c.finish-2.ensures.finished is);
}
