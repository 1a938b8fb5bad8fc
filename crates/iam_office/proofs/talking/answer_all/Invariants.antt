use Rattle.std.proofs.Common.{◌≤◌, ◌-◌, length}
use Rattle.iam_outer.specs.declared.talk.TalkEnd.TheVariants.{Done}
use Rattle.iam_office.specs.Answering.{Answered, TookFrom}
use Rattle.iam_office.specs.Stops.{HadClock}
use Rattle.iam_office.specs.Talks.{Tells, WroteAt}
use Rattle.iam_office.specs.Turns.{Clocked, Rise, all_keeper_faults}
use Rattle.iam_office.proofs.talking.answer_all.Given as goal

abbrev pub invariant-messages : goal.invariant-messages
invariant-messages g l = record {
  answered : Answered (Tells g.O.Office.stands g.O.Office.accepted g.O.Office.alone l.initial.office l.office) (WroteAt Done (g.L.Sink.taken l.initial.line) (g.L.Sink.taken l.line)) (TookFrom (g.L.Source.left l.initial.line) (g.L.Source.left l.line) l.wire) l.trace;
  clock : Clocked (g.C.Clock.given l.initial.clock) (g.C.Clock.given l.clock) (g.C.Clock.clock_faults l.initial.clock) (g.C.Clock.clock_faults l.clock) l.trace;
  faults : Rise (all_keeper_faults l.trace) (g.O.Office.office_faults l.initial.office) (g.O.Office.office_faults l.office);
  reads : g.L.Source.read_faults l.initial.line ≤ g.L.Source.read_faults l.line;
  writes : Rise 0 (g.L.Sink.write_faults l.initial.line) (g.L.Sink.write_faults l.line);
  same : g.O.Office.same l.initial.office l.office;
  had : HadClock l.trace;
  size : length l.trace ≤ 10000;
}

abbrev pub decreases-messages : goal.decreases-messages
decreases-messages g l = 10000 - length l.trace
