use Rattle.std.proofs.Common.{◌≡◌, ap, arith, refl, ◌∙◌, subst}
use Rattle.std.specs.Prelude.{Err}
use Rattle.std.proofs.KnownBytes.{Appends-nil}
use Rattle.iam_office.proofs.Clocks.{clocked_none, clocked_on, rise_later, rise_on}
use Rattle.iam_office.proofs.Going.{answered_as, answered_none, clock_behind, clock_more, clock_none, failed_behind, last_put, read_never, size_more, tells_none, turned_last, turned_whole}
use Rattle.iam_office.proofs.Streaming.{enough, had_at, none_failed, stops_behind, took_next, took_none, without_next, without_room, wrote_so}
use Rattle.iam_office.proofs.talking.answer_all.Goals as goal

pub messages-init : goal.messages-init
messages-init g c = rw (c.requires.trace, c.requires.wire) (record {
  answered = answered_none _ _ _ (tells_none g.O.Office.stands g.O.Office.accepted g.O.Office.alone c.args.office.now) (Appends-nil _) (took_none _ _ refl);
  clock = clocked_none _ _;
  faults = omega arith;
  reads = omega arith;
  writes = omega arith;
  same = g.met.O.Office.same_as_itself _;
  had = clock_none;
  size = omega arith;
})

-- ---- no message comes next

pub returns-in-Err-clause-answered : goal.returns-in-Err-clause-answered
returns-in-Err-clause-answered g c =
    answered_as _ _ _ _ _ _ c.messages.invariant.answered (wrote_so c.in-Err.stop _ _ _ _ _ _ c.in-Err.ensures.next c.next_message.ensures.unwritten.0)
    (λ ms size took. without_next c.streams.ensures _ _ _ _ c.in-Err.stop ms took c.in-Err.ensures.next (omega (arith, size, c.messages-test.true)))

pub returns-in-Err-clause-at : goal.returns-in-Err-clause-at
returns-in-Err-clause-at g c = had_at c.in-Err.stop _ _ _ c.in-Err.ensures.next.2 c.messages.invariant.had

pub returns-in-Err-clause-reads : goal.returns-in-Err-clause-reads
returns-in-Err-clause-reads g c = λ is. omega (arith, c.messages.invariant.reads, c.in-Err.ensures.cause (ap Err is))

pub returns-in-Err-clause-writes : goal.returns-in-Err-clause-writes
returns-in-Err-clause-writes g c = omega (arith, none_failed c.in-Err.stop _ _ c.in-Err.ensures.next.2, c.messages.invariant.writes, c.next_message.ensures.unwritten.1)

-- ---- there is no room for its step

pub returns-in_default-clause-answered : goal.returns-in_default-clause-answered
returns-in_default-clause-answered g c =
    rw (c.in_default.ensures.err, c.next_message.ensures.unwritten.0)
    (answered_as _ _ _ _ _ _ c.messages.invariant.answered (λ pieces w. w) (λ ms size took. without_room c.streams.ensures _ _ _ _ _ c.in-Ok.message ms took c.in-Ok.ensures.next))

pub returns-in_default-clause-reads : goal.returns-in_default-clause-reads
returns-in_default-clause-reads g c = λ is. absurd (cc is)

pub returns-in_default-clause-writes : goal.returns-in_default-clause-writes
returns-in_default-clause-writes g c = omega (arith, c.messages.invariant.writes, c.next_message.ensures.unwritten.1)

-- ---- it is the last that is answered

pub returns-in-Some-clause-answered : goal.returns-in-Some-clause-answered
returns-in-Some-clause-answered g c =
    turned_last _ _ _ _ _ _ _ _ _ _ _ _ _ _ _ _ _ _ _ _ c.in-Some.stop c.messages.invariant.answered c.turn-said.ensures.turned c.next_message.ensures.unwritten.0 c.in-Some.ensures
    (λ ms took. stops_behind c.streams.ensures _ _ _ _ _ _ c.in-Ok.message ms c.in-Some.stop _ _ took c.in-Ok.ensures.next c.turn-said.ensures.unread.0 c.in-Some.ensures)
    (last_put _ _ _ _ _ c.in-Ok-push.ensures.ok c.put_last.ensures)

pub returns-in-Some-clause-at : goal.returns-in-Some-clause-at
returns-in-Some-clause-at g c = clock_behind c.in-Some.stop _ _ _ _ _ c.in-Some.ensures c.messages.invariant.had (last_put _ _ _ _ _ c.in-Ok-push.ensures.ok c.put_last.ensures)

pub returns-in-Some-clause-most : goal.returns-in-Some-clause-most
returns-in-Some-clause-most g c = omega (arith, c.messages-test.true, size_more _ _ _ (last_put _ _ _ _ _ c.in-Ok-push.ensures.ok c.put_last.ensures))

pub returns-in-Some-clause-clock : goal.returns-in-Some-clause-clock
returns-in-Some-clause-clock g c = rw (last_put _ _ _ _ _ c.in-Ok-push.ensures.ok c.put_last.ensures) (clocked_on _ _ _ _ _ _ _ _ c.messages.invariant.clock c.turn-said.ensures.clock)

pub returns-in-Some-clause-faults : goal.returns-in-Some-clause-faults
returns-in-Some-clause-faults g c = rw (last_put _ _ _ _ _ c.in-Ok-push.ensures.ok c.put_last.ensures) (rise_on c.messages.trace _ _ _ _ c.messages.invariant.faults c.turn-said.ensures.faults)

pub returns-in-Some-clause-reads : goal.returns-in-Some-clause-reads
returns-in-Some-clause-reads g c = λ is. absurd (read_never c.in-Some.stop _ _ _ c.in-Some.ensures is)

pub returns-in-Some-clause-writes : goal.returns-in-Some-clause-writes
returns-in-Some-clause-writes g c = failed_behind c.in-Some.stop _ _ _ _ _ _ _ c.in-Some.ensures c.messages.invariant.writes c.next_message.ensures.unwritten.1 c.turn-said.ensures.turned.sent.failed

pub returns-in-Some-clause-same : goal.returns-in-Some-clause-same
returns-in-Some-clause-same g c = g.met.O.Office.same_onward _ _ _ c.messages.invariant.same c.turn-said.ensures.same

-- ---- it goes on

pub messages-preserved : goal.messages-preserved
messages-preserved g c =
    let put = last_put _ _ _ _ _ c.in-Ok-push.ensures.ok c.put_last.ensures in
    record {
      answered = turned_whole _ _ _ _ _ _ _ _ _ _ _ _ _ _ _ _ _ _ _ c.messages.invariant.answered c.turn-said.ensures.turned c.next_message.ensures.unwritten.0 c.in-None.ensures.0
          (λ ms took. took_next c.streams.ensures _ _ _ _ _ _ c.in-Ok.message ms took c.in-Ok.ensures.next c.turn-said.ensures.unread.0 c.in-None.ensures.2) put;
      clock = rw put (clocked_on _ _ _ _ _ _ _ _ c.messages.invariant.clock c.turn-said.ensures.clock);
      faults = rw put (rise_on c.messages.trace _ _ _ _ c.messages.invariant.faults c.turn-said.ensures.faults);
      reads = omega (arith, c.messages.invariant.reads, c.next_message.ensures.later, c.turn-said.ensures.unread.1);
      writes = omega (arith, c.messages.invariant.writes, c.next_message.ensures.unwritten.1, c.turn-said.ensures.turned.sent.failed);
      same = g.met.O.Office.same_onward _ _ _ c.messages.invariant.same c.turn-said.ensures.same;
      had = rw put (clock_more c.messages.trace _ c.messages.invariant.had c.in-None.ensures.1);
      size = omega (arith, c.messages-test.true, size_more _ _ _ put);
    }

-- ---- so many are answered

pub returns-clause-answered : goal.returns-clause-answered
returns-clause-answered g c =
    answered_as _ _ _ _ _ _ c.messages.invariant.answered (λ pieces w. w) (λ ms size took. enough c.streams.ensures _ _ _ ms took (omega (arith, size, c.messages-test.false, c.messages.invariant.size)))

pub returns-clause-at : goal.returns-clause-at
returns-clause-at g c = c.messages.invariant.had

pub returns-clause-reads : goal.returns-clause-reads
returns-clause-reads g c = λ is. absurd (cc is)
