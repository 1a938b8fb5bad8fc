use Rattle.std.proofs.Common.{◌∙◌, ap, arith, length, length-append, refl}
use Rattle.iam_office.specs.Answering.{IsLooked}
use Rattle.iam_office.proofs.Clocks.{rise_later}
use Rattle.iam_office.proofs.Streaming.{next_stopped, next_took, read_more, read_none}
use Rattle.iam_office.proofs.exchange.next_message.Goals as goal

pub pieces-init : goal.pieces-init
pieces-init g c = record { so = read_none _ _; later = omega arith; taken = refl; write_faults = refl }

pub returns-in-Took-clause-next : goal.returns-in-Took-clause-next
returns-in-Took-clause-next g c = next_took _ _ _ _ _ _ _ c.pieces.invariant.so c.in-Took.ensures.looked.0 c.in-Took.ensures.looked.1

pub returns-in-Stopped-clause-next : goal.returns-in-Stopped-clause-next
returns-in-Stopped-clause-next g c = next_stopped _ _ _ _ _ _ c.pieces.invariant.so c.in-Stopped.ensures.looked

pub pieces-preserved : goal.pieces-preserved
pieces-preserved g c = record {
  so = read_more _ _ _ _ _ _ c.pieces.invariant.so c.in-Read.ensures.looked.0 c.in-Read.ensures.looked.1 c.in-Read.ensures.looked.2;
  later = omega (arith, c.pieces.invariant.later, c.look.ensures.later);
  taken = c.look.ensures.unwritten.0 ∙ c.pieces.invariant.taken;
  write_faults = c.look.ensures.unwritten.1 ∙ c.pieces.invariant.write_faults;
}

pub pieces-smaller : goal.pieces-smaller
pieces-smaller g c = let looked = c.in-Read.ensures.looked in omega (arith, looked.3, looked.4, ap length looked.2, length-append c.pieces.wire looked.0)
