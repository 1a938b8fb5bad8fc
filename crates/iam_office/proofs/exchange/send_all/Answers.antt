use Rattle.std.proofs.Common.{arith, ◌∙◌}
use Rattle.iam_office.proofs.Pieces.{piece_within, sent_more}
use Rattle.iam_office.proofs.exchange.send_all.Goals as goal

pub loop-at-preserved : goal.loop-at-preserved
loop-at-preserved g c = record {
  within = omega (arith, piece_within c.args.bytes.now c.loop-at.at c.in_ok-at.field-0 c.in_ok-at.ensures.some.1);
  sent = sent_more _ _ _ c.args.bytes.now c.loop-at.at c.in_ok-at.field-0 c.in_ok-at.ensures.some.1 c.loop-at.invariant.sent c.in_ok-at.ensures.bytes;
  later = omega arith;
  left = c.send.ensures.left ∙ c.loop-at.invariant.left;
  read_faults = c.send.ensures.read_faults ∙ c.loop-at.invariant.read_faults;
}
