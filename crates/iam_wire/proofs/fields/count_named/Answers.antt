use Rattle.std.proofs.Common.{arith, length, ap}
use Rattle.iam_wire.proofs.Named.{left_named, left_other, none_span}
use Rattle.iam_wire.proofs.fields.count_named.Goals as goal
use Rattle.iam_wire.proofs.fields.count_named.Goals.{then-eq_ignore_ascii_case, else-eq_ignore_ascii_case}

pub loop-header-preserved : goal.loop-header-preserved
loop-header-preserved c =
    elim c.if-eq_ignore_ascii_case.branch [
      | then-eq_ignore_ascii_case w ↦ let here = left_named c.args.name.now c.args.buf.now c.of.result.now c.args.headers.now c.loop-header.header-index none_span c.eq_ignore_ascii_case.result (omega arith) c.of.ensures c.eq_ignore_ascii_case.ensures.test w.if-eq_ignore_ascii_case.true in record { few = omega arith; so = omega (arith, ap length here) }
      | else-eq_ignore_ascii_case w ↦ let here = left_other c.args.name.now c.args.buf.now c.of.result.now c.args.headers.now c.loop-header.header-index none_span c.eq_ignore_ascii_case.result (omega arith) c.of.ensures c.eq_ignore_ascii_case.ensures.test w.if-eq_ignore_ascii_case.false in record { few = omega arith; so = omega (arith, ap length here) }
    ]
