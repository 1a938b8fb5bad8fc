use Rattle.std.proofs.Common.{◌≡◌, ◌+◌, get_or, ap, sym, ◌∙◌, arith, true, false, refl}
use Rattle.std.specs.List.{list_all}
use Rattle.iam_wire.specs.Front.{is_identity}
use Rattle.httparse.specs.Spans.{span_bytes}
use Rattle.iam_wire.proofs.Named.{left, left_named, left_other, none_span}
use Rattle.iam_wire.proofs.Tested.{all_step}
use Rattle.iam_wire.proofs.values.all_named_identity.Goals as goal
use Rattle.iam_wire.proofs.values.all_named_identity.Goals.{then-eq_ignore_ascii_case+else-not-is_identity, else-eq_ignore_ascii_case}

pub returns-then-not-is_identity : goal.returns-then-not-is_identity
returns-then-not-is_identity c =
    let here = left_named c.args.name.now c.args.buf.now c.of.result.now c.args.headers.now c.loop-header.header-index none_span c.eq_ignore_ascii_case.result (omega arith) c.of.ensures c.eq_ignore_ascii_case.ensures.test c.if-eq_ignore_ascii_case.true in
    let other : is_identity c.of-then-eq_ignore_ascii_case.result.now ≡ false = cc in
    rw (← c.loop-header.invariant, here, ← c.of-then-eq_ignore_ascii_case.ensures, other) refl

pub loop-header-preserved : goal.loop-header-preserved
loop-header-preserved c =
    elim c.if-eq_ignore_ascii_case.branch [
      | then-eq_ignore_ascii_case+else-not-is_identity w ↦
          let here = left_named c.args.name.now c.args.buf.now c.of.result.now c.args.headers.now c.loop-header.header-index none_span c.eq_ignore_ascii_case.result (omega arith) c.of.ensures c.eq_ignore_ascii_case.ensures.test w.if-eq_ignore_ascii_case.true in
          let same : is_identity w.of-then-eq_ignore_ascii_case.result.now ≡ true = cc in
          sym (ap (list_all is_identity) here ∙ all_step is_identity (span_bytes c.args.buf.now (get_or c.args.headers.now c.loop-header.header-index none_span).value) (left c.args.name.now c.args.buf.now c.args.headers.now (c.loop-header.header-index + 1)) (ap is_identity (sym w.of-then-eq_ignore_ascii_case.ensures) ∙ same)) ∙ c.loop-header.invariant
      | else-eq_ignore_ascii_case w ↦
          let here = left_other c.args.name.now c.args.buf.now c.of.result.now c.args.headers.now c.loop-header.header-index none_span c.eq_ignore_ascii_case.result (omega arith) c.of.ensures c.eq_ignore_ascii_case.ensures.test w.if-eq_ignore_ascii_case.false in
          sym (ap (list_all is_identity) here) ∙ c.loop-header.invariant
    ]
