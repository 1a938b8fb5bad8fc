use Rattle.std.proofs.Common.{◌≡◌, ◌+◌, get_or, ap, sym, ◌∙◌, arith, true, false, refl}
use Rattle.std.specs.List.{list_any}
use Rattle.iam_wire.specs.Front.{names_close}
use Rattle.httparse.specs.Spans.{span_bytes}
use Rattle.iam_wire.proofs.Named.{left, left_named, left_other, none_span}
use Rattle.iam_wire.proofs.Tested.{any_step}
use Rattle.iam_wire.proofs.options.any_names_close.Goals as goal
use Rattle.iam_wire.proofs.options.any_names_close.Goals.{then-eq_ignore_ascii_case+else-names_close, else-eq_ignore_ascii_case}

pub returns-then-names_close : goal.returns-then-names_close
returns-then-names_close c =
    let here = left_named c.args.name.now c.args.buf.now c.of.result.now c.args.headers.now c.loop-header.header-index none_span c.eq_ignore_ascii_case.result (omega arith) c.of.ensures c.eq_ignore_ascii_case.ensures.test c.if-eq_ignore_ascii_case.true in
    let hit : names_close c.of-then-eq_ignore_ascii_case.result.now ≡ true = cc in
    rw (← c.loop-header.invariant, here, ← c.of-then-eq_ignore_ascii_case.ensures, hit) refl

pub loop-header-preserved : goal.loop-header-preserved
loop-header-preserved c =
    elim c.if-eq_ignore_ascii_case.branch [
      | then-eq_ignore_ascii_case+else-names_close w ↦
          let here = left_named c.args.name.now c.args.buf.now c.of.result.now c.args.headers.now c.loop-header.header-index none_span c.eq_ignore_ascii_case.result (omega arith) c.of.ensures c.eq_ignore_ascii_case.ensures.test w.if-eq_ignore_ascii_case.true in
          let miss : names_close w.of-then-eq_ignore_ascii_case.result.now ≡ false = cc in
          sym (ap (list_any names_close) here ∙ any_step names_close (span_bytes c.args.buf.now (get_or c.args.headers.now c.loop-header.header-index none_span).value) (left c.args.name.now c.args.buf.now c.args.headers.now (c.loop-header.header-index + 1)) (ap names_close (sym w.of-then-eq_ignore_ascii_case.ensures) ∙ miss)) ∙ c.loop-header.invariant
      | else-eq_ignore_ascii_case w ↦
          let here = left_other c.args.name.now c.args.buf.now c.of.result.now c.args.headers.now c.loop-header.header-index none_span c.eq_ignore_ascii_case.result (omega arith) c.of.ensures c.eq_ignore_ascii_case.ensures.test w.if-eq_ignore_ascii_case.false in
          sym (ap (list_any names_close) here) ∙ c.loop-header.invariant
    ]
