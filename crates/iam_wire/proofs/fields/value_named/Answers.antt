use Rattle.std.proofs.Common.{◌≡◌, ◌+◌, ◌∷◌, [], length, map, ap, sym, ◌∙◌, arith}
use Rattle.std.proofs.lemmas.List.{take_rest}
use Rattle.httparse.specs.Spans.{header_bytes}
use Rattle.iam_wire.specs.Fields.{values_named}
use Rattle.iam_wire.proofs.Named.{left, left_named, left_other, none_span}
use Rattle.iam_wire.proofs.Bytes.{nothing_else}
use Rattle.iam_wire.proofs.fields.value_named.Goals as goal

pub returns-then-count_named-eq0 : goal.returns-then-count_named-eq0
returns-then-count_named-eq0 c =
    let here = left_named c.args.name.now c.args.buf.now c.of.result.now c.args.headers.now c.loop-i.i none_span c.eq_ignore_ascii_case.result (omega arith) c.of.ensures c.eq_ignore_ascii_case.ensures.test c.if-eq_ignore_ascii_case.true in
    let others : length (left c.args.name.now c.args.buf.now c.args.headers.now (c.loop-i.i + 1)) ≡ 0 =
    sym (ap (λ hs. length (values_named c.args.name.now (map (header_bytes c.args.buf.now) hs))) (take_rest c.args.headers.now (c.loop-i.i + 1))) ∙ sym c.count_named.ensures ∙ c.if-count_named-eq0.true in
    let single = rw (nothing_else (left c.args.name.now c.args.buf.now c.args.headers.now (c.loop-i.i + 1)) others) at here in
    sym c.loop-i.invariant ∙ single ∙ ap (λ v. v ∷ []) (sym c.of-value.ensures)

pub returns-then-eq_ignore_ascii_case : goal.returns-then-eq_ignore_ascii_case
returns-then-eq_ignore_ascii_case c =
    let here = left_named c.args.name.now c.args.buf.now c.of.result.now c.args.headers.now c.loop-i.i none_span c.eq_ignore_ascii_case.result (omega arith) c.of.ensures c.eq_ignore_ascii_case.ensures.test c.if-eq_ignore_ascii_case.true in
    let others : length (left c.args.name.now c.args.buf.now c.args.headers.now (c.loop-i.i + 1)) ≡ c.count_named.result =
    sym (ap (λ hs. length (values_named c.args.name.now (map (header_bytes c.args.buf.now) hs))) (take_rest c.args.headers.now (c.loop-i.i + 1))) ∙ sym c.count_named.ensures in
    omega (arith, others, ap length here, ap length c.loop-i.invariant, c.if-count_named-eq0.false)

pub loop-i-preserved : goal.loop-i-preserved
loop-i-preserved c =
    sym (left_other c.args.name.now c.args.buf.now c.of.result.now c.args.headers.now c.loop-i.i none_span c.eq_ignore_ascii_case.result (omega arith) c.of.ensures c.eq_ignore_ascii_case.ensures.test c.if-eq_ignore_ascii_case.false) ∙ c.loop-i.invariant
