use Rattle.std.proofs.Common.{◌+◌, ap, sym, ◌∙◌, arith, bytes_eq, ◌∷◌, map}
use Rattle.std.specs.List.{list_all}
use Rattle.std.proofs.lemmas.List.{take_rest}
use Rattle.httparse.specs.Spans.{header_bytes}
use Rattle.iam_wire.specs.Fields.{values_named}
use Rattle.iam_wire.proofs.Named.{left, left_named, left_other, none_span}
use Rattle.iam_wire.proofs.values.first_named.Goals as goal

pub returns-then-eq_ignore_ascii_case : goal.returns-then-eq_ignore_ascii_case
returns-then-eq_ignore_ascii_case c =
    let here = left_named c.args.name.now c.args.buf.now c.of.result.now c.args.headers.now c.loop-i.i none_span c.eq_ignore_ascii_case.result (omega arith) c.of.ensures c.eq_ignore_ascii_case.ensures.test c.if-eq_ignore_ascii_case.true in (
      left c.args.name.now c.args.buf.now c.args.headers.now (c.loop-i.i + 1),
      sym c.loop-i.invariant ∙ here ∙ ap (λ v. v ∷ left c.args.name.now c.args.buf.now c.args.headers.now (c.loop-i.i + 1)) (sym c.of-value.ensures),
      c.all_named_are.ensures ∙ ap (λ hs. list_all (bytes_eq c.of-value.result.now) (values_named c.args.name.now (map (header_bytes c.args.buf.now) hs))) (take_rest c.args.headers.now (c.loop-i.i + 1)),
    )

pub loop-i-preserved : goal.loop-i-preserved
loop-i-preserved c =
    sym (left_other c.args.name.now c.args.buf.now c.of.result.now c.args.headers.now c.loop-i.i none_span c.eq_ignore_ascii_case.result (omega arith) c.of.ensures c.eq_ignore_ascii_case.ensures.test c.if-eq_ignore_ascii_case.false) ∙ c.loop-i.invariant
