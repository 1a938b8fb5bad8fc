use Rattle.std.proofs.Common.{◌≡◌, ℕ, List, Bool, ap, sym, ◌∙◌, arith, bytes_eq, true, false, refl}
use Rattle.std.specs.List.{list_all}
use Rattle.std.proofs.lemmas.Bool.{not-true, not-false}
use Rattle.iam_wire.proofs.Named.{left_named, left_other, none_span}
use Rattle.iam_wire.proofs.Tested.{all_step}
use Rattle.iam_wire.proofs.values.all_named_are.Goals as goal
use Rattle.iam_wire.proofs.values.all_named_are.Goals.{then-eq_ignore_ascii_case+else-ne, else-eq_ignore_ascii_case}

pub returns-then-ne : goal.returns-then-ne
returns-then-ne c =
    let here = left_named c.args.name.now c.args.buf.now c.of.result.now c.args.headers.now c.loop-header.header-index none_span c.eq_ignore_ascii_case.result (omega arith) c.of.ensures c.eq_ignore_ascii_case.ensures.test c.if-eq_ignore_ascii_case.true in
    let other : bytes_eq c.args.value.now c.of-then-eq_ignore_ascii_case.result.now ≡ false = not-true _ (sym c.if-ne.ensures) in
    rw (← c.loop-header.invariant, here, ← c.of-then-eq_ignore_ascii_case.ensures, other) refl

pub loop-header-preserved : goal.loop-header-preserved
loop-header-preserved c =
    elim c.if-eq_ignore_ascii_case.branch [
      | then-eq_ignore_ascii_case+else-ne w ↦
          let here = left_named c.args.name.now c.args.buf.now c.of.result.now c.args.headers.now c.loop-header.header-index none_span c.eq_ignore_ascii_case.result (omega arith) c.of.ensures c.eq_ignore_ascii_case.ensures.test w.if-eq_ignore_ascii_case.true in
          let f : List (List ℕ) → Bool = list_all (bytes_eq c.args.value.now) in
          let same : bytes_eq c.args.value.now w.of-then-eq_ignore_ascii_case.result.now ≡ true = not-false _ (sym w.if-ne.ensures) in
          sym (ap f here ∙ all_step (bytes_eq c.args.value.now) _ _ (ap (bytes_eq c.args.value.now) (sym w.of-then-eq_ignore_ascii_case.ensures) ∙ same)) ∙ c.loop-header.invariant
      | else-eq_ignore_ascii_case w ↦
          let here = left_other c.args.name.now c.args.buf.now c.of.result.now c.args.headers.now c.loop-header.header-index none_span c.eq_ignore_ascii_case.result (omega arith) c.of.ensures c.eq_ignore_ascii_case.ensures.test w.if-eq_ignore_ascii_case.false in
          let f : List (List ℕ) → Bool = list_all (bytes_eq c.args.value.now) in
          sym (ap f here) ∙ c.loop-header.invariant
    ]
