use Rattle.std.proofs.Common.{◌≡◌, ◌<◌, ◌≤◌, ◌+◌, ◌-◌, length, length-drop, drop, Some, None, sym, ap, ◌∙◌, arith}
use Rattle.std.specs.Prelude.{slice_index}
use Rattle.std.proofs.lemmas.List.{take_rest}
use Rattle.cel_lexeme.specs.Front.{item_at, item_len}
use Rattle.cel_lexeme.proofs.Bodies.{turn_at, closed_at, refused_at, ended_at}
use Rattle.cel_lexeme.proofs.strings.body_at.Goals as goal

pub returns-then-closes-clause-value : goal.returns-then-closes-clause-value
returns-then-closes-clause-value c =
    let rest = c.loop-rest.rest.now in
    let some : 0 < length rest = omega arith in
    ap (λ n. Some (record { value = c.loop-rest.value; sound = c.loop-rest.sound; len = length c.args.z.now - length rest + n })) c.quotes_len.ensures.value
    ∙ sym (closed_at c.args.form rest c.loop-rest.value c.loop-rest.sound _ some (sym c.if-closes.ensures.value))
    ∙ c.loop-rest.invariant.0

pub returns-in_default-item_at-clause-value : goal.returns-in_default-item_at-clause-value
returns-in_default-item_at-clause-value c =
    let rest = c.loop-rest.rest.now in
    let some : 0 < length rest = omega arith in
    let no : item_at c.args.form (slice_index rest 0) (drop 1 rest) ≡ None = sym (rw (take_rest rest 1) at c.in_default-item_at.ensures.value) in
    sym (refused_at c.args.form rest c.loop-rest.value c.loop-rest.sound _ some (sym c.if-closes.ensures.value) no)
    ∙ c.loop-rest.invariant.0

pub loop-rest-preserved : goal.loop-rest-preserved
loop-rest-preserved c =
    let rest = c.loop-rest.rest.now in
    let some : 0 < length rest = omega arith in
    let item : item_at c.args.form (slice_index rest 0) (drop 1 rest) ≡ Some c.in-Some.item = sym (rw (take_rest rest 1) at c.in-Some.ensures.value) in
    let fits : item_len c.in-Some.item ≤ length rest = let w = rw (take_rest rest 1) at c.in-Some.ensures.within in omega (arith, length-drop 1 rest, w) in
    let e = turn_at c.args.form rest c.loop-rest.value c.loop-rest.sound c.in-Some.item (length c.args.z.now) some (sym c.if-closes.ensures.value) item fits c.loop-rest.invariant.1 in (
      rw (c.in_ok-sound.ensures.value, c.in_ok-sound.ensures.sound, take_rest rest c.item_len.result, c.item_len.ensures.value) (sym e ∙ c.loop-rest.invariant.0),
      rw (take_rest rest c.item_len.result) (omega (arith, length-drop c.item_len.result rest, c.loop-rest.invariant.1)),
    )

pub returns-clause-value : goal.returns-clause-value
returns-clause-value c =
    sym (ended_at c.args.form c.loop-rest.rest.now c.loop-rest.value c.loop-rest.sound _ (omega arith)) ∙ c.loop-rest.invariant.0
