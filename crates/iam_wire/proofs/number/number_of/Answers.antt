use Rattle.std.proofs.Common.{◌<◌, sym, arith, get_or, length, refl}
use Rattle.std.proofs.lemmas.Int.Digits.{digits_value_more}
use Rattle.std.proofs.lemmas.List.Folds.{list_all_more}
use Rattle.std.specs.Char.{is_ascii_digit, digit_value}
use Rattle.iam_wire.proofs.Digits.{digit_is, below_next, below_all}
use Rattle.iam_wire.proofs.number.number_of.Goals as goal

pub overflow_mul-number : goal.overflow_mul-number
overflow_mul-number c = omega (arith, below_all c.loop-byte.byte-index c.loop-byte.number 0 (omega arith) c.loop-byte.invariant.below (omega arith))

pub overflow_add-number : goal.overflow_add-number
overflow_add-number c =
    let b = get_or c.args.text.now c.loop-byte.byte-index 0 in
    let small : digit_value b < 10 = c.if-not-is_ascii_digit.ensures.bound in
    omega (arith, digit_is b small, below_all c.loop-byte.byte-index c.loop-byte.number (digit_value b) (omega arith) c.loop-byte.invariant.below small)

pub loop-byte-preserved : goal.loop-byte-preserved
loop-byte-preserved c =
    let b = get_or c.args.text.now c.loop-byte.byte-index 0 in
    let small : digit_value b < 10 = c.if-not-is_ascii_digit.ensures.bound in
    let is = digit_is b small in
    let lt : c.loop-byte.byte-index < length c.args.text.now = omega arith in
    record {
      below = rw (← is) (below_next c.loop-byte.byte-index c.loop-byte.number (digit_value b) c.loop-byte.invariant.below small);
      so = rw (← is, digits_value_more 10 c.args.text.now c.loop-byte.byte-index lt, ← c.loop-byte.invariant.so) refl;
      digits = rw (list_all_more is_ascii_digit c.args.text.now c.loop-byte.byte-index 0 lt, c.loop-byte.invariant.digits) (sym c.if-not-is_ascii_digit.ensures.value);
    }
