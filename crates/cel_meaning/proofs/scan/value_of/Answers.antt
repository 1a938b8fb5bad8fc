use Rattle.std.proofs.Common.{arith}
use Rattle.std.proofs.lemmas.Str.Parse.{digits_value-take-le}
use Rattle.cel_meaning.proofs.Scanning.{below, more_below, one_more}
use Rattle.cel_meaning.proofs.scan.value_of.Goals as goal

pub overflow_mul-value : goal.overflow_mul-value
overflow_mul-value c =
    let most = more_below c.args.digits.now c.loop-digit.digit-index c.requires.digits c.requires.short c.loop-digit-test.true in
    omega (arith, most, c.loop-digit.invariant)

pub overflow_add-value : goal.overflow_add-value
overflow_add-value c =
    let most = more_below c.args.digits.now c.loop-digit.digit-index c.requires.digits c.requires.short c.loop-digit-test.true in
    omega (arith, most, c.loop-digit.invariant, c.digit_value.ensures.value)

pub loop-digit-preserved : goal.loop-digit-preserved
loop-digit-preserved c =
    let more = one_more c.args.digits.now c.loop-digit.digit-index c.loop-digit-test.true in
    omega (arith, more, c.loop-digit.invariant, c.digit_value.ensures.value)

pub returns-clause-bound : goal.returns-clause-bound
returns-clause-bound c =
    let whole = below c.args.digits.now 18 c.requires.digits c.requires.short in
    let front = digits_value-take-le 10 c.args.digits.now c.loop-digit.digit-index (omega arith) in
    omega (arith, whole, front, c.loop-digit.invariant)
