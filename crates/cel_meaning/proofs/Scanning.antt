-- Digits at the front of a text, and their value.
use Rattle.std.proofs.Common.{◌≡◌, ℕ, ◌+◌, ◌*◌, ◌/◌, ◌<◌, ◌≤◌, ◌^◌, Bool, true, false, cond, List, [], ◌∷◌, length, take, get_or, refl, sym, subst, arith}
use Rattle.std.specs.Char.{digit_value, is_ascii_digit}
use Rattle.std.specs.List.{prefix_len, take_while}
use Rattle.std.specs.Str.Parse.{AllDigits, digits_value}
use Rattle.std.proofs.lemmas.Bool.Decides.{nat_tests}
use Rattle.std.proofs.lemmas.Int.Digits.{digits_value-lt, digits_value_more}
use Rattle.std.proofs.lemmas.Nat.{mul-le}
use Rattle.std.proofs.lemmas.Str.Parse.{digits_value-take-le}
use Rattle.std.proofs.Math.Nat.{div-le_self, pow-le-pow_right}
use Rattle.std.proofs.Math.Numerals.{one-add}

digit_below : (c : ℕ) → is_ascii_digit c ≡ true → digit_value c < 10
digit_below c is = grind (arith, nat_tests)

pub all_digits : (text : List ℕ) → AllDigits 10 (take_while is_ascii_digit text)
all_digits [] = tt
all_digits (c ∷ cs) = by (is_ascii_digit c) refl (all_digits cs)
  where
    by : (b : Bool) → is_ascii_digit c ≡ b → AllDigits 10 (take_while is_ascii_digit cs) → AllDigits 10 (take (cond b (1 + prefix_len is_ascii_digit cs) 0) (c ∷ cs))
    by true is rest = subst (λ (n : ℕ). AllDigits 10 (take n (c ∷ cs))) (sym (one-add (prefix_len is_ascii_digit cs))) (digit_below c is, rest)
    by false is rest = tt

-- so many digits write a number below that power of ten
pub below : (digits : List ℕ) (k : ℕ) → AllDigits 10 digits → length digits ≤ k → digits_value 10 digits < 10 ^ k
below digits k all few =
    let value : digits_value 10 digits < 10 ^ length digits = digits_value-lt 10 digits all in
    let power : 10 ^ length digits ≤ 10 ^ k = pow-le-pow_right (omega arith) few in
    omega (arith, value, power)

-- one digit more
pub one_more : (digits : List ℕ) (i : ℕ) → i < length digits → digits_value 10 (take i digits) * 10 + digit_value (get_or digits i 0) ≡ digits_value 10 (take (i + 1) digits)
one_more digits i within = sym (digits_value_more 10 digits i within)

pub more_below : (digits : List ℕ) (i : ℕ) → AllDigits 10 digits → length digits ≤ 18 → i < length digits → digits_value 10 (take i digits) * 10 + digit_value (get_or digits i 0) < 10 ^ 18
more_below digits i all few within =
    let whole : digits_value 10 digits < 10 ^ 18 = below digits 18 all few in
    let front : digits_value 10 (take (i + 1) digits) ≤ digits_value 10 digits = digits_value-take-le 10 digits (i + 1) (omega arith) in
    let more = one_more digits i within in
    omega (arith, whole, front, more)

-- nanoseconds of digits of a unit
pub product_below : (value nanos : ℕ) → value < 10 ^ 18 → nanos ≤ 3_600_000_000_000 → value * nanos ≤ 36 * 10 ^ 29
product_below value nanos small unit =
    let most : value * nanos ≤ 10 ^ 18 * 3_600_000_000_000 = mul-le value nanos (10 ^ 18) 3_600_000_000_000 (omega (arith, small)) unit in
    omega (arith, most)

pub fraction_below : (value nanos power : ℕ) → value < 10 ^ 18 → nanos ≤ 3_600_000_000_000 → value * nanos / power ≤ 36 * 10 ^ 29
fraction_below value nanos power small unit =
    let most : value * nanos ≤ 36 * 10 ^ 29 = product_below value nanos small unit in
    let part : value * nanos / power ≤ value * nanos = div-le_self (value * nanos) power in
    omega (arith, most, part)
