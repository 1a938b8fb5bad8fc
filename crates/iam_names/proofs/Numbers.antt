-- Numbers of nodes and their digits.
use Rattle.std.proofs.Common.{◌≡◌, ◌≢◌, ◌↔◌, ℕ, ◌<◌, ◌≤◌, ◌^◌, true, List, [], ◌∷◌, length, get_or, Ok, Result, Some, None, Option, refl, sym, ap, ◌∙◌, subst, arith, rules, lit<}
use Rattle.std.specs.Fmt.{decimal}
use Rattle.std.specs.Prelude.{nat_le}
use Rattle.std.proofs.lemmas.Bool.{and_parts, leb-true}
use Rattle.std.specs.List.{list_all}
use Rattle.std.specs.Str.Parse.{digits_value, ParsesUnsigned}
use Rattle.std.proofs.lemmas.Str.Parse.{IsDigitsTest, IsNumeralModel, numerals_by_value, parse_gives, digits_value_short}
use Rattle.std.proofs.lemmas.Fmt.{digits_decimal, digits_value-decimal, decimal-digits_value, length-decimal-le, decimal_nonempty, first_decimal, decimal_digit}
use Rattle.std.specs.Option.{IsSome, IfSome}
use Rattle.iam_names.specs.Bytes.{is_digit}
use Rattle.iam_names.specs.Number.{HasNumberDigits, IsNodeNumber, IsNumber}
use Rattle.iam_names.specs.Reading.{IsRead, ReadsBack}

tells_digits : IsDigitsTest (λ ds. list_all is_digit ds ≡ true)
tells_digits = search rules

own : IsNumeralModel (λ ds. list_all is_digit ds ≡ true) (digits_value 10)
own = numerals_by_value _ tells_digits

below : (text : List ℕ) → HasNumberDigits text → digits_value 10 text < 2 ^ 64
below text has =
    let short : digits_value 10 text < 10 ^ 19 = digits_value_short own text 19 has.0.2 has.0.1 in
    omega (arith, short)

-- what `parse` gives of the digits
pub digits_parsed : {E : Type 0} (text : List ℕ) (r : Result ℕ E) → ParsesUnsigned 64 10 text r → HasNumberDigits text → r ≡ Ok (digits_value 10 text)
digits_parsed text r parsed has = parse_gives own 64 text r parsed has.0.2 (omega arith) (below text has)

-- the digits are what is written of their value
pub digits_written : (text : List ℕ) → HasNumberDigits text → text ≡ decimal (digits_value 10 text)
digits_written text has = sym (decimal-digits_value own text has.0.2 (omega arith) (λ zero_first. absurd (has.1 zero_first)) (below text has))

-- no digits without a leading zero give zero
pub digits_positive : (text : List ℕ) → HasNumberDigits text → 1 ≤ digits_value 10 text
digits_positive text has =
    let not_zero : digits_value 10 text ≢ 0 = λ zero. has.1 (ap (λ (t : List ℕ). get_or t 0 0) (digits_written text has ∙ ap decimal zero ∙ decimal_digit 0 (lit< tt))) in
    omega arith

-- what is written of a number has its form
pub written_is_number : (n : ℕ) → IsNodeNumber n → IsNumber (decimal n)
written_is_number n is =
    let fits : n < 2 ^ 64 = omega arith in
    let first : 48 < get_or (decimal n) 0 0 = first_decimal n (omega arith) fits in
    let some : 0 < length (decimal n) = decimal_nonempty n fits in
    let few : length (decimal n) ≤ 19 = length-decimal-le 19 n (omega arith) (omega arith) fits in
    (((some, few, digits_decimal own n fits), λ zero. omega (arith, zero)), subst IsNodeNumber (sym (digits_value-decimal own n fits)) is)

-- digits begin with a digit
pub first_digit : (text : List ℕ) → 1 ≤ length text → list_all is_digit text ≡ true → (48 ≤ get_or text 0 0) × (get_or text 0 0 ≤ 57)
first_digit [] some all = absurd (omega (arith, some))
first_digit (byte ∷ more) some all =
    let first = (and_parts (is_digit byte) (list_all is_digit more) all).0 in
    let bounds = and_parts (nat_le 48 byte) (nat_le byte 57) first in
    (leb-true 48 byte bounds.0, leb-true byte 57 bounds.1)

-- a text without the form is not written of a number
pub not_written : (text : List ℕ) → ¬ IsNumber text → (n : ℕ) → IsNodeNumber n → text ≢ decimal n
not_written text not n is same = not (subst IsNumber (sym same) (written_is_number n is))

-- a value exactly for the texts with the form is read, and back
pub number_read : (text : List ℕ) (r : Option ℕ) → IsSome r ↔ IsNumber text → IfSome r (λ n. n ≡ digits_value 10 text) → IsRead IsNodeNumber decimal text r × ReadsBack IsNodeNumber decimal text r
number_read text None form value =
    let none : (n : ℕ) → IsNodeNumber n → text ≢ decimal n = not_written text (λ is. cc (form.1 is)) in
    (none, λ n is same. absurd (none n is same))
number_read text (Some v) form value =
    let is : IsNumber text = form.0 refl in (
      (subst IsNodeNumber (sym value) is.1, digits_written text is.0 ∙ ap decimal (sym value)),
      λ n formed same. ap Some (value ∙ ap (λ t. digits_value 10 t) same ∙ digits_value-decimal own n (omega arith)),
    )
