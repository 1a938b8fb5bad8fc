-- What `parse` gives of digits.
use Rattle.std.proofs.Common.{◌≡◌, ℕ, ◌<◌, ◌^◌, true, List, Ok, Result, arith, rules}
use Rattle.std.specs.List.{list_all}
use Rattle.std.specs.Str.Parse.{digits_value, ParsesUnsigned}
use Rattle.std.proofs.lemmas.Str.Parse.{IsDigitsTest, IsNumeralModel, numerals_by_value, parse_gives, digits_value_short}
use Rattle.iam_names.specs.Bytes.{is_digit}
use Rattle.iam_names.specs.Digits.{IsDigits}

tells_digits : IsDigitsTest (λ ds. list_all is_digit ds ≡ true)
tells_digits = search rules

own : IsNumeralModel (λ ds. list_all is_digit ds ≡ true) (digits_value 10)
own = numerals_by_value _ tells_digits

below : (text : List ℕ) → IsDigits text → digits_value 10 text < 2 ^ 64
below text has =
    let short : digits_value 10 text < 10 ^ 19 = digits_value_short own text 19 has.2 has.1 in
    omega (arith, short)

pub digits_read : {E : Type 0} (text : List ℕ) (r : Result ℕ E) → ParsesUnsigned 64 10 text r → IsDigits text → r ≡ Ok (digits_value 10 text)
digits_read text r parsed has = parse_gives own 64 text r parsed has.2 (omega arith) (below text has)
