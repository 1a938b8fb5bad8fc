-- What no 128 bits hold is no time.
use Rattle.std.proofs.Common.{◌≡◌, true, false, arith, ℤ, pos, negsuc, FitsSigned}
use Rattle.std.specs.Int.{w128}
use Rattle.std.specs.Int.RustNames.{int_le}
use Rattle.std.proofs.lemmas.Bool.{and_parts, false_from_ne_true, leb-true}
use Rattle.cel_types.specs.Bounds.{is_time}

time_fits : (t : ℤ) → is_time t ≡ true → FitsSigned w128 t
time_fits (pos n) is =
    let high : int_le (pos n) (pos 253_402_300_799_999_999_999) ≡ true =
    (and_parts (int_le (negsuc 62_135_596_799_999_999_999) (pos n)) (int_le (pos n) (pos 253_402_300_799_999_999_999)) is).1 in
    record { sfits = omega (arith, leb-true n 253_402_300_799_999_999_999 high) }
time_fits (negsuc n) is =
    let low : int_le (negsuc 62_135_596_799_999_999_999) (negsuc n) ≡ true =
    (and_parts (int_le (negsuc 62_135_596_799_999_999_999) (negsuc n)) (int_le (negsuc n) (pos 253_402_300_799_999_999_999)) is).0 in
    record { sfits = omega (arith, leb-true n 62_135_596_799_999_999_999 low) }

pub beyond : (t : ℤ) → ¬ FitsSigned w128 t → is_time t ≡ false
beyond t h = false_from_ne_true (is_time t) (λ is. h (time_fits t is))
