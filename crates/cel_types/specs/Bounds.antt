-- Values within their ranges.
use Rattle.std.specs.Prelude.{Bool, ◌&&◌, if◌then◌else◌, ℤ, pos, negsuc, ◌*ℤ◌}
use Rattle.std.specs.Int.RustNames.{int_le, int_div, int_rem}
use Rattle.std.specs.Ordering.{int_eq}
use Rattle.cel_value.specs.declared.value.EvalFault.TheVariants.{Overflow, ZeroDivisor, Range}
use Rattle.cel_value.specs.declared.value.Outcome.{Outcome}
use Rattle.cel_value.specs.declared.value.Outcome.TheVariants.{Given, Stopped}
use Rattle.cel_value.specs.declared.value.Value.TheVariants as value

abbrev pub is_between : ℤ → ℤ → ℤ → Bool
is_between low high n = int_le low n && int_le n high

-- an integer of 64 bits
abbrev pub is_int : ℤ → Bool
is_int n = is_between (negsuc 9_223_372_036_854_775_807) (pos 9_223_372_036_854_775_807) n

-- nanoseconds since 1970 from 0001-01-01T00:00:00Z to 9999-12-31T23:59:59.999999999Z
abbrev pub is_time : ℤ → Bool
is_time t = is_between (negsuc 62_135_596_799_999_999_999) (pos 253_402_300_799_999_999_999) t

-- nanoseconds up to 315,576,000,000 seconds either way
abbrev pub is_length : ℤ → Bool
is_length d = is_between (negsuc 315_575_999_999_999_999_999) (pos 315_576_000_000_000_000_000) d

abbrev pub int_outcome : ℤ → Outcome
int_outcome n = if is_int n then Given (value.Int n) else Stopped Overflow

abbrev pub time_outcome : ℤ → Outcome
time_outcome t = if is_time t then Given (value.Time t) else Stopped Range

abbrev pub length_outcome : ℤ → Outcome
length_outcome d = if is_length d then Given (value.Length d) else Stopped Range

-- division truncates towards zero
abbrev pub quotient_outcome : ℤ → ℤ → Outcome
quotient_outcome m n = if int_eq n (pos 0) then Stopped ZeroDivisor else int_outcome (int_div m n)

-- the remainder has the sign of the dividend, and overflows where the quotient does
abbrev pub remainder_outcome : ℤ → ℤ → Outcome
remainder_outcome m n =
    if int_eq n (pos 0) then Stopped ZeroDivisor
    else (if is_int (int_div m n) then Given (value.Int (int_rem m n)) else Stopped Overflow)

abbrev pub nanos_of_seconds : ℤ → ℤ
nanos_of_seconds s = s *ℤ pos 1_000_000_000

abbrev pub nanos_of_minutes : ℤ → ℤ
nanos_of_minutes m = m *ℤ pos 60_000_000_000
