-- What `timestamp` and `duration` read.
use Rattle.std.specs.Prelude.{ℕ, ◌+◌, ◌*◌, ◌/◌, ◌^◌, ◌==◌, nat_le, Bool, true, false, ◌&&◌, if◌then◌else◌, Option, Some, None, option_and_then, List, [], ◌∷◌, length, take, drop, take_while, slice_index, ℤ, pos, neg_ℤ, ◌+ℤ◌, ◌-ℤ◌, ◌*ℤ◌, codes}
use Rattle.std.specs.Char.{is_ascii_digit, is_ascii_lowercase}
use Rattle.std.specs.Option.{option_map}
use Rattle.std.specs.Str.{bytes_eq}
use Rattle.std.specs.Str.Parse.{digits_value}
use Rattle.jiff_core.specs.Calendar.{days_from_civil, days_in_month}
use Rattle.cel_value.specs.declared.value.EvalFault.TheVariants.{BadTime, BadDuration}
use Rattle.cel_value.specs.declared.value.Outcome.{Outcome}
use Rattle.cel_value.specs.declared.value.Outcome.TheVariants.{Stopped}
use Rattle.cel_types.specs.declared.unit.TimeUnit.{TimeUnit}
use Rattle.cel_types.specs.declared.unit.TimeUnit.TheVariants.{Hour, Minute, Second, Millisecond, Microsecond, Nanosecond}
use Rattle.cel_types.specs.Bounds.{time_outcome, length_outcome, nanos_of_seconds}
use Rattle.cel_types.specs.Zone.{two_digits, offset_minutes}

infixl 10 ◌>>=◌
abbrev ◌>>=◌ : {A B : Type 0} → Option A → (A → Option B) → Option B
o >>= f = option_and_then f o

abbrev pub is_empty : List ℕ → Bool
is_empty text = length text == 0

abbrev pub begins_with : ℕ → List ℕ → Bool
begins_with byte [] = false
begins_with byte (b ∷ bs) = b == byte

-- the digits at the front of a text, and what stands behind them
abbrev pub digits_at : List ℕ → List ℕ
digits_at text = take_while is_ascii_digit text

abbrev pub behind_digits : List ℕ → List ℕ
behind_digits text = drop (length (digits_at text)) text

-- the digits behind a `.` at the front, and what stands behind them
abbrev pub fraction_at : List ℕ → List ℕ
fraction_at text = if begins_with 46 text then digits_at (drop 1 text) else []

abbrev pub behind_fraction : List ℕ → List ℕ
behind_fraction text = if begins_with 46 text then behind_digits (drop 1 text) else text

-- where there is a `.`, 1 to 9 digits stand behind it
abbrev pub has_fraction : List ℕ → Bool
has_fraction text =
    if begins_with 46 text then nat_le 1 (length (fraction_at text)) && nat_le (length (fraction_at text)) 9 else true

-- a fraction of a unit in nanoseconds; what is below a nanosecond is dropped
abbrev pub fraction_nanos : ℕ → List ℕ → ℕ
fraction_nanos nanos digits = digits_value 10 digits * nanos / 10 ^ length digits

-- a day of the calendar, by its number since 1970
abbrev pub is_date : ℕ → ℕ → ℕ → Bool
is_date year month day =
    nat_le 1 month && nat_le month 12 && nat_le 1 day && nat_le day (days_in_month (pos year) month)

abbrev pub day_number : ℕ → ℕ → ℕ → Option ℤ
day_number year month day = if is_date year month day then Some (days_from_civil (pos year) month day) else None

-- a time of day, by its seconds since midnight
abbrev pub is_clock : ℕ → ℕ → ℕ → Bool
is_clock hour minute second = nat_le hour 23 && nat_le minute 59 && nat_le second 59

abbrev pub clock_seconds : ℕ → ℕ → ℕ → Option ℕ
clock_seconds hour minute second = if is_clock hour minute second then Some (3_600 * hour + 60 * minute + second) else None

abbrev date_of_digits : (a b c d e f g h : ℕ) → Option ℤ
date_of_digits a b c d e f g h = do
  century ← two_digits a b
  year ← two_digits c d
  month ← two_digits e f
  day ← two_digits g h
  day_number (100 * century + year) month day

-- `YYYY-MM-DD`, a real date
abbrev pub date_of_text : List ℕ → Option ℤ
date_of_text (a ∷ b ∷ c ∷ d ∷ dash ∷ e ∷ f ∷ dash' ∷ g ∷ h ∷ []) =
    if dash == 45 && dash' == 45 then date_of_digits a b c d e f g h else None
date_of_text _ = None

abbrev clock_of_digits : (a b c d e f : ℕ) → Option ℕ
clock_of_digits a b c d e f = do
  hour ← two_digits a b
  minute ← two_digits c d
  second ← two_digits e f
  clock_seconds hour minute second

-- `HH:MM:SS`
abbrev pub clock_of_text : List ℕ → Option ℕ
clock_of_text (a ∷ b ∷ colon ∷ c ∷ d ∷ colon' ∷ e ∷ f ∷ []) =
    if colon == 58 && colon' == 58 then clock_of_digits a b c d e f else None
clock_of_text _ = None

-- `Z`, `+HH:MM` or `-HH:MM`
abbrev pub utc_offset : List ℕ → Option ℤ
utc_offset text = if bytes_eq text (codes "Z") then Some (pos 0) else offset_minutes text

-- nanoseconds since 1970 of a second that a clock shows, with what stands behind it: a fraction and an offset
abbrev pub with_offset : List ℕ → ℤ → Option ℤ
with_offset text seconds =
    if has_fraction text then
    option_map (λ minutes. nanos_of_seconds (seconds -ℤ minutes *ℤ pos 60) +ℤ pos (fraction_nanos 1_000_000_000 (fraction_at text)))
    (utc_offset (behind_fraction text))
    else None

abbrev date_and_clock : List ℕ → Option ℤ
date_and_clock text = do
  day ← date_of_text (take 10 text)
  clock ← clock_of_text (take 8 (drop 11 text))
  with_offset (drop 19 text) (day *ℤ pos 86_400 +ℤ pos clock)

-- `YYYY-MM-DDTHH:MM:SS`, optionally `.` and 1 to 9 digits, and an offset
abbrev pub time_of_text : List ℕ → Option ℤ
time_of_text text = if slice_index text 10 == 84 then date_and_clock text else None

abbrev pub time_or_fault : Option ℤ → Outcome
time_or_fault None = Stopped BadTime
time_or_fault (Some t) = time_outcome t

abbrev pub timestamp_outcome : List ℕ → Outcome
timestamp_outcome text = time_or_fault (time_of_text text)

-- the units of a length in their order
abbrev pub units : List TimeUnit
units = Hour ∷ Minute ∷ Second ∷ Millisecond ∷ Microsecond ∷ Nanosecond ∷ []

abbrev pub unit_name : TimeUnit → List ℕ
unit_name Hour = codes "h"
unit_name Minute = codes "m"
unit_name Second = codes "s"
unit_name Millisecond = codes "ms"
unit_name Microsecond = codes "us"
unit_name Nanosecond = codes "ns"

abbrev pub unit_nanos : TimeUnit → ℕ
unit_nanos Hour = 3_600_000_000_000
unit_nanos Minute = 60_000_000_000
unit_nanos Second = 1_000_000_000
unit_nanos Millisecond = 1_000_000
unit_nanos Microsecond = 1_000
unit_nanos Nanosecond = 1

-- a part at the front of a text: digits, optionally a fraction, and a unit
abbrev pub unit_at : List ℕ → List ℕ
unit_at text = take_while is_ascii_lowercase (behind_fraction (behind_digits text))

abbrev pub behind_part : List ℕ → List ℕ
behind_part text = drop (length (unit_at text)) (behind_fraction (behind_digits text))

-- a part has 1 to 18 digits before its fraction
abbrev pub is_part : List ℕ → Bool
is_part text =
    nat_le 1 (length (digits_at text)) && nat_le (length (digits_at text)) 18 && has_fraction (behind_digits text)

abbrev pub part_nanos : ℕ → List ℕ → ℕ
part_nanos nanos text = digits_value 10 (digits_at text) * nanos + fraction_nanos nanos (fraction_at (behind_digits text))

-- the nanoseconds of the parts of a text, each of one of the units, in their order
abbrev pub parts_nanos : List TimeUnit → List ℕ → Option ℕ
parts_nanos [] text = if is_empty text then Some 0 else None
parts_nanos (unit ∷ others) text =
    if bytes_eq (unit_at text) (unit_name unit) then
    (if is_part text then option_map (λ n. part_nanos (unit_nanos unit) text + n) (parts_nanos others (behind_part text)) else None)
    else parts_nanos others text

-- `0` alone, or one or more parts
abbrev pub magnitude_of : List ℕ → Option ℕ
magnitude_of text =
    if bytes_eq text (codes "0") then Some 0 else (if is_empty text then None else parts_nanos units text)

abbrev pub length_of_text : List ℕ → Option ℤ
length_of_text text =
    if begins_with 45 text then option_map (λ n. neg_ℤ (pos n)) (magnitude_of (drop 1 text))
    else option_map (λ n. pos n) (magnitude_of text)

abbrev pub length_or_fault : Option ℤ → Outcome
length_or_fault None = Stopped BadDuration
length_or_fault (Some d) = length_outcome d

abbrev pub duration_outcome : List ℕ → Outcome
duration_outcome text = length_or_fault (length_of_text text)
