-- The date of a day and the time of day, as total functions, and the parts of a time.
use Rattle.std.specs.Prelude.{ℕ, suc, zero, ◌+◌, ◌-◌, ◌/◌, ◌%◌, nat_lt, if◌then◌else◌, ℤ, pos, ◌+ℤ◌, ◌-ℤ◌, unsigned_abs}
use Rattle.std.specs.Int.{int_div_euclid, int_rem_euclid}
use Rattle.jiff_core.specs.Calendar.{days_from_civil, days_of_months, days_of_years, day_of_year, weekday_number}
use Rattle.cel_value.specs.declared.value.EvalFault.TheVariants.{Range}
use Rattle.cel_value.specs.declared.value.Outcome.{Outcome}
use Rattle.cel_value.specs.declared.value.Outcome.TheVariants.{Given, Stopped}
use Rattle.cel_value.specs.declared.value.Value.TheVariants as value
use Rattle.cel_types.specs.declared.form.TimePart.{TimePart}
use Rattle.cel_types.specs.declared.form.TimePart.TheVariants.{FullYear, Month, Date, DayOfMonth, DayOfWeek, DayOfYear, Hours, Minutes, Seconds, Milliseconds}
use Rattle.cel_types.specs.Bounds.{is_time}

-- the last of the first places at which the count has begun
abbrev pub last_begun : (ℕ → ℕ) → ℕ → ℕ → ℕ
last_begun before zero count = zero
last_begun before (suc k) count = if nat_lt count (before (suc k)) then last_begun before k count else suc k

pub record Civil : Type 0 where
  pub year : ℤ
  pub month : ℕ
  pub day : ℕ

abbrev pub in_month : ℤ → ℕ → ℕ → Civil
in_month year rest months = record { year = year; month = months + 1; day = rest - days_of_months year months + 1 }

abbrev pub in_year : ℕ → ℤ → Civil
in_year rest year = in_month year rest (last_begun (days_of_months year) 11 rest)

abbrev pub civil_from : ℕ → ℕ → Civil
civil_from count years = in_year (count - days_of_years years) (pos years -ℤ pos 10_000)

-- the date so many days after 1 January of the year -10000
abbrev pub civil_of : ℕ → Civil
civil_of count = civil_from count (last_begun days_of_years 19_999 count)

-- nanoseconds of a day
abbrev pub nanos_a_day : ℕ
nanos_a_day = 86_400_000_000_000

-- the date on which these nanoseconds since 1970 fall: 1 January 1970 is day 4,371,953 of the count
abbrev pub date_at : ℤ → Civil
date_at t = civil_of (unsigned_abs (int_div_euclid t (pos nanos_a_day) +ℤ pos 4_371_953))

-- the nanoseconds since midnight
abbrev pub since_midnight : ℤ → ℕ
since_midnight t = unsigned_abs (int_rem_euclid t (pos nanos_a_day))

abbrev pub hour_of : ℕ → ℕ
hour_of nanos = nanos / 3_600_000_000_000

abbrev pub minute_of : ℕ → ℕ
minute_of nanos = nanos / 60_000_000_000 % 60

abbrev pub second_of : ℕ → ℕ
second_of nanos = nanos / 1_000_000_000 % 60

abbrev pub subsecond_of : ℕ → ℕ
subsecond_of nanos = nanos % 1_000_000_000

-- a part of a date and of the nanoseconds since midnight: months, days of a month, days of a year and days of a
-- week count from 0, Sunday being 0; `getDate` counts from 1
abbrev pub date_part : TimePart → Civil → ℕ → ℤ
date_part FullYear date nanos = date.year
date_part Month date nanos = pos (date.month - 1)
date_part Date date nanos = pos date.day
date_part DayOfMonth date nanos = pos (date.day - 1)
date_part DayOfWeek date nanos = pos ((weekday_number (days_from_civil date.year date.month date.day) + 1) % 7)
date_part DayOfYear date nanos = pos (day_of_year date.year date.month date.day - 1)
date_part Hours date nanos = pos (hour_of nanos)
date_part Minutes date nanos = pos (minute_of nanos)
date_part Seconds date nanos = pos (second_of nanos)
date_part Milliseconds date nanos = pos (subsecond_of nanos / 1_000_000)

-- the part of the date and the time of day at these nanoseconds since 1970
unfoldable pub part_outcome : TimePart → ℤ → Outcome
part_outcome part t =
    if is_time t then Given (value.Int (date_part part (date_at t) (since_midnight t))) else Stopped Range
