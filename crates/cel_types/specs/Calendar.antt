-- The parts of a time.
use Rattle.std.specs.Prelude.{◌≡◌, ◌+◌, ◌-◌, ◌/◌, ◌%◌, true, false, ℤ, pos}
use Rattle.jiff_core.specs.Date.{weekday_of, ordinal}
use Rattle.jiff_core.specs.DateTime.{civil_nanos}
use Rattle.jiff_core.specs.declared.civil.datetime.DateTime.{DateTime}
use Rattle.cel_value.specs.declared.value.EvalFault.TheVariants.{Range}
use Rattle.cel_value.specs.declared.value.Outcome.{Outcome}
use Rattle.cel_value.specs.declared.value.Outcome.TheVariants.{Given, Stopped}
use Rattle.cel_value.specs.declared.value.Value.TheVariants as value
use Rattle.cel_types.specs.declared.form.TimePart.{TimePart}
use Rattle.cel_types.specs.declared.form.TimePart.TheVariants.{FullYear, Month, Date, DayOfMonth, DayOfWeek, DayOfYear, Hours, Minutes, Seconds, Milliseconds}
use Rattle.cel_types.specs.Bounds.{is_time}

-- months, days of a month, days of a year and days of a week count from 0, Sunday being 0; `getDate` counts from 1
abbrev pub part_of : TimePart → DateTime → ℤ
part_of FullYear dt = dt.date.year
part_of Month dt = pos (dt.date.month - 1)
part_of Date dt = pos dt.date.day
part_of DayOfMonth dt = pos (dt.date.day - 1)
part_of DayOfWeek dt = pos ((weekday_of dt.date + 1) % 7)
part_of DayOfYear dt = pos (ordinal dt.date - 1)
part_of Hours dt = pos dt.time.hour
part_of Minutes dt = pos dt.time.minute
part_of Seconds dt = pos dt.time.second
part_of Milliseconds dt = pos (dt.time.subsec_nanosecond / 1_000_000)

-- the part of the date and the time of day at these nanoseconds since 1970
pub data HasPart (part : TimePart) (t : ℤ) : Outcome → Type 0 where
  within : (dt : DateTime) → is_time t ≡ true → civil_nanos dt ≡ t → HasPart part t (Given (value.Int (part_of part dt)))
  outside : is_time t ≡ false → HasPart part t (Stopped Range)
