-- The functions give the date and the time of day at a moment, and its parts.
use Rattle.std.proofs.Common.{◌≡◌, ℕ, suc, zero, ◌+◌, ◌-◌, ◌*◌, ◌<◌, ◌≤◌, Bool, true, false, cond, refl, sym, ap, subst, ◌∙◌, arith, ℤ, pos, negsuc, ◌-ℤ◌, ◌+ℤ◌, ◌*ℤ◌, unsigned_abs}
use Rattle.std.specs.Prelude.{nat_lt, ◌↔◌}
use Rattle.std.proofs.lemmas.Bool.{and_parts, leb-false, ltb-true}
use Rattle.std.specs.Int.{int_div_euclid}
use Rattle.std.specs.Int.RustNames.{int_le}
use borrow.Author.Differences.{up, down}
use Rattle.jiff_core.specs.Calendar.{day_count, days_from_civil, days_in_month, days_in_year, days_of_months, days_of_years, IsYear}
use Rattle.jiff_core.specs.Date.{epoch_day}
use Rattle.jiff_core.specs.DateTime.{civil_nanos}
use Rattle.jiff_core.specs.Time.{time_nanos}
use Rattle.jiff_core.specs.declared.civil.date.Date.{Date as Day}
use Rattle.jiff_core.specs.declared.civil.datetime.DateTime.{DateTime}
use Rattle.jiff_core.specs.declared.civil.time.Time.{Time}
use Rattle.jiff_core.proofs.CalendarLemmas.{days_from_civil-day_count, days_of_months_all, days_of_months-zero, day_count-end}
use Rattle.jiff_core.proofs.DateTimeLemmas.{civil_nanos-parts}
use Rattle.jiff_core.proofs.SignedLemmas as signed
use Rattle.jiff_core.proofs.SignedLemmas.{signed_arith}
use Rattle.cel_value.specs.declared.value.Outcome.{Outcome}
use Rattle.cel_value.specs.declared.value.Outcome.TheVariants.{Given, Stopped}
use Rattle.cel_value.specs.declared.value.EvalFault.TheVariants.{Range}
use Rattle.cel_value.specs.declared.value.Value.TheVariants as value
use Rattle.cel_types.specs.declared.form.TimePart.{TimePart}
use Rattle.cel_types.specs.declared.form.TimePart.TheVariants.{FullYear, Month, Date, DayOfMonth, DayOfWeek, DayOfYear, Hours, Minutes, Seconds, Milliseconds}
use Rattle.cel_types.specs.Bounds.{is_time}
use Rattle.cel_types.specs.Calendar as has
use Rattle.cel_types.specs.Calendar.{HasPart, part_of}
use Rattle.cel_types.proofs.OneOutcome.{one_part}
use Rattle.cel_meaning.specs.Dates.{Civil, civil_of, date_at, date_part, hour_of, in_month, in_year, last_begun, minute_of, nanos_a_day, part_outcome, second_of, since_midnight, subsecond_of}

record Begun (before : ℕ → ℕ) (count bound at : ℕ) : Type 0 where
  from : before at ≤ count
  to : count < before (suc at)
  within : at ≤ bound

-- whatever the lengths are
last_is : (before : ℕ → ℕ) (bound count : ℕ) → before zero ≤ count → count < before (suc bound) → Begun before count bound (last_begun before bound count)
last_is before zero count from to = record { from = from; to = to; within = omega arith }
last_is before (suc k) count from to =
    elim (nat_lt count (before (suc k))) as (λ b. nat_lt count (before (suc k)) ≡ b → Begun before count (suc k) (cond b (last_begun before k count) (suc k))) [
      | true ↦ λ less. let here = last_is before k count from (ltb-true count (before (suc k)) less) in record { from = here.from; to = here.to; within = omega (arith, here.within) }
      | false ↦ λ reached. let past : before (suc k) < suc count = leb-false (suc count) (before (suc k)) reached in record { from = omega (arith, past); to = to; within = omega arith }
    ] refl

days_of_months_step : (y : ℤ) (m : ℕ) → days_of_months y (suc m) ≡ days_of_months y m + days_in_month y (suc m)
unfolding days_of_months
days_of_months_step y m = refl

no_years : days_of_years 0 ≡ 0
unfolding days_of_years
no_years = refl

one_year : (n : ℕ) → days_of_years (suc n) ≡ days_of_years n + days_in_year (pos n -ℤ pos 10000)
unfolding days_of_years
one_year n = refl

first_year : days_of_years 1 ≡ 366
unfolding days_of_years
first_year = refl

years_back : (n : ℕ) → unsigned_abs ((pos n -ℤ pos 10000) +ℤ pos 10000) ≡ n
years_back n = let h : (pos n -ℤ pos 10000) +ℤ pos 10000 ≡ pos n = omega (arith, signed_arith) in ap unsigned_abs h

count_of : (y : ℤ) (m d : ℕ) → day_count y m d ≡ days_of_years (unsigned_abs (y +ℤ pos 10000)) + (days_of_months y (m - 1) + d - 1)
unfolding day_count
count_of y m d = refl

-- the days of all years that there are
all_years : days_of_years 20000 ≡ 7_304_850
all_years =
    ap days_of_years (sym (let h : unsigned_abs (pos 10000 +ℤ pos 10000) ≡ 20000 = refl in h))
    ∙ (let whole = count_of (pos 10000) 1 1 in omega (arith, whole, day_count-end, days_of_months-zero (pos 10000)))

-- the date in its year so many days behind the first
record IsCivil (count : ℕ) (c : Civil) : Type 0 where
  month : (1 ≤ c.month) × (c.month ≤ 12)
  day : (1 ≤ c.day) × (c.day ≤ days_in_month c.year c.month)
  count_is : days_of_months c.year (c.month - 1) + c.day ≡ count + 1

month_is : (year : ℤ) (rest months : ℕ) → Begun (days_of_months year) rest 11 months → IsCivil rest (in_month year rest months)
month_is year rest months begun =
    let next : days_of_months year (suc months) ≡ days_of_months year months + days_in_month year (suc months) = days_of_months_step year months in
    let same : months + 1 ≡ suc months = omega arith in
    let back : months + 1 - 1 ≡ months = omega arith in
    record {
      month = (omega arith, omega (arith, begun.within));
      day = (omega arith, subst (λ (m : ℕ). rest - days_of_months year months + 1 ≤ days_in_month year m) (sym same) (omega (arith, next, begun.from, begun.to)));
      count_is = subst (λ (m : ℕ). days_of_months year m + (rest - days_of_months year months + 1) ≡ rest + 1) (sym back) (omega (arith, begun.from));
    }

in_year_is : (year : ℤ) (rest : ℕ) → rest < days_in_year year → IsCivil rest (in_year rest year)
in_year_is year rest within =
    month_is year rest (last_begun (days_of_months year) 11 rest)
    (last_is (days_of_months year) 11 rest (omega (arith, days_of_months-zero year)) (omega (arith, days_of_months_all year, within)))

-- the date of a count is one that the calendar has, with that count
record IsDated (count : ℕ) (c : Civil) : Type 0 where
  year : IsYear c.year
  month : (1 ≤ c.month) × (c.month ≤ 12)
  day : (1 ≤ c.day) × (c.day ≤ days_in_month c.year c.month)
  counted : day_count c.year c.month c.day ≡ count

dated : (count : ℕ) → 366 ≤ count → count < 7_304_850 → IsDated count (civil_of count)
dated count low high =
    let years : ℕ = last_begun days_of_years 19_999 count in
    let begun : Begun days_of_years count 19_999 years = last_is days_of_years 19_999 count (omega (arith, no_years)) (omega (arith, all_years, high)) in
    let year : ℤ = pos years -ℤ pos 10_000 in
    let rest : ℕ = count - days_of_years years in
    let is : IsCivil rest (in_year rest year) = in_year_is year rest (omega (arith, begun.from, begun.to, one_year years)) in
    let c : Civil = civil_of count in
    let some : 1 ≤ years = later years begun in
    record {
      year = (omega (arith, signed_arith, some), omega (arith, signed_arith, begun.within));
      month = is.month;
      day = is.day;
      counted =
          count_of c.year c.month c.day
          ∙ ap (λ n. days_of_years n + (days_of_months c.year (c.month - 1) + c.day - 1)) (years_back years)
          ∙ omega (arith, is.count_is, begun.from);
    }
  where
    later : (years : ℕ) → Begun days_of_years count 19_999 years → 1 ≤ years
    later zero begun = absurd (omega (arith, begun.to, first_year, low))
    later (suc n) begun = omega arith

-- ---- a moment

-- the day of a time that is within its range
record IsDay (t : ℤ) : Type 0 where
  low : 366 ≤ unsigned_abs (int_div_euclid t (pos nanos_a_day) +ℤ pos 4_371_953)
  high : unsigned_abs (int_div_euclid t (pos nanos_a_day) +ℤ pos 4_371_953) < 7_304_850
  counted : pos (unsigned_abs (int_div_euclid t (pos nanos_a_day) +ℤ pos 4_371_953)) ≡ int_div_euclid t (pos nanos_a_day) +ℤ pos 4_371_953
  rest : since_midnight t < nanos_a_day
  whole : int_div_euclid t (pos nanos_a_day) *ℤ pos nanos_a_day +ℤ pos (since_midnight t) ≡ t

time_of : (nanos : ℕ) → nanos < nanos_a_day → Time
time_of nanos h = record {
  hour = hour_of nanos;
  minute = minute_of nanos;
  second = second_of nanos;
  subsec_nanosecond = subsecond_of nanos;
  hour_in = omega (arith, h);
  minute_in = omega arith;
  second_in = omega arith;
  subsec_in = omega arith;
}

clock_counts : (n : ℕ) → (hour_of n * 3600 + minute_of n * 60 + second_of n) * 1_000_000_000 + subsecond_of n ≡ n
clock_counts n = omega arith

time_nanos_of : (nanos : ℕ) (h : nanos < nanos_a_day) → time_nanos (time_of nanos h) ≡ nanos
unfolding time_of
time_nanos_of nanos h = clock_counts nanos

is_day : (t : ℤ) → is_time t ≡ true → IsDay t
is_day t h =
    let bounds : (int_le (negsuc 62_135_596_799_999_999_999) t ≡ true) × (int_le t (pos 253_402_300_799_999_999_999) ≡ true) = and_parts _ _ h in
    let side = signed.one_part (int_div_euclid t (pos nanos_a_day) +ℤ pos 4_371_953) in
    record {
      low = omega (arith, signed_arith, bounds, side);
      high = omega (arith, signed_arith, bounds, side);
      counted = omega (arith, signed_arith, bounds, side);
      rest = omega (arith, signed_arith);
      whole = omega (arith, signed_arith);
    }

day_of : (count : ℕ) (c : Civil) → IsDated count c → Day
day_of count c is = record { year = c.year; month = c.month; day = c.day; year_in = is.year; month_in = is.month; day_in = is.day }

dated_at : (t : ℤ) → IsDay t → IsDated (unsigned_abs (int_div_euclid t (pos nanos_a_day) +ℤ pos 4_371_953)) (date_at t)
dated_at t is = dated (unsigned_abs (int_div_euclid t (pos nanos_a_day) +ℤ pos 4_371_953)) is.low is.high

date_time : (t : ℤ) → IsDay t → DateTime
date_time t is = record { date = day_of _ (date_at t) (dated_at t is); time = time_of (since_midnight t) is.rest }

-- the day of a count
day_number : (day whole : ℤ) (counted count : ℕ) → up day + 4_371_953 ≡ down day + counted → counted ≡ count → pos count ≡ whole +ℤ pos 4_371_953 → day ≡ whole
day_number day whole counted count h i j = omega (arith, signed_arith, h, i, j)

day_is : (t : ℤ) (is : IsDay t) → epoch_day (date_time t is).date ≡ int_div_euclid t (pos nanos_a_day)
unfolding date_time day_of
day_is t is =
    let c : Civil = date_at t in
    day_number (days_from_civil c.year c.month c.day) (int_div_euclid t (pos nanos_a_day)) (day_count c.year c.month c.day)
    (unsigned_abs (int_div_euclid t (pos nanos_a_day) +ℤ pos 4_371_953))
    (days_from_civil-day_count c.year c.month c.day) (dated_at t is).counted is.counted

nanos_are : (t : ℤ) (is : IsDay t) → civil_nanos (date_time t is) ≡ t
unfolding date_time time_of
nanos_are t is =
    civil_nanos-parts (date_time t is)
    ∙ ap (λ (d : ℤ). d *ℤ pos nanos_a_day +ℤ pos (time_nanos (time_of (since_midnight t) is.rest))) (day_is t is)
    ∙ ap (λ (n : ℕ). int_div_euclid t (pos nanos_a_day) *ℤ pos nanos_a_day +ℤ pos n) (time_nanos_of (since_midnight t) is.rest)
    ∙ is.whole

same_part : (part : TimePart) (t : ℤ) (is : IsDay t) → part_of part (date_time t is) ≡ date_part part (date_at t) (since_midnight t)
unfolding date_time day_of time_of
same_part FullYear t is = refl
same_part Month t is = refl
same_part Date t is = refl
same_part DayOfMonth t is = refl
same_part DayOfWeek t is = refl
same_part DayOfYear t is = refl
same_part Hours t is = refl
same_part Minutes t is = refl
same_part Seconds t is = refl
same_part Milliseconds t is = refl

pub part_is : (part : TimePart) (t : ℤ) → HasPart part t (part_outcome part t)
unfolding part_outcome
part_is part t = by (is_time t) refl
  where
    by : (b : Bool) → is_time t ≡ b
        → HasPart part t (cond b (Given (value.Int (date_part part (date_at t) (since_midnight t)))) (Stopped Range))
    by true within =
        let is = is_day t within in
        subst (λ z. HasPart part t (Given (value.Int z))) (same_part part t is) (has.within (date_time t is) within (nanos_are t is))
    by false out = has.outside out

-- the function and the relation are one
pub part_iff : (part : TimePart) (t : ℤ) (o : Outcome) → (part_outcome part t ≡ o) ↔ HasPart part t o
part_iff part t o = (
  λ is. subst (λ z. HasPart part t z) is (part_is part t),
  λ has. one_part part t (part_outcome part t) (part_is part t) o has,
)
