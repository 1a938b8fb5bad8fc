-- Days of the calendar by their numbers.
use Rattle.std.proofs.Common.{◌≡◌, ℕ, ◌≤◌, true, cond, Some, None, sym, ap, ◌∙◌, arith, ℤ, pos}
use Rattle.std.proofs.lemmas.Bool.{and_from, le-leb}
use Rattle.jiff_core.specs.Calendar.{IsDate, days_from_civil, days_in_month}
use Rattle.jiff_core.specs.Date.{IsYmd, epoch_day}
use Rattle.jiff_core.specs.declared.civil.date.Date.{Date}
use Rattle.jiff_core.proofs.SignedLemmas.{signed_arith}
use Rattle.cel_types.specs.TimeText.{day_number, is_date}

-- what the calendar has is a date of the text
real : (year month day : ℕ) → IsDate (pos year) (pos month) (pos day) → is_date year month day ≡ true
real year month day is =
    let months : (1 ≤ month) × (month ≤ 12) = (omega (arith, signed_arith, is.1), omega (arith, signed_arith, is.1)) in
    let days : (1 ≤ day) × (day ≤ days_in_month (pos year) month) = (omega (arith, signed_arith, is.2), omega (arith, signed_arith, is.2)) in
    and_from _ _ (and_from _ _ (and_from _ _ (le-leb 1 month months.0) (le-leb month 12 months.1)) (le-leb 1 day days.0))
    (le-leb day (days_in_month (pos year) month) days.1)

pub number_is : (year month day : ℕ) (date : Date) (number : ℤ) → IsDate (pos year) (pos month) (pos day) → IsYmd (pos year) (pos month) (pos day) date
    → number ≡ epoch_day date → Some number ≡ day_number year month day
number_is year month day date number is ymd counted =
    let m : date.month ≡ month = cc (ymd.1) in
    let d : date.day ≡ day = cc (ymd.2) in
    ap Some
    (counted ∙ ap (λ z. days_from_civil z date.month date.day) ymd.0 ∙ ap (λ z. days_from_civil (pos year) z date.day) m
    ∙ ap (λ z. days_from_civil (pos year) month z) d)
    ∙ sym (ap (λ b. cond b (Some (days_from_civil (pos year) month day)) None) (real year month day is))
