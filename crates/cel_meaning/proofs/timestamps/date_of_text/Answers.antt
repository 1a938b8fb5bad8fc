use Rattle.std.proofs.Common.{◌≡◌, ◌+◌, ◌*◌, ℕ, List, [], ◌∷◌, get_or, Some, sym, ap, ap₂, ◌∙◌, arith}
use Rattle.cel_types.specs.Zone.{two_digits}
use Rattle.cel_types.specs.TimeText.{date_of_text, day_number}
use Rattle.cel_meaning.proofs.TimeTexts.{date_is, ten}
use Rattle.cel_meaning.proofs.timestamps.date_of_text.Goals as goal

pub returns : goal.returns
returns c =
    let text : List ℕ = c.args.text.now in
    let at : ℕ → ℕ = λ i. get_or text i 0 in
    let month : ℕ = c.in_ok-month.month in
    let day : ℕ = c.in_ok-day.day in
    let dash : at 4 ≡ 45 = omega arith in
    let other : at 7 ≡ 45 = omega arith in
    let is : text ≡ at 0 ∷ at 1 ∷ at 2 ∷ at 3 ∷ 45 ∷ at 5 ∷ at 6 ∷ 45 ∷ at 8 ∷ at 9 ∷ [] =
    ten text (omega arith) ∙ ap₂ (λ x y. at 0 ∷ at 1 ∷ at 2 ∷ at 3 ∷ x ∷ at 5 ∷ at 6 ∷ y ∷ at 8 ∷ at 9 ∷ []) dash other in
    let in_century : Some c.in_ok-century.century ≡ two_digits (at 0) (at 1) = c.in_ok-century.ensures.value in
    let in_year : Some c.in_ok-year.year ≡ two_digits (at 2) (at 3) = c.in_ok-year.ensures.value in
    let in_month : Some month ≡ two_digits (at 5) (at 6) = c.in_ok-month.ensures.value in
    let in_day : Some day ≡ two_digits (at 8) (at 9) = c.in_ok-day.ensures.value in
    c.day_number.ensures ∙ ap₂ (λ x y. day_number (100 * x + y) month day) c.from.ensures c.from-2.ensures
    ∙ date_is (at 0) (at 1) (at 2) (at 3) (at 5) (at 6) (at 8) (at 9) c.in_ok-century.century c.in_ok-year.year month day in_century in_year in_month in_day
    ∙ ap date_of_text (sym is)
