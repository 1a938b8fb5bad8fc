-- Lengths with a minus, dates by their digits, and times with their offset.
use Rattle.std.proofs.Common.{◌≡◌, ℕ, ◌+◌, ◌*◌, true, cond, refl, arith, List, [], ◌∷◌, length, drop, get_or, Option, Some, None, sym, ap, ◌∙◌, ℤ, pos, neg_ℤ, ◌+ℤ◌, ◌-ℤ◌, ◌*ℤ◌}
use Rattle.std.specs.Prelude.{option_and_then}
use Rattle.std.specs.Option.{option_map}
use Rattle.cel_types.specs.Bounds.{nanos_of_seconds}
use Rattle.cel_types.specs.Zone.{two_digits}
use Rattle.cel_types.specs.TimeText.{begins_with, behind_fraction, date_of_text, day_number, fraction_at, fraction_nanos, has_fraction, length_of_text, magnitude_of, utc_offset, with_offset}

pub minus_is : (text rest : List ℕ) (r : Option ℤ) → begins_with 45 text ≡ true → rest ≡ drop 1 text → r ≡ option_map (λ n. neg_ℤ (pos n)) (magnitude_of rest) → r ≡ length_of_text text
minus_is text rest r begins behind is =
    is ∙ ap (λ z. option_map (λ n. neg_ℤ (pos n)) (magnitude_of z)) behind
    ∙ sym (ap (λ b. cond b (option_map (λ n. neg_ℤ (pos n)) (magnitude_of (drop 1 text))) (option_map (λ n. pos n) (magnitude_of text))) begins)

pub offset_is : (text : List ℕ) (seconds minutes : ℤ) → has_fraction text ≡ true → Some minutes ≡ utc_offset (behind_fraction text)
    → Some (nanos_of_seconds (seconds -ℤ minutes *ℤ pos 60) +ℤ pos (fraction_nanos 1_000_000_000 (fraction_at text))) ≡ with_offset text seconds
offset_is text seconds minutes has is =
    ap (option_map (λ m. nanos_of_seconds (seconds -ℤ m *ℤ pos 60) +ℤ pos (fraction_nanos 1_000_000_000 (fraction_at text)))) is
    ∙ sym (ap (λ b. cond b (option_map (λ m. nanos_of_seconds (seconds -ℤ m *ℤ pos 60) +ℤ pos (fraction_nanos 1_000_000_000 (fraction_at text))) (utc_offset (behind_fraction text))) None) has)

-- a text of ten bytes
pub ten : (text : List ℕ) → length text ≡ 10
    → text ≡ get_or text 0 0 ∷ get_or text 1 0 ∷ get_or text 2 0 ∷ get_or text 3 0 ∷ get_or text 4 0 ∷ get_or text 5 0 ∷ get_or text 6 0 ∷ get_or text 7 0 ∷ get_or text 8 0 ∷ get_or text 9 0 ∷ []
ten [] is = absurd (omega (arith, is))
ten (a ∷ []) is = absurd (omega (arith, is))
ten (a ∷ b ∷ []) is = absurd (omega (arith, is))
ten (a ∷ b ∷ c ∷ []) is = absurd (omega (arith, is))
ten (a ∷ b ∷ c ∷ d ∷ []) is = absurd (omega (arith, is))
ten (a ∷ b ∷ c ∷ d ∷ e ∷ []) is = absurd (omega (arith, is))
ten (a ∷ b ∷ c ∷ d ∷ e ∷ f ∷ []) is = absurd (omega (arith, is))
ten (a ∷ b ∷ c ∷ d ∷ e ∷ f ∷ g ∷ []) is = absurd (omega (arith, is))
ten (a ∷ b ∷ c ∷ d ∷ e ∷ f ∷ g ∷ h ∷ []) is = absurd (omega (arith, is))
ten (a ∷ b ∷ c ∷ d ∷ e ∷ f ∷ g ∷ h ∷ i ∷ []) is = absurd (omega (arith, is))
ten (a ∷ b ∷ c ∷ d ∷ e ∷ f ∷ g ∷ h ∷ i ∷ j ∷ []) is = refl
ten (a ∷ b ∷ c ∷ d ∷ e ∷ f ∷ g ∷ h ∷ i ∷ j ∷ k ∷ more) is = absurd (omega (arith, is))

-- a date of what each two digits give
abbrev date_of : (century year month day : Option ℕ) → Option ℤ
date_of century year month day = option_and_then (λ c. option_and_then (λ y. option_and_then (λ m. option_and_then (λ d. day_number (100 * c + y) m d) day) month) year) century

pub date_is : (a b c d e f g h century year month day : ℕ)
    → Some century ≡ two_digits a b → Some year ≡ two_digits c d → Some month ≡ two_digits e f → Some day ≡ two_digits g h
    → day_number (100 * century + year) month day ≡ date_of_text (a ∷ b ∷ c ∷ d ∷ 45 ∷ e ∷ f ∷ 45 ∷ g ∷ h ∷ [])
date_is a b c d e f g h century year month day p q r s =
    ap (λ o. date_of o (Some year) (Some month) (Some day)) p
    ∙ ap (λ o. date_of (two_digits a b) o (Some month) (Some day)) q
    ∙ ap (λ o. date_of (two_digits a b) (two_digits c d) o (Some day)) r
    ∙ ap (λ o. date_of (two_digits a b) (two_digits c d) (two_digits e f) o) s
