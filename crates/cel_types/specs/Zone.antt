-- Fixed zones.
use Rattle.std.specs.Prelude.{ℕ, ◌+◌, ◌-◌, ◌*◌, ◌==◌, nat_le, ◌&&◌, if◌then◌else◌, Option, Some, None, option_and_then, List, [], ◌∷◌, ℤ, pos, neg_ℤ, codes}
use Rattle.std.specs.Char.{is_ascii_digit}
use Rattle.std.specs.Str.{byte, bytes_eq}

abbrev pub two_digits : ℕ → ℕ → Option ℕ
two_digits tens ones =
    if is_ascii_digit tens && is_ascii_digit ones then Some (10 * (tens - byte "0") + (ones - byte "0")) else None

abbrev pub signed_minutes : ℕ → ℕ → ℕ → Option ℤ
signed_minutes sign hours minutes =
    if nat_le hours 23 && nat_le minutes 59 then
    (if sign == byte "+" then Some (pos (60 * hours + minutes))
    else (if sign == byte "-" then Some (neg_ℤ (pos (60 * hours + minutes))) else None))
    else None

-- the minutes of an offset `+HH:MM` or `-HH:MM`
abbrev pub offset_minutes : List ℕ → Option ℤ
offset_minutes (sign ∷ a ∷ b ∷ colon ∷ c ∷ d ∷ []) =
    if colon == byte ":" then
    option_and_then (λ hours. option_and_then (λ minutes. signed_minutes sign hours minutes) (two_digits c d)) (two_digits a b)
    else None
offset_minutes _ = None

-- how many minutes a zone's clock is ahead of UTC
abbrev pub zone_minutes : List ℕ → Option ℤ
zone_minutes zone = if bytes_eq zone (codes "UTC") then Some (pos 0) else offset_minutes zone
