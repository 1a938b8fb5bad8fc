-- The bytes that a line of the input stands for.
use Rattle.std.specs.Prelude.{ℕ, ◌+◌, ◌*◌, ◌==◌, ◌&&◌, if◌then◌else◌, Option, Some, None, unwrap_or, List, [], ◌∷◌, drop}
use Rattle.std.specs.Char.{digit_value, is_digit}
use Rattle.std.specs.Option.{option_map}

-- the byte that a letter stands for behind a backslash: `\n`, `\r`, `\t`, `\\`
abbrev pub letter_byte : ℕ → Option ℕ
letter_byte letter =
    if letter == 110 then Some 10
    else (if letter == 114 then Some 13
    else (if letter == 116 then Some 9
    else (if letter == 92 then Some 92 else None)))

-- the byte that two hexadecimal digits write
abbrev pub byte_of : ℕ → ℕ → Option ℕ
byte_of high low = if is_digit high 16 && is_digit low 16 then Some (16 * digit_value high + digit_value low) else None

abbrev pub digits_byte : List ℕ → Option ℕ
digits_byte (high ∷ low ∷ rest) = byte_of high low
digits_byte _ = None

-- the byte of the escape behind a backslash, and how many bytes it takes there
abbrev pub escape_at : List ℕ → Option (ℕ × ℕ)
escape_at [] = None
escape_at (letter ∷ rest) =
    if letter == 120 then option_map (λ byte. (byte, 3)) (digits_byte rest)
    else option_map (λ byte. (byte, 1)) (letter_byte letter)

-- the byte that the front of a line stands for, and how many bytes behind the first one belong to it. What is no escape
-- stands for itself, a backslash too
abbrev pub front : ℕ → List ℕ → ℕ × ℕ
front first rest = if first == 92 then unwrap_or (escape_at rest) (92, 0) else (first, 0)

-- the line stands for the bytes
pub data StandsFor : List ℕ → List ℕ → Type 0 where
  end : StandsFor [] []
  more : {first : ℕ} {rest bytes : List ℕ} → StandsFor (drop (front first rest).1 rest) bytes
      → StandsFor (first ∷ rest) ((front first rest).0 ∷ bytes)
