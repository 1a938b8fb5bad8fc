-- Domains and the id of a customer.
use Rattle.std.specs.Prelude.{◌≢◌, ℕ, ◌-◌, ◌≤◌, ◌==◌, List, length, slice_index}
use Rattle.std.specs.List.{All, slice_split}
use Rattle.iam_names.specs.Bytes.{dash, dot, is_label_byte, is_letter_or_digit, IsWord}

-- the parts of a text between its dots
abbrev pub parts_of : List ℕ → List (List ℕ)
parts_of text = slice_split (λ byte. byte == dot) text

-- 1 to 63 lower-case letters, digits and `-`, neither beginning nor ending with `-`
abbrev pub IsLabel : List ℕ → Type 0
IsLabel text = IsWord 1 63 is_label_byte text × (slice_index text 0 ≢ dash) × (slice_index text (length text - 1) ≢ dash)

-- two or more labels joined by dots, of at most 256 bytes
abbrev pub IsDomain : List ℕ → Type 0
IsDomain text = (length text ≤ 256) × (2 ≤ length (parts_of text)) × All IsLabel (parts_of text)

-- 1 to 32 letters and digits
abbrev pub IsCustomer : List ℕ → Type 0
IsCustomer text = IsWord 1 32 is_letter_or_digit text
