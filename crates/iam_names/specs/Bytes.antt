-- Which bytes may stand in the words that names are made of.
use Rattle.std.specs.Prelude.{ℕ, ◌≤◌, Bool, ◌&&◌, ◌||◌, ◌==◌, nat_le, List, length, IsTrue}
use Rattle.std.specs.List.{list_all}

abbrev pub blank : ℕ
blank = 32

abbrev pub exclamation_mark : ℕ
exclamation_mark = 33

abbrev pub quotation_mark : ℕ
quotation_mark = 34

abbrev pub dash : ℕ
dash = 45

abbrev pub dot : ℕ
dot = 46

abbrev pub underscore : ℕ
underscore = 95

abbrev pub plus_sign : ℕ
plus_sign = 43

abbrev pub apostrophe : ℕ
apostrophe = 39

abbrev pub at_sign : ℕ
at_sign = 64

abbrev pub digit_zero : ℕ
digit_zero = 48

-- `0` to `9`
abbrev pub is_digit : ℕ → Bool
is_digit byte = nat_le digit_zero byte && nat_le byte 57

-- `a` to `z`
abbrev pub is_lower : ℕ → Bool
is_lower byte = nat_le 97 byte && nat_le byte 122

-- `A` to `Z`
abbrev pub is_upper : ℕ → Bool
is_upper byte = nat_le 65 byte && nat_le byte 90

abbrev pub is_letter_or_digit : ℕ → Bool
is_letter_or_digit byte = is_upper byte || is_lower byte || is_digit byte

-- lower-case letters, digits and `-`
abbrev pub is_label_byte : ℕ → Bool
is_label_byte byte = is_lower byte || is_digit byte || (byte == dash)

-- letters, digits, `.`, `_`, `-`, `+` and `'`
abbrev pub is_local_byte : ℕ → Bool
is_local_byte byte = is_letter_or_digit byte || (byte == dot) || (byte == underscore) || (byte == dash) || (byte == plus_sign) || (byte == apostrophe)

-- letters, digits, spaces, `-` and `_`
abbrev pub is_folder_display_byte : ℕ → Bool
is_folder_display_byte byte = is_letter_or_digit byte || (byte == blank) || (byte == dash) || (byte == underscore)

-- letters, digits, spaces, `-`, `'`, `"` and `!`
abbrev pub is_project_display_byte : ℕ → Bool
is_project_display_byte byte =
    is_letter_or_digit byte || (byte == blank) || (byte == dash) || (byte == apostrophe) || (byte == quotation_mark) || (byte == exclamation_mark)

-- letters, digits, `_` and `.`
abbrev pub is_role_byte : ℕ → Bool
is_role_byte byte = is_letter_or_digit byte || (byte == underscore) || (byte == dot)

-- at least `least` and at most `most` bytes, all of which may stand there
abbrev pub IsWord : ℕ → ℕ → (ℕ → Bool) → List ℕ → Type 0
IsWord least most may_stand text = (least ≤ length text) × (length text ≤ most) × IsTrue (list_all may_stand text)
