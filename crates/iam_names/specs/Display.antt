-- The names by which folders and projects are shown.
use Rattle.std.specs.Prelude.{ℕ, ◌-◌, List, length, slice_index, IsTrue}
use Rattle.iam_names.specs.Bytes.{is_folder_display_byte, is_letter_or_digit, is_project_display_byte, IsWord}

-- 3 to 30 letters, digits, spaces, `-` and `_`, beginning and ending with a letter or a digit
abbrev pub IsFolderDisplay : List ℕ → Type 0
IsFolderDisplay text =
    IsWord 3 30 is_folder_display_byte text
    × IsTrue (is_letter_or_digit (slice_index text 0))
    × IsTrue (is_letter_or_digit (slice_index text (length text - 1)))

-- 4 to 30 letters, digits, spaces, `-`, `'`, `"` and `!`
abbrev pub IsProjectDisplay : List ℕ → Type 0
IsProjectDisplay text = IsWord 4 30 is_project_display_byte text
