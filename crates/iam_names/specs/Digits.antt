-- Numbers of at most 19 digits.
use Rattle.std.specs.Prelude.{ℕ, List}
use Rattle.iam_names.specs.Bytes.{is_digit, IsWord}

-- 1 to 19 digits
abbrev pub IsDigits : List ℕ → Type 0
IsDigits text = IsWord 1 19 is_digit text
