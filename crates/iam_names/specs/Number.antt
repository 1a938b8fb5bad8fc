-- Numbers of nodes.
use Rattle.std.specs.Prelude.{◌≢◌, ℕ, ◌≤◌, List, slice_index}
use Rattle.std.specs.Str.Parse.{digits_value}
use Rattle.iam_names.specs.Bytes.{digit_zero, is_digit, IsWord}

-- from 1 up to the last
abbrev pub IsNodeNumber : ℕ → Type 0
IsNodeNumber number = (1 ≤ number) × (number ≤ 9000000000000000000)

-- 1 to 19 digits without a leading zero
abbrev pub HasNumberDigits : List ℕ → Type 0
HasNumberDigits text = IsWord 1 19 is_digit text × (slice_index text 0 ≢ digit_zero)

-- the digits of a number from 1 up to the last
abbrev pub IsNumber : List ℕ → Type 0
IsNumber text = HasNumberDigits text × IsNodeNumber (digits_value 10 text)
