-- Templates of `extract`.
use Rattle.std.specs.Prelude.{ℕ, ◌+◌, ◌==◌, nat_lt, Bool, false, ◌&&◌, Option, Some, List, count_by, position}
use Rattle.std.specs.Str.{byte}

-- there is something between the braces
abbrev pub is_apart : Option ℕ → Option ℕ → Bool
is_apart (Some opened) (Some closed) = nat_lt (opened + 1) closed
is_apart _ _ = false

abbrev pub is_single : ℕ → List ℕ → Bool
is_single byte text = count_by (λ b. b == byte) text == 1

abbrev pub has_single_braces : List ℕ → Bool
has_single_braces text = is_single (byte "{") text && is_single (byte "}") text

abbrev pub has_name : List ℕ → Bool
has_name text = is_apart (position (λ b. b == byte "{") text) (position (λ b. b == byte "}") text)

-- exactly one `{name}` and no other brace; the name has a character or more
abbrev pub is_template : List ℕ → Bool
is_template text = has_single_braces text && has_name text
