-- The pairs of words, told by the words themselves.
use Rattle.std.specs.Prelude.{Bool, true, false, not, ◌&&◌, ◌||◌, ℕ, List, [], ◌∷◌}
use Rattle.std.specs.List.{list_any}
use Rattle.std.specs.Str.{bytes_eq}
use Rattle.iam_names.specs.Bytes.{dash}
use Rattle.iam_plan.specs.Pairs.{is_value}

-- the word of the option with this name
abbrev pub option_word : List ℕ → List ℕ
option_word name = dash ∷ dash ∷ name

-- the word is that of an option with one of these names
abbrev pub is_option : List (List ℕ) → List ℕ → Bool
is_option names word = list_any (λ name. bytes_eq (option_word name) word) names

-- the word begins a pair of these words
abbrev pub begins_pair : List ℕ → List (List ℕ) → Bool
begins_pair word [] = false
begins_pair word (other ∷ []) = false
begins_pair word (other ∷ value ∷ words) = bytes_eq word other || begins_pair word words

-- the two words are a pair, and the option isn't in those behind them
abbrev pub is_pair : List (List ℕ) → List ℕ → List ℕ → List (List ℕ) → Bool
is_pair names word value words = is_option names word && not (begins_pair word words) && is_value value

-- the words are pairs
abbrev pub are_paired : List (List ℕ) → List (List ℕ) → Bool
are_paired names [] = true
are_paired names (word ∷ []) = false
are_paired names (word ∷ value ∷ words) = is_pair names word value words && are_paired names words
