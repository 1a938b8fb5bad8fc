-- Words as pairs of an option and its value.
use Rattle.std.specs.Prelude.{◌≡◌, Bool, true, false, not, ◌&&◌, ◌||◌, ◌==◌, ℕ, List, [], ◌∷◌, Some, None, IsTrue, if◌then◌else◌}
use Rattle.std.specs.declared.option.Option.{Option}
use Rattle.std.specs.List.{list_any}
use Rattle.std.specs.Str.{bytes_eq}
use Rattle.iam_names.specs.Bytes.{dash}

-- the name of each option, and its value
abbrev pub Pairs : Type 0
Pairs = List (List ℕ × List ℕ)

-- `--name value` for each pair, in turn
abbrev pub words_of : Pairs → List (List ℕ)
words_of [] = []
words_of ((name, value) ∷ pairs) = (dash ∷ dash ∷ name) ∷ value ∷ words_of pairs

-- the values of the options in the pairs
abbrev pub values_of : Pairs → List ℕ → Option (List ℕ)
values_of [] name = None
values_of ((other, value) ∷ pairs) name = if bytes_eq other name then Some value else values_of pairs name

-- the name is one of these
abbrev pub is_among : List (List ℕ) → List ℕ → Bool
is_among names name = list_any (λ other. bytes_eq other name) names

-- the option with this name is in a pair
abbrev pub is_given : List ℕ → Pairs → Bool
is_given name [] = false
is_given name ((other, value) ∷ pairs) = bytes_eq name other || is_given name pairs

-- a value is not empty, and does not begin with `-`
abbrev pub is_value : List ℕ → Bool
is_value [] = false
is_value (first ∷ rest) = not (first == dash)

-- each option has one of these names, none is given twice, and each value is one
abbrev pub are_options : List (List ℕ) → Pairs → Bool
are_options names [] = true
are_options names ((name, value) ∷ pairs) = is_among names name && not (is_given name pairs) && is_value value && are_options names pairs

-- the words are pairs of options with these names
abbrev pub ArePairs : List (List ℕ) → List (List ℕ) → Type 0
ArePairs names words = (pairs : Pairs) × (words ≡ words_of pairs) × IsTrue (are_options names pairs)
