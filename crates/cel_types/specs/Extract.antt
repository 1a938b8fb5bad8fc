-- What `extract` gives.
use Rattle.std.specs.Prelude.{ℕ, ◌==◌, nat_eq, if◌then◌else◌, Option, Some, None, unwrap_or, List, [], ◌∷◌, length, drop}
use Rattle.std.specs.List.{starts_with, before_first, after_first}
use Rattle.std.specs.Option.{option_map}

-- the rest behind the first occurrence of a text
abbrev pub behind_text : List ℕ → List ℕ → Option (List ℕ)
behind_text part [] = if starts_with nat_eq [] part then Some [] else None
behind_text part (b ∷ bs) =
    if starts_with nat_eq (b ∷ bs) part then Some (drop (length part) (b ∷ bs)) else behind_text part bs

-- the text up to the first occurrence of a text
abbrev pub before_text : List ℕ → List ℕ → Option (List ℕ)
before_text part [] = if starts_with nat_eq [] part then Some [] else None
before_text part (b ∷ bs) =
    if starts_with nat_eq (b ∷ bs) part then Some [] else option_map (λ front. b ∷ front) (before_text part bs)

-- what stands before the name in a template, and behind it
abbrev pub prefix_of : List ℕ → List ℕ
prefix_of template = before_first (λ b. b == 123) template

abbrev pub suffix_of : List ℕ → List ℕ
suffix_of template = after_first (λ b. b == 125) template

abbrev pub up_to : List ℕ → List ℕ → List ℕ
up_to [] text = text
up_to (b ∷ bs) text = unwrap_or (before_text (b ∷ bs) text) []

abbrev pub between : Option (List ℕ) → List ℕ → List ℕ
between None suffix = []
between (Some rest) suffix = up_to suffix rest

-- the text between the first prefix and the first suffix from there on; to the end where the suffix is empty;
-- with no occurrence of either it is empty
abbrev pub extracted : List ℕ → List ℕ → List ℕ → List ℕ
extracted prefix suffix text = between (behind_text prefix text) suffix
