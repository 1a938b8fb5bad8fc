-- A word among words that are lent.
use Rattle.std.proofs.Common.{◌≡◌, ℕ, ◌||◌, List, [], ◌∷◌, map, refl, ap, bytes_eq, Bor}
use Rattle.std.specs.List.{list_any}

pub among_lent : (words : List (Bor (List ℕ))) (word : List ℕ) → list_any (λ one. bytes_eq word one.now) words ≡ list_any (bytes_eq word) (map (λ one. one.now) words)
among_lent [] word = refl
among_lent (one ∷ words) word = ap (λ more. bytes_eq word one.now || more) (among_lent words word)
