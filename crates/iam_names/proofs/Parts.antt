-- The parts of a text between its dots.
use Rattle.std.proofs.Common.{ℕ, ◌<◌, Bool, true, false, List, length, MatchBool, IsTrue, ◌↔◌, arith}
use Rattle.std.specs.List.{All, AllWithin, HoldsAt}
use Rattle.std.proofs.lemmas.Iterator.Search.{true_from_All}

each_has : {A : Type 0} (P : A → Type 0) (Q : Type 0) (r : Bool) (xs : List A) → MatchBool r (AllWithin P xs 0 (length xs)) Q → IsTrue r → All P xs
each_has P Q true xs all holds = λ k d below. all k d (omega arith) below
each_has P Q false xs all holds = cc

-- `all` that stops at the first element without P tells whether each has it
pub all_decides : {A : Type 0} (P : A → Type 0) (r : Bool) (xs : List A) → MatchBool r (AllWithin P xs 0 (length xs)) ((k : ℕ) × (k < length xs) × HoldsAt (λ x. ¬ P x) xs k) → IsTrue r ↔ All P xs
all_decides P r xs cases = (each_has P _ r xs cases, λ all. true_from_All P (λ x. ¬ P x) r xs (λ x has not. not has) cases all)
