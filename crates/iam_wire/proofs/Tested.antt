-- The values of a name, as a test goes over them.
use Rattle.std.proofs.Common.{◌≡◌, ℕ, ◌+◌, ◌<◌, ◌∷◌, List, Bool, true, false, get_or, length, reverse, take, refl}
use Rattle.std.specs.List.{list_all, list_any}
use Rattle.std.proofs.lemmas.List.{take_more, reverse-append}

pub all_step : (test : List ℕ → Bool) (value : List ℕ) (values : List (List ℕ)) → test value ≡ true → list_all test (value ∷ values) ≡ list_all test values
all_step test value values passes = rw passes refl

pub any_step : (test : List ℕ → Bool) (value : List ℕ) (values : List (List ℕ)) → test value ≡ false → list_any test (value ∷ values) ≡ list_any test values
any_step test value values fails = rw fails refl

-- from the end, the last comes first
pub last_first : (text : List ℕ) (n : ℕ) → n < length text → reverse (take (n + 1) text) ≡ get_or text n 0 ∷ reverse (take n text)
last_first text n inside = rw (take_more text n 0 inside, reverse-append) refl
