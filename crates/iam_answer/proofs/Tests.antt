-- A test's permissions, one by one.
use Rattle.std.proofs.Common.{◌≡◌, ◌∙◌, ℕ, ◌+◌, ◌<◌, Bool, true, false, not, List, [], ◌∷◌, ◌++◌, length, get_or, take, filter, None, refl, sym, ap}
use Rattle.std.specs.List.{find, list_all}
use Rattle.std.proofs.lemmas.List.{take_more}
use Rattle.std.proofs.lemmas.List.Elements.{filter-append}

-- all are known where none is found that isn't
pub none_unknown : {X : Type 0} (known : X → Bool) (xs : List X) → None ≡ find (λ x. not (known x)) xs → list_all known xs ≡ true
none_unknown known [] none = refl
none_unknown {X} known (x ∷ xs) none =
    elim (known x) as (λ b. known x ≡ b → list_all known (x ∷ xs) ≡ true) [
      | true ↦ λ is. rw is (none_unknown known xs (rw is at none))
      | false ↦ λ is. cc (rw is at none)
    ] refl

-- one more item is kept or left out
pub filter-more : {X : Type 0} (keep : X → Bool) (xs so_far more : List X) (i : ℕ) (d : X) → i < length xs → d ≡ get_or xs i d → so_far ≡ filter keep (take i xs) → more ≡ so_far ++ filter keep (d ∷ []) → more ≡ filter keep (take (i + 1) xs)
filter-more {X} keep xs so_far more i d within at so pushed =
    pushed ∙ ap (λ ys. ys ++ filter keep (d ∷ [])) so ∙ ap (λ (x : X). filter keep (take i xs) ++ filter keep (x ∷ [])) at
    ∙ sym (filter-append keep (take i xs) (get_or xs i d ∷ [])) ∙ ap (filter keep) (sym (take_more xs i d within))
