-- What is found in a list, and whether any of it passes.
use Rattle.std.proofs.Common.{◌≡◌, inl, inr, ◌<◌, ◌≤◌, Bool, true, false, not, cond, List, [], ◌∷◌, filter, length, Some, None, refl, sym, subst, arith}
use Rattle.std.specs.Prelude.{Contains}
use Rattle.std.specs.List.{All, find, list_any}
use Rattle.std.specs.Option.{is_some}
use Rattle.std.proofs.lemmas.Bool.{both_ways, or_parts}
use Rattle.std.proofs.lemmas.List.Elements.{All-cons, All-head, All-nil, All-tail}
use Rattle.iam_model.proofs.Placing.{Contains-cases, Contains-here, Contains-there}

-- what is found passes
pub find-passes : {X : Type 0} (p : X → Bool) (xs : List X) (x : X) → find p xs ≡ Some x → p x ≡ true
find-passes p [] x found = absurd (cc)
find-passes {X} p (y ∷ ys) x found =
    elim (p y) as (λ b. p y ≡ b → cond b (Some y) (find p ys) ≡ Some x → p x ≡ true) [
      | true ↦ λ is h. let same : y ≡ x = cc in subst (λ (z : X). p z ≡ true) same is
      | false ↦ λ is h. find-passes p ys x h
    ] refl found

-- it's an element
pub find-Contains : {X : Type 0} (p : X → Bool) (xs : List X) (x : X) → find p xs ≡ Some x → Contains xs x
find-Contains p [] x found = absurd (cc)
find-Contains {X} p (y ∷ ys) x found =
    elim (p y) as (λ b. cond b (Some y) (find p ys) ≡ Some x → Contains (y ∷ ys) x) [
      | true ↦ λ h. let same : y ≡ x = cc in subst (λ (z : X). Contains (y ∷ ys) z) same (Contains-here y ys)
      | false ↦ λ h. Contains-there y ys x (find-Contains p ys x h)
    ] found

-- nothing is found where no element passes
pub find_nothing : {X : Type 0} (p : X → Bool) (xs : List X) → All (λ x. p x ≡ false) xs → find p xs ≡ None
find_nothing p [] fails = refl
find_nothing {X} p (x ∷ xs) fails = rw (All-head (λ (y : X). p y ≡ false) x xs fails) (find_nothing p xs (All-tail (λ (y : X). p y ≡ false) x xs fails))

-- where nothing is found, no element passes
pub nothing_passes : {X : Type 0} (p : X → Bool) (xs : List X) → find p xs ≡ None → All (λ x. p x ≡ false) xs
nothing_passes p [] none = All-nil (λ x. p x ≡ false)
nothing_passes {X} p (y ∷ ys) none =
    elim (p y) as (λ b. p y ≡ b → cond b (Some y) (find p ys) ≡ None → All (λ (x : X). p x ≡ false) (y ∷ ys)) [
      | true ↦ λ is h. absurd (cc)
      | false ↦ λ is h. All-cons (λ (x : X). p x ≡ false) y ys is (nothing_passes p ys h)
    ] refl none

-- something is found where an element passes
pub finds_some : {X : Type 0} (p : X → Bool) (xs : List X) (x : X) → Contains xs x → p x ≡ true → is_some (find p xs) ≡ true
finds_some p [] x there passes = absurd (omega (arith, there.1))
finds_some {X} p (y ∷ ys) x there passes =
    elim (p y) as (λ b. p y ≡ b → is_some (cond b (Some y) (find p ys)) ≡ true) [
      | true ↦ λ is. refl
      | false ↦ λ is. elim (Contains-cases y ys x there) [
        | inl same ↦ absurd (both_ways (p y) is (subst (λ (z : X). p z ≡ true) (sym same) passes))
        | inr more ↦ finds_some p ys x more passes
      ]
    ] refl

-- none passes where not any does
pub none_passes : {X : Type 0} (p : X → Bool) (xs : List X) → list_any p xs ≡ false → All (λ x. p x ≡ false) xs
none_passes p [] h = All-nil (λ x. p x ≡ false)
none_passes {X} p (x ∷ xs) h =
    let parts = or_parts (p x) (list_any p xs) h in
    All-cons (λ (y : X). p y ≡ false) x xs parts.0 (none_passes p xs parts.1)

-- ---- what holds of all

pub All-of : {X : Type 0} (P : X → Type 0) → ((x : X) → P x) → (xs : List X) → All P xs
All-of P holds xs = λ k d within. holds _

pub All-both : {X : Type 0} (P Q R : X → Type 0) → ((x : X) → P x → Q x → R x) → (xs : List X) → All P xs → All Q xs → All R xs
All-both P Q R both xs first second = λ k d within. both _ (first k d within) (second k d within)

-- ---- what a filter keeps

pub filter-Contains : {X : Type 0} (p : X → Bool) (xs : List X) (x : X) → Contains (filter p xs) x → Contains xs x × (p x ≡ true)
filter-Contains p [] x there = absurd (omega (arith, there.1))
filter-Contains {X} p (y ∷ ys) x there =
    elim (p y) as (λ b. p y ≡ b → Contains (cond b (y ∷ filter p ys) (filter p ys)) x → Contains (y ∷ ys) x × (p x ≡ true)) [
      | true ↦ λ is h. elim (Contains-cases y (filter p ys) x h) [
        | inl same ↦ (subst (λ (z : X). Contains (y ∷ ys) z) same (Contains-here y ys), subst (λ (z : X). p z ≡ true) same is)
        | inr more ↦ behind (filter-Contains p ys x more)
      ]
      | false ↦ λ is h. behind (filter-Contains p ys x h)
    ] refl there
  where
    behind : Contains ys x × (p x ≡ true) → Contains (y ∷ ys) x × (p x ≡ true)
    behind (more, passes) = (Contains-there y ys x more, passes)

pub Contains-filter : {X : Type 0} (p : X → Bool) (xs : List X) (x : X) → Contains xs x → p x ≡ true → Contains (filter p xs) x
Contains-filter p [] x there passes = absurd (omega (arith, there.1))
Contains-filter {X} p (y ∷ ys) x there passes =
    elim (p y) as (λ b. p y ≡ b → Contains (cond b (y ∷ filter p ys) (filter p ys)) x) [
      | true ↦ λ is. elim (Contains-cases y ys x there) [
        | inl same ↦ subst (λ (z : X). Contains (y ∷ filter p ys) z) same (Contains-here y (filter p ys))
        | inr more ↦ Contains-there y (filter p ys) x (Contains-filter p ys x more passes)
      ]
      | false ↦ λ is. elim (Contains-cases y ys x there) [
        | inl same ↦ absurd (both_ways (p y) is (subst (λ (z : X). p z ≡ true) (sym same) passes))
        | inr more ↦ Contains-filter p ys x more passes
      ]
    ] refl

pub filter_shorter : {X : Type 0} (p : X → Bool) (xs : List X) → length (filter p xs) ≤ length xs
filter_shorter p [] = omega arith
filter_shorter {X} p (x ∷ xs) =
    elim (p x) as (λ b. length (cond b (x ∷ filter p xs) (filter p xs)) ≤ length (x ∷ xs)) [ true ↦ omega (arith, filter_shorter p xs) | false ↦ omega (arith, filter_shorter p xs) ]

-- one that is found is left out by the opposite test
pub left_out : {X : Type 0} (p : X → Bool) (xs : List X) (x : X) → find p xs ≡ Some x → length (filter (λ y. not (p y)) xs) < length xs
left_out p [] x found = absurd (cc)
left_out {X} p (y ∷ ys) x found =
    elim (p y) as (λ b. cond b (Some y) (find p ys) ≡ Some x → length (cond (not b) (y ∷ filter (λ z. not (p z)) ys) (filter (λ z. not (p z)) ys)) < length (y ∷ ys)) [
      | true ↦ λ h. omega (arith, filter_shorter (λ (z : X). not (p z)) ys)
      | false ↦ λ h. omega (arith, left_out p ys x h)
    ] found
