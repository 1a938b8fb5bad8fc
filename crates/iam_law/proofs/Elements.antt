-- Elements of lists that are mapped, kept, and looked for.
use Rattle.std.proofs.Common.{◌≡◌, ◌⊎◌, inl, inr, Bool, true, false, cond, List, [], ◌∷◌, map, filter, Some, None, refl, ap, subst, arith}
use Rattle.std.specs.Prelude.{Contains}
use Rattle.std.specs.List.{find}
use Rattle.std.specs.declared.cmp.Ordering.{Ordering}
use Rattle.std.specs.declared.cmp.Ordering.TheVariants.{Less}
use Rattle.std.proofs.lemmas.Bool.{both_ways}
use Rattle.std.proofs.lemmas.List.Elements.{All-contains}
use Rattle.iam_text.specs.Put.{IsInOrder}
use Rattle.iam_model.proofs.Placing.{Contains-cases, Contains-here, Contains-there}

pub none_there : {X : Type 0} (x : X) → Contains [] x → ⊥
none_there x there = absurd (omega (arith, there.1))

pub map-Contains : {X Y : Type 0} (f : X → Y) (xs : List X) (x : X) → Contains xs x → Contains (map f xs) (f x)
map-Contains f [] x there = absurd (none_there x there)
map-Contains {X} {Y} f (first ∷ xs) x there = elim (Contains-cases first xs x there) [
  | inl same ↦ subst (λ (y : Y). Contains (map f (first ∷ xs)) y) (ap f same) (Contains-here (f first) (map f xs))
  | inr more ↦ Contains-there (f first) (map f xs) (f x) (map-Contains f xs x more)
]

pub Contains-map : {X Y : Type 0} (f : X → Y) (xs : List X) (y : Y) → Contains (map f xs) y → (x : X) × Contains xs x × (f x ≡ y)
Contains-map f [] y there = absurd (none_there y there)
Contains-map {X} {Y} f (first ∷ xs) y there = elim (Contains-cases (f first) (map f xs) y there) [
  | inl same ↦ (first, Contains-here first xs, same)
  | inr more ↦ behind (Contains-map f xs y more)
]
  where
    behind : ((x : X) × Contains xs x × (f x ≡ y)) → (x : X) × Contains (first ∷ xs) x × (f x ≡ y)
    behind (x, at, is) = (x, Contains-there first xs x at, is)

pub filter-Contains : {X : Type 0} (keep : X → Bool) (xs : List X) (x : X) → keep x ≡ true → Contains xs x → Contains (filter keep xs) x
filter-Contains keep [] x kept there = there
filter-Contains {X} keep (first ∷ xs) x kept there =
    elim (keep first) as (λ b. keep first ≡ b → Contains (cond b (first ∷ filter keep xs) (filter keep xs)) x) [
      | true ↦ λ is. elim (Contains-cases first xs x there) [
        | inl same ↦ subst (λ (y : X). Contains (first ∷ filter keep xs) y) same (Contains-here first (filter keep xs))
        | inr more ↦ Contains-there first (filter keep xs) x (filter-Contains keep xs x kept more)
      ]
      | false ↦ λ is. elim (Contains-cases first xs x there) [
        | inl same ↦ absurd (both_ways (keep x) (subst (λ (y : X). keep y ≡ false) same is) kept)
        | inr more ↦ filter-Contains keep xs x kept more
      ]
    ] refl

pub Contains-filter : {X : Type 0} (keep : X → Bool) (xs : List X) (x : X) → Contains (filter keep xs) x → Contains xs x × (keep x ≡ true)
Contains-filter keep [] x = λ there. absurd (none_there x there)
Contains-filter {X} keep (first ∷ xs) x =
    elim (keep first) as (λ b. keep first ≡ b → Contains (cond b (first ∷ filter keep xs) (filter keep xs)) x → Contains (first ∷ xs) x × (keep x ≡ true)) [
      | true ↦ λ is there. elim (Contains-cases first (filter keep xs) x there) [
        | inl same ↦ (subst (λ (y : X). Contains (first ∷ xs) y) same (Contains-here first xs), subst (λ (y : X). keep y ≡ true) same is)
        | inr more ↦ let behind = Contains-filter keep xs x more in (Contains-there first xs x behind.0, behind.1)
      ]
      | false ↦ λ is there. let behind = Contains-filter keep xs x there in (Contains-there first xs x behind.0, behind.1)
    ] refl

-- the first that passes is there, passes, and stands before all others that pass
pub find-first : {X : Type 0} (order : X → X → Ordering) (passes : X → Bool) (xs : List X) (x : X) → IsInOrder order xs → find passes xs ≡ Some x
    → Contains xs x × (passes x ≡ true) × ((y : X) → Contains xs y → passes y ≡ true → (order x y ≡ Less) ⊎ (x ≡ y))
find-first order passes [] x ordered = λ found. absurd (cc)
find-first {X} order passes (first ∷ xs) x ordered =
    elim (passes first) as (λ b. passes first ≡ b → cond b (Some first) (find passes xs) ≡ Some x → Contains (first ∷ xs) x × (passes x ≡ true) × ((y : X) → Contains (first ∷ xs) y → passes y ≡ true → (order x y ≡ Less) ⊎ (x ≡ y))) [
      | true ↦ λ is found. let same : first ≡ x = cc in
          subst (λ (z : X). Contains (first ∷ xs) z × (passes z ≡ true) × ((y : X) → Contains (first ∷ xs) y → passes y ≡ true → (order z y ≡ Less) ⊎ (z ≡ y))) same
          (Contains-here first xs, is, λ y there passing. elim (Contains-cases first xs y there) [ inl here ↦ inr here | inr more ↦ inl (All-contains (λ (z : X). order first z ≡ Less) xs y ordered.0 more) ])
      | false ↦ λ is found. let behind = find-first order passes xs x ordered.1 found in (
        Contains-there first xs x behind.0,
        behind.1,
        λ y there passing. elim (Contains-cases first xs y there) [
          | inl here ↦ absurd (both_ways (passes y) (subst (λ (z : X). passes z ≡ false) here is) passing)
          | inr more ↦ behind.2 y more passing
        ],
      )
    ] refl

pub find-none : {X : Type 0} (passes : X → Bool) (xs : List X) → find passes xs ≡ None → (y : X) → Contains xs y → passes y ≡ false
find-none passes [] = λ found y there. absurd (none_there y there)
find-none {X} passes (first ∷ xs) =
    elim (passes first) as (λ b. passes first ≡ b → cond b (Some first) (find passes xs) ≡ None → (y : X) → Contains (first ∷ xs) y → passes y ≡ false) [
      | true ↦ λ is found. absurd (cc)
      | false ↦ λ is found y there. elim (Contains-cases first xs y there) [
        | inl here ↦ subst (λ (z : X). passes z ≡ false) here is
        | inr more ↦ find-none passes xs found y more
      ]
    ] refl
