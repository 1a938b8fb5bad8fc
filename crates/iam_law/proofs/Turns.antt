-- The first in turn that passes is the first binding that passes.
use Rattle.std.proofs.Common.{◌≡◌, inl, inr, ℕ, zero, suc, ◌+◌, ◌<◌, ◌≤◌, Bool, true, false, cond, List, [], ◌∷◌, Option, Some, None, refl, sym, ap, subst, ◌∙◌, arith}
use Rattle.std.specs.Prelude.{Contains, nat_lt, slice_get}
use Rattle.std.specs.Bool.{◌==◌}
use Rattle.std.specs.List.{All, enumerate_from, find}
use Rattle.std.specs.Ordering.{nat_cmp, is_eq, ordering_reverse, ordering_then}
use Rattle.std.specs.declared.cmp.Ordering.TheVariants.{Less, Equal, Greater}
use Rattle.std.specs.Cmp.{IsTotalOrder}
use Rattle.std.specs.Cmp.Lexicographic.{slice_cmp}
use Rattle.std.proofs.lemmas.Bool.{both_ways, lt-ltb, ltb-true}
use Rattle.std.proofs.lemmas.Cmp.{nat_cmp_total, nat_list_cmp_total, on_total, then_total, tied_itself}
use Rattle.std.proofs.lemmas.List.Elements.{All-cons, All-nil}
use Rattle.iam_text.proofs.InOrder.{placed-IsInOrder}
use Rattle.iam_names.specs.Role.{role_text}
use Rattle.iam_types.specs.declared.allow.Binding.{Binding}
use Rattle.iam_model.specs.Part.{AreApartBy}
use Rattle.iam_model.proofs.Placing.{Contains-cases, Contains-here, Contains-there, placed_from, placed_has}
use Rattle.iam_law.specs.Decide.{in_turn, turn_order}
use Rattle.iam_law.specs.First.{IsFirstOf, UpTo}
use Rattle.iam_law.proofs.Elements.{find-first, find-none, none_there}

turn_total : IsTotalOrder turn_order
turn_total = then_total (on_total (λ (turn : ℕ × Binding). role_text turn.1.role) nat_list_cmp_total) (on_total (λ (turn : ℕ × Binding). turn.0) nat_cmp_total)

-- ---- bindings with their places

placed_binding : (n : ℕ) (bindings : List Binding) (k at : ℕ) (b : Binding) → slice_get bindings k ≡ Some b → at ≡ n + k → Contains (enumerate_from n bindings) (at, b)
placed_binding n [] k at b there is = absurd (cc)
placed_binding n (first ∷ bindings) zero at b there is =
    let place : n ≡ at = omega (arith, is) in
    let same : first ≡ b = cc in
    let both : (n, first) ≡ (at, b) = cc in
    subst (λ (turn : ℕ × Binding). Contains (enumerate_from n (first ∷ bindings)) turn) both (Contains-here (n, first) (enumerate_from (n + 1) bindings))
placed_binding n (first ∷ bindings) (suc k) at b there is =
    Contains-there (n, first) (enumerate_from (n + 1) bindings) (at, b) (placed_binding (n + 1) bindings k at b there (omega (arith, is)))

binding_placed : (n : ℕ) (bindings : List Binding) (turn : ℕ × Binding) → Contains (enumerate_from n bindings) turn → (k : ℕ) × (turn.0 ≡ n + k) × (slice_get bindings k ≡ Some turn.1)
binding_placed n [] turn there = absurd (none_there turn there)
binding_placed n (first ∷ bindings) turn there = elim (Contains-cases (n, first) (enumerate_from (n + 1) bindings) turn there) [
  | inl same ↦ subst (λ (t : ℕ × Binding). (k : ℕ) × (t.0 ≡ n + k) × (slice_get (first ∷ bindings) k ≡ Some t.1)) same (0, omega arith, refl)
  | inr more ↦ let behind = binding_placed (n + 1) bindings turn more in let place = behind.1 in (suc behind.0, omega (arith, place), behind.2)
]

-- a turn differs from each with a later place
later_differs : (a b : ℕ × Binding) → a.0 < b.0 → is_eq (turn_order a b) ≡ false
later_differs a b less =
    let places : nat_cmp a.0 b.0 ≡ Less = ap (λ t. cond t Less (cond (a.0 == b.0) Equal Greater)) (lt-ltb a.0 b.0 less) in
    elim (slice_cmp nat_cmp (role_text a.1.role) (role_text b.1.role)) as (λ o. is_eq (ordering_then o (nat_cmp a.0 b.0)) ≡ false) [
      | Less ↦ refl
      | Equal ↦ ap is_eq places
      | Greater ↦ refl
    ]

later_differ : (turn : ℕ × Binding) (n : ℕ) (bindings : List Binding) → turn.0 < n → All (λ other. is_eq (turn_order turn other) ≡ false) (enumerate_from n bindings)
later_differ turn n [] less = All-nil (λ (other : ℕ × Binding). is_eq (turn_order turn other) ≡ false)
later_differ turn n (first ∷ bindings) less =
    All-cons (λ (other : ℕ × Binding). is_eq (turn_order turn other) ≡ false) (n, first) (enumerate_from (n + 1) bindings) (later_differs turn (n, first) less) (later_differ turn (n + 1) bindings (omega (arith, less)))

turns_apart : (n : ℕ) (bindings : List Binding) → AreApartBy turn_order (enumerate_from n bindings)
turns_apart n [] = tt
turns_apart n (first ∷ bindings) = (later_differ (n, first) (n + 1) bindings (omega arith), turns_apart (n + 1) bindings)

-- ---- the first of them

less_upto : (a b : ℕ) → nat_cmp a b ≡ Less → a ≤ b
less_upto a b =
    elim (nat_lt a b) as (λ t. nat_lt a b ≡ t → cond t Less (cond (a == b) Equal Greater) ≡ Less → a ≤ b) [
      | true ↦ λ is h. let below : a < b = ltb-true a b is in omega (arith, below)
      | false ↦ λ is. elim (a == b) as (λ t. cond t Equal Greater ≡ Less → a ≤ b) [ true ↦ λ h. absurd (cc) | false ↦ λ h. absurd (cc) ]
    ] refl

upto_from : (a b : ℕ × Binding) → turn_order a b ≡ Less → UpTo a b
upto_from a b =
    elim (slice_cmp nat_cmp (role_text a.1.role) (role_text b.1.role)) as (λ o. slice_cmp nat_cmp (role_text a.1.role) (role_text b.1.role) ≡ o → ordering_then o (nat_cmp a.0 b.0) ≡ Less → UpTo a b) [
      | Less ↦ λ is h. inl is
      | Equal ↦ λ is h. inr (is, less_upto a.0 b.0 h)
      | Greater ↦ λ is h. absurd (cc)
    ] refl

upto_itself : (a : ℕ × Binding) → UpTo a a
upto_itself a = inr (tied_itself nat_list_cmp_total (role_text a.1.role), omega arith)

pub found_is_first : (passes : Binding → Bool) (bindings : List Binding) → IsFirstOf passes bindings (find (λ turn. passes turn.1) (in_turn bindings))
found_is_first passes bindings = go (find (λ (turn : ℕ × Binding). passes turn.1) (in_turn bindings)) refl
  where
    in_its_turn : (k : ℕ) (other : Binding) → slice_get bindings k ≡ Some other → Contains (in_turn bindings) (k, other)
    in_its_turn k other at = placed_has turn_order (enumerate_from 0 bindings) (k, other) (turns_apart 0 bindings) (placed_binding 0 bindings k k other at (omega arith))

    go : (found : Option (ℕ × Binding)) → find (λ (turn : ℕ × Binding). passes turn.1) (in_turn bindings) ≡ found → IsFirstOf passes bindings found
    go None found = λ k other at. find-none (λ (turn : ℕ × Binding). passes turn.1) (in_turn bindings) found (k, other) (in_its_turn k other at)
    go (Some first) found =
        let is = find-first turn_order (λ (turn : ℕ × Binding). passes turn.1) (in_turn bindings) first (placed-IsInOrder turn_order turn_total (enumerate_from 0 bindings)) found in
        let place = binding_placed 0 bindings first (placed_from turn_order (enumerate_from 0 bindings) first is.0) in
        let zero_in : place.0 ≡ first.0 = omega (arith, place.1) in
        record {
          there = subst (λ (k : ℕ). slice_get bindings k ≡ Some first.1) zero_in place.2;
          passing = is.1;
          before = λ k other at passing. elim (is.2 (k, other) (in_its_turn k other at) passing) [
            | inl less ↦ upto_from first (k, other) less
            | inr same ↦ subst (λ (turn : ℕ × Binding). UpTo first turn) same (upto_itself first)
          ];
        }

-- ---- there is one first

same_place_of : (a b : ℕ × Binding) → UpTo a b → UpTo b a → a.0 ≡ b.0
same_place_of a b (inl less) (inl back) = absurd (let greater = nat_list_cmp_total.antisymm (role_text a.1.role) (role_text b.1.role) ∙ ap ordering_reverse back in cc)
same_place_of a b (inl less) (inr back) = absurd (let tied = nat_list_cmp_total.antisymm (role_text a.1.role) (role_text b.1.role) ∙ ap ordering_reverse back.0 in cc)
same_place_of a b (inr same) (inl back) = absurd (let greater = nat_list_cmp_total.antisymm (role_text a.1.role) (role_text b.1.role) ∙ ap ordering_reverse back in cc)
same_place_of a b (inr same) (inr back) = omega (arith, same.1, back.1)

pub one_first : (passes : Binding → Bool) (bindings : List Binding) (a b : Option (ℕ × Binding)) → IsFirstOf passes bindings a → IsFirstOf passes bindings b → a ≡ b
one_first passes bindings None None first other = refl
one_first passes bindings None (Some b) none other = absurd (both_ways (passes b.1) (none b.0 b.1 other.there) other.passing)
one_first passes bindings (Some a) None first none = absurd (both_ways (passes a.1) (none a.0 a.1 first.there) first.passing)
one_first passes bindings (Some (i, x)) (Some (j, y)) first other =
    let place : i ≡ j = same_place_of (i, x) (j, y) (first.before j y other.there other.passing) (other.before i x first.there first.passing) in
    let found : Some x ≡ Some y = sym first.there ∙ ap (slice_get bindings) place ∙ other.there in
    cc
