-- A scan for the least role's text gives the first binding that passes.
use Rattle.std.proofs.Common.{◌≡◌, ℕ, zero, suc, ◌+◌, ◌<◌, ◌≤◌, Bool, true, false, cond, ◌&&◌, List, [], ◌∷◌, ◌++◌, length, Option, Some, None, refl, sym, ap, subst, ◌∙◌, ◌⊎◌, inl, inr, arith, get_or, take, Bor}
use Rattle.std.specs.Prelude.{slice_get}
use Rattle.std.specs.List.{find}
use Rattle.std.specs.Option.{option_map}
use Rattle.std.specs.Ordering.{nat_cmp, is_lt, ordering_reverse}
use Rattle.std.specs.declared.cmp.Ordering.{Ordering}
use Rattle.std.specs.declared.cmp.Ordering.TheVariants.{Less, Equal, Greater}
use Rattle.std.specs.Cmp.{IsTotalOrder}
use Rattle.std.specs.Cmp.Lexicographic.{slice_cmp}
use Rattle.std.proofs.lemmas.Cmp.{nat_list_cmp_total, tied_itself, tied_back, alike_right}
use Rattle.std.proofs.lemmas.List.{take_more, length-take-le}
use Rattle.std.proofs.lemmas.Option.{slice_get_within}
use Rattle.std.proofs.lemmas.Bool.{both_ways}
use Rattle.iam_names.specs.Role.{role_text}
use Rattle.iam_types.specs.declared.allow.Binding.{Binding}
use Rattle.iam_law.specs.Decide.{in_turn}
use Rattle.iam_law.specs.First.{UpTo, IsFirst, IsFirstOf}
use Rattle.iam_judge.specs.Leading.{role_before}

-- an element of a longer list
get-push : {X : Type 0} (xs : List X) (y : X) → slice_get (xs ++ y ∷ []) (length xs) ≡ Some y
get-push [] y = refl
get-push (x ∷ xs) y = get-push xs y

get-more : {X : Type 0} (xs : List X) (y : X) (k : ℕ) (x : X) → slice_get xs k ≡ Some x → slice_get (xs ++ y ∷ []) k ≡ Some x
get-more [] y k x h = absurd (cc)
get-more (z ∷ zs) y zero x h = h
get-more (z ∷ zs) y (suc k) x h = get-more zs y k x h

get-push_cases : {X : Type 0} (xs : List X) (y : X) (k : ℕ) (x : X) → slice_get (xs ++ y ∷ []) k ≡ Some x → (slice_get xs k ≡ Some x) ⊎ ((k ≡ length xs) × (y ≡ x))
get-push_cases [] y zero x h = inr (refl, cc)
get-push_cases [] y (suc k) x h = absurd (cc)
get-push_cases (z ∷ zs) y zero x h = inl h
get-push_cases (z ∷ zs) y (suc k) x h = elim (get-push_cases zs y k x h) [ inl there ↦ inl there | inr last ↦ inr (ap suc last.0, last.1) ]

total : IsTotalOrder (slice_cmp nat_cmp)
total = nat_list_cmp_total

-- what stands strictly before the best stands before all up to which the best stands
before_all : (x best other : Binding) (i j k : ℕ) → is_lt (slice_cmp nat_cmp (role_text x.role) (role_text best.role)) ≡ true → UpTo (i, best) (k, other) → UpTo (j, x) (k, other)
before_all x best other i j k less upto =
    let strict : slice_cmp nat_cmp (role_text x.role) (role_text best.role) ≡ Less = is_less (slice_cmp nat_cmp (role_text x.role) (role_text best.role)) less in
    elim upto [
      | inl more ↦ inl (total.trans (role_text x.role) (role_text best.role) (role_text other.role) strict more)
      | inr same ↦ inl (sym (alike_right total (role_text best.role) (role_text other.role) (role_text x.role) same.0) ∙ strict)
    ]
  where
    is_less : (o : Ordering) → is_lt o ≡ true → o ≡ Less
    is_less Less h = refl
    is_less Equal h = absurd (cc)
    is_less Greater h = absurd (cc)

-- a best that isn't beaten by a later one stands before it
unbeaten : (x best : Binding) (i j : ℕ) → is_lt (slice_cmp nat_cmp (role_text x.role) (role_text best.role)) ≡ false → i ≤ j → UpTo (i, best) (j, x)
unbeaten x best i j fails le = go (slice_cmp nat_cmp (role_text x.role) (role_text best.role)) refl fails
  where
    go : (o : Ordering) → slice_cmp nat_cmp (role_text x.role) (role_text best.role) ≡ o → is_lt o ≡ false → UpTo (i, best) (j, x)
    go Less is h = absurd (cc)
    go Equal is h = inr (tied_back total (role_text x.role) (role_text best.role) is, le)
    go Greater is h = inl (total.antisymm (role_text best.role) (role_text x.role) ∙ ap ordering_reverse is)

-- one more binding
one_more : (passes : Binding → Bool) (seen : List Binding) (x : Binding) (best : Option (ℕ × Binding)) → IsFirstOf passes seen best
    → IsFirstOf passes (seen ++ x ∷ []) (cond (passes x && role_before x best) (Some (length seen, x)) best)
one_more passes seen x None none = go (passes x) refl
  where
    go : (b : Bool) → passes x ≡ b → IsFirstOf passes (seen ++ x ∷ []) (cond (b && true) (Some (length seen, x)) None)
    go true is = record {
      there = get-push seen x;
      passing = is;
      before = λ k other at passing. elim (get-push_cases seen x k other at) [
        | inl earlier ↦ absurd (both_ways (passes other) (none k other earlier) passing)
        | inr last ↦ inr (subst (λ (o : Binding). slice_cmp nat_cmp (role_text x.role) (role_text o.role) ≡ Equal) last.1 (tied_itself total (role_text x.role)), omega (arith, last.0))
      ];
    }
    go false is = λ k other at. elim (get-push_cases seen x k other at) [
      | inl earlier ↦ none k other earlier
      | inr last ↦ subst (λ (o : Binding). passes o ≡ false) last.1 is
    ]
one_more passes seen x (Some best) first = go (passes x) (is_lt (slice_cmp nat_cmp (role_text x.role) (role_text best.1.role))) refl refl
  where
    keeps : ((passes x ≡ true) → is_lt (slice_cmp nat_cmp (role_text x.role) (role_text best.1.role)) ≡ false) → IsFirst passes (seen ++ x ∷ []) best
    keeps unless = record {
      there = get-more seen x best.0 best.1 first.there;
      passing = first.passing;
      before = λ k other at passing. elim (get-push_cases seen x k other at) [
        | inl earlier ↦ first.before k other earlier passing
        | inr last ↦
            let x_passes : passes x ≡ true = subst (λ (o : Binding). passes o ≡ true) (sym last.1) passing in
            let within : best.0 < length seen = slice_get_within seen best.0 best.1 first.there in
            let upto : UpTo best (k, x) = unbeaten x best.1 best.0 k (unless x_passes) (omega (arith, last.0)) in
            subst (λ (o : Binding). UpTo best (k, o)) last.1 upto
      ];
    }

    go : (b c : Bool) → passes x ≡ b → is_lt (slice_cmp nat_cmp (role_text x.role) (role_text best.1.role)) ≡ c → IsFirstOf passes (seen ++ x ∷ []) (cond (b && c) (Some (length seen, x)) (Some best))
    go true true is less = record {
      there = get-push seen x;
      passing = is;
      before = λ k other at passing. elim (get-push_cases seen x k other at) [
        | inl earlier ↦ before_all x best.1 other best.0 (length seen) k less (first.before k other earlier passing)
        | inr last ↦ inr (subst (λ (o : Binding). slice_cmp nat_cmp (role_text x.role) (role_text o.role) ≡ Equal) last.1 (tied_itself total (role_text x.role)), omega (arith, last.0))
      ];
    }
    go true false is less = keeps (λ h. less)
    go false true is less = keeps (λ h. absurd (both_ways (passes x) is h))
    go false false is less = keeps (λ h. absurd (both_ways (passes x) is h))

-- the first that a scan finds is the first in turn
pub first_found : ((passes : Binding → Bool) (bindings : List Binding) → IsFirstOf passes bindings (find (λ turn. passes turn.1) (in_turn bindings)))
    → ((passes : Binding → Bool) (bindings : List Binding) (a b : Option (ℕ × Binding)) → IsFirstOf passes bindings a → IsFirstOf passes bindings b → a ≡ b)
    → (passes : Binding → Bool) (bindings : List Binding) (best : Option (ℕ × Binding)) → IsFirstOf passes bindings best → best ≡ find (λ turn. passes turn.1) (in_turn bindings)
first_found are_first are_one passes bindings best first = are_one passes bindings best (find (λ (turn : ℕ × Binding). passes turn.1) (in_turn bindings)) first (are_first passes bindings)

-- one more binding of a list
pub next_first : (passes : Binding → Bool) (bindings : List Binding) (i place : ℕ) (x : Binding) (best : Option (ℕ × Binding)) (leads : Bool) → i < length bindings → x ≡ get_or bindings i x → place ≡ i
    → leads ≡ (passes x && role_before x best) → IsFirstOf passes (take i bindings) best → IsFirstOf passes (take (i + 1) bindings) (cond leads (Some (place, x)) best)
next_first passes bindings i place x best leads within is counted leading first =
    let seen : length (take i bindings) ≡ place = length-take-le i bindings (omega (arith, within)) ∙ sym counted in
    let list : take i bindings ++ x ∷ [] ≡ take (i + 1) bindings = ap (λ (y : Binding). take i bindings ++ y ∷ []) is ∙ sym (take_more bindings i x within) in
    subst (λ (xs : List Binding). IsFirstOf passes xs (cond leads (Some (place, x)) best)) list
    (subst (λ (n : ℕ). IsFirstOf passes (take i bindings ++ x ∷ []) (cond leads (Some (n, x)) best)) seen
    (subst (λ (b : Bool). IsFirstOf passes (take i bindings ++ x ∷ []) (cond b (Some (length (take i bindings), x)) best)) (sym leading)
    (one_more passes (take i bindings) x best first)))

-- the place of a reference is that of what it points to
pub place_kept : (best : Option (ℕ × Bor Binding)) → option_map (λ found. found.0) best ≡ option_map (λ (turn : ℕ × Binding). turn.0) (option_map (λ (found : ℕ × Bor Binding). (found.0, found.1.now)) best)
place_kept None = refl
place_kept (Some found) = refl
