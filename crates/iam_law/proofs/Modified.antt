-- The modified roles are exactly those whose sets of grants differ.
use Rattle.std.proofs.Common.{◌≡◌, ◌⊎◌, inl, inr, ℕ, Bool, true, false, not, cond, ◌&&◌, ◌||◌, List, [], ◌∷◌, ◌++◌, map, filter, Option, Some, None, refl, sym, ap, subst, ◌∙◌}
use Rattle.std.specs.Prelude.{Contains}
use Rattle.std.specs.Bool.{Decides}
use Rattle.std.specs.List.{flat_map, list_any}
use Rattle.std.specs.Ordering.{is_eq}
use Rattle.std.specs.Cmp.{IsTotalOrder}
use Rattle.std.specs.Str.{bytes_eq}
use Rattle.std.proofs.lemmas.Bool.{and_from, and_parts, both_ways}
use Rattle.std.proofs.lemmas.Cmp.{nat_list_cmp_total, on_total}
use Rattle.std.proofs.lemmas.Map.Text.{is_eq-slice_cmp}
use Rattle.std.proofs.lemmas.List.Elements.{All-contains, All-contains_itself, All-weaker, Contains-append_left, Contains-append_right}
use Rattle.std.proofs.lemmas.List.Sums.{AllPass-from_list_all, list_all-from_AllPass}
use Rattle.iam_text.specs.Put.{placed}
use Rattle.iam_text.proofs.Exact.{decides_both, decides_same, text_exact}
use Rattle.iam_text.proofs.InOrder.{filter-IsInOrder, placed-IsInOrder}
use Rattle.iam_names.specs.Role.{role_text}
use Rattle.iam_names.specs.declared.role.RoleName.{RoleName}
use Rattle.iam_types.specs.declared.allow.Binding.{Binding}
use Rattle.iam_types.specs.declared.allow.Condition.{Condition}
use Rattle.iam_model.proofs.Placing.{Contains-cases, Contains-here, Contains-there, placed_tied}
use Rattle.iam_law.specs.Modified.{AreModified, Grant, SameGrants, grants_in, grants_of, has_all, modified_roles, role_order, same_condition, same_grant, same_grants}
use Rattle.iam_law.proofs.Elements.{Contains-filter, Contains-map, filter-Contains, map-Contains, none_there}

-- ---- the tests decide

condition_exact : (a b : Option Condition) → Decides (same_condition a b) (a ≡ b)
condition_exact None None = (λ t. refl, λ r. refl)
condition_exact None (Some b) = (λ t. absurd (cc), λ r. absurd (cc))
condition_exact (Some a) None = (λ t. absurd (cc), λ r. absurd (cc))
condition_exact (Some a) (Some b) =
    decides_same (bytes_eq a.expression b.expression && bytes_eq a.title b.title && bytes_eq a.description b.description) there back
    (decides_both (bytes_eq a.expression b.expression && bytes_eq a.title b.title) (bytes_eq a.description b.description)
    (decides_both (bytes_eq a.expression b.expression) (bytes_eq a.title b.title) (text_exact a.expression b.expression) (text_exact a.title b.title)) (text_exact a.description b.description))
  where
    there : ((a.expression ≡ b.expression) × (a.title ≡ b.title)) × (a.description ≡ b.description) → Some a ≡ Some b
    there same =
        let whole : Condition = record { expression = a.expression; title = a.title; description = a.description } in
        let is : whole ≡ b = rw (same.0.0, same.0.1, same.1) refl in
        ap (λ (c : Condition). Some c) is

    back : Some a ≡ Some b → ((a.expression ≡ b.expression) × (a.title ≡ b.title)) × (a.description ≡ b.description)
    back same = let is : a ≡ b = cc in ((ap (λ (c : Condition). c.expression) is, ap (λ (c : Condition). c.title) is), ap (λ (c : Condition). c.description) is)

grant_exact : (a b : Grant) → Decides (same_grant a b) (a ≡ b)
grant_exact (m, c) (n, d) =
    decides_same (bytes_eq m n && same_condition c d) (λ same. let one = same.0 in let two = same.1 in cc) (λ same. (ap (λ (g : Grant). g.0) same, ap (λ (g : Grant). g.1) same))
    (decides_both (bytes_eq m n) (same_condition c d) (text_exact m n) (condition_exact c d))

any-Contains : (grants : List Grant) (other : Grant) → list_any (λ grant. same_grant grant other) grants ≡ true → Contains grants other
any-Contains [] other h = absurd (cc)
any-Contains (grant ∷ grants) other h =
    elim (same_grant grant other) as (λ b. same_grant grant other ≡ b → Contains (grant ∷ grants) other) [
      | true ↦ λ is. subst (λ (g : Grant). Contains (grant ∷ grants) g) ((grant_exact grant other).0 is) (Contains-here grant grants)
      | false ↦ λ is. Contains-there grant grants other (any-Contains grants other (rw is at h))
    ] refl

Contains-any : (grants : List Grant) (other : Grant) → Contains grants other → list_any (λ grant. same_grant grant other) grants ≡ true
Contains-any [] other there = absurd (none_there other there)
Contains-any (grant ∷ grants) other there = elim (Contains-cases grant grants other there) [
  | inl same ↦ rw ((grant_exact grant other).1 same) refl
  | inr more ↦ or_right (same_grant grant other) (Contains-any grants other more)
]
  where
    or_right : (b : Bool) → list_any (λ grant. same_grant grant other) grants ≡ true → (b || list_any (λ grant. same_grant grant other) grants) ≡ true
    or_right true h = refl
    or_right false h = h

has_all-Contains : (grants others : List Grant) → has_all grants others ≡ true → (grant : Grant) → Contains others grant → Contains grants grant
has_all-Contains grants others h grant there =
    any-Contains grants grant (All-contains (λ (other : Grant). list_any (λ (g : Grant). same_grant g other) grants ≡ true) others grant (AllPass-from_list_all (λ (other : Grant). list_any (λ (g : Grant). same_grant g other) grants) others h) there)

Contains-has_all : (grants others : List Grant) → ((grant : Grant) → Contains others grant → Contains grants grant) → has_all grants others ≡ true
Contains-has_all grants others within =
    list_all-from_AllPass (λ (other : Grant). list_any (λ (g : Grant). same_grant g other) grants) others
    (All-weaker (Contains others) (λ (other : Grant). list_any (λ (g : Grant). same_grant g other) grants ≡ true) (λ other there. Contains-any grants other (within other there)) others (All-contains_itself others))

same_from_test : (old new : List Binding) (role : List ℕ) → same_grants old new role ≡ true → SameGrants old new role
same_from_test old new role h =
    let parts = and_parts (has_all (grants_in old role) (grants_in new role)) (has_all (grants_in new role) (grants_in old role)) h in
    λ grant. (has_all-Contains (grants_in new role) (grants_in old role) parts.1 grant, has_all-Contains (grants_in old role) (grants_in new role) parts.0 grant)

test_from_same : (old new : List Binding) (role : List ℕ) → SameGrants old new role → same_grants old new role ≡ true
test_from_same old new role same =
    and_from (has_all (grants_in old role) (grants_in new role)) (has_all (grants_in new role) (grants_in old role))
    (Contains-has_all (grants_in old role) (grants_in new role) (λ grant. (same grant).1)) (Contains-has_all (grants_in new role) (grants_in old role) (λ grant. (same grant).0))

-- ---- the roles

pub role_order_total : IsTotalOrder role_order
role_order_total = on_total role_text nat_list_cmp_total

-- a role of which a policy has grants is that of a binding
named : (bindings : List Binding) (role : List ℕ) → (grants_in bindings role ≡ []) ⊎ ((binding : Binding) × Contains bindings binding × (role_text binding.role ≡ role))
named [] role = inl refl
named (binding ∷ bindings) role =
    elim (bytes_eq (role_text binding.role) role) as (λ b. bytes_eq (role_text binding.role) role ≡ b
    → (flat_map grants_of (cond b (binding ∷ filter (λ (x : Binding). bytes_eq (role_text x.role) role) bindings) (filter (λ (x : Binding). bytes_eq (role_text x.role) role) bindings)) ≡ []) ⊎ ((x : Binding) × Contains (binding ∷ bindings) x × (role_text x.role ≡ role))) [
      | true ↦ λ is. inr (binding, Contains-here binding bindings, (text_exact (role_text binding.role) role).0 is)
      | false ↦ λ is. behind (named bindings role)
    ] refl
  where
    behind : (grants_in bindings role ≡ []) ⊎ ((x : Binding) × Contains bindings x × (role_text x.role ≡ role)) → (grants_in bindings role ≡ []) ⊎ ((x : Binding) × Contains (binding ∷ bindings) x × (role_text x.role ≡ role))
    behind (inl none) = inl none
    behind (inr (x, there, is)) = inr (x, Contains-there binding bindings x there, is)

abbrev keeps : List Binding → List Binding → RoleName → Bool
keeps old new role = not (same_grants old new (role_text role))

abbrev both : List Binding → List Binding → List RoleName
both old new = map (λ binding. binding.role) (old ++ new)

-- a role whose grants differ is among the modified ones, where a binding has it
kept : (old new : List Binding) (role : List ℕ) → same_grants old new role ≡ false → (binding : Binding) → Contains (old ++ new) binding → role_text binding.role ≡ role → Contains (map (λ name. role_text name) (modified_roles old new)) role
kept old new role differs binding there is =
    let tied = placed_tied role_order role_order_total (both old new) binding.role (map-Contains (λ (b : Binding). b.role) (old ++ new) binding there) in
    let name : RoleName = tied.0 in
    let text : role_text name ≡ role = (text_exact (role_text name) (role_text binding.role)).0 (sym (is_eq-slice_cmp (role_text name) (role_text binding.role)) ∙ ap is_eq tied.2) ∙ is in
    let keep : keeps old new name ≡ true = ap (λ (t : List ℕ). not (same_grants old new t)) text ∙ ap not differs in
    subst (λ (t : List ℕ). Contains (map (λ (n : RoleName). role_text n) (modified_roles old new)) t) text
    (map-Contains (λ (n : RoleName). role_text n) (modified_roles old new) name (filter-Contains (keeps old new) (placed role_order (both old new)) name keep tied.1))

differ_kept : (old new : List Binding) (role : List ℕ) → ¬ SameGrants old new role → Contains (map (λ name. role_text name) (modified_roles old new)) role
differ_kept old new role differ = go (named old role) (named new role)
  where
    differs : same_grants old new role ≡ false
    differs = elim (same_grants old new role) as (λ b. same_grants old new role ≡ b → same_grants old new role ≡ false) [ true ↦ λ is. absurd (differ (same_from_test old new role is)) | false ↦ λ is. is ] refl

    go : (grants_in old role ≡ []) ⊎ ((x : Binding) × Contains old x × (role_text x.role ≡ role)) → (grants_in new role ≡ []) ⊎ ((x : Binding) × Contains new x × (role_text x.role ≡ role)) → Contains (map (λ name. role_text name) (modified_roles old new)) role
    go (inr (x, there, is)) other = kept old new role differs x (Contains-append_left old new x there) is
    go (inl none) (inr (x, there, is)) = kept old new role differs x (Contains-append_right old new x there) is
    go (inl none) (inl no_more) = absurd (differ (λ grant. rw (none, no_more) (λ h. h, λ h. h)))

kept_differ : (old new : List Binding) (role : List ℕ) → Contains (map (λ name. role_text name) (modified_roles old new)) role → ¬ SameGrants old new role
kept_differ old new role there same =
    let name = Contains-map (λ (n : RoleName). role_text n) (modified_roles old new) role there in
    let kept_there = Contains-filter (keeps old new) (placed role_order (both old new)) name.0 name.1 in
    let keep : not (same_grants old new role) ≡ true = subst (λ (t : List ℕ). not (same_grants old new t) ≡ true) name.2 kept_there.1 in
    let no : not (same_grants old new role) ≡ false = ap not (test_from_same old new role same) in
    both_ways (not (same_grants old new role)) no keep

pub modified : (old new : List Binding) → AreModified old new (modified_roles old new)
modified old new = record {
  ordered = filter-IsInOrder role_order (keeps old new) (placed role_order (both old new)) (placed-IsInOrder role_order role_order_total (both old new));
  exactly = λ role. (kept_differ old new role, differ_kept old new role);
}
