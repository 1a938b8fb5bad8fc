-- The runs of what bindings give tell which roles are modified.
use Rattle.std.proofs.Common.{◌≡◌, ℕ, ◌<◌, length, take, drop, Bool, true, false, not, cond, ◌&&◌, ◌||◌, List, [], ◌∷◌, ◌++◌, map, filter, refl, sym, ap, subst, ◌∙◌, arith}
use Rattle.std.specs.Prelude.{Option, if◌then◌else◌}
use Rattle.std.specs.declared.cmp.Ordering.{Ordering}
use Rattle.std.specs.declared.cmp.Ordering.TheVariants.{Less, Equal, Greater}
use Rattle.std.specs.Ordering.{is_eq, match_ordering, nat_cmp, ordering_reverse}
use Rattle.std.specs.Cmp.{IsTotalOrder}
use Rattle.std.specs.Cmp.Lexicographic.{slice_cmp}
use Rattle.std.specs.List.{All, flat_map, list_all, list_any, prefix_len, take_while}
use Rattle.std.specs.List.Sorted.{IsSorted, IsStable}
use Rattle.std.specs.Str.{bytes_eq}
use Rattle.std.proofs.lemmas.Cmp.{nat_list_cmp_total, on_total}
use Rattle.std.proofs.lemmas.List.{append_assoc, drop_at, map-append, take_at}
use Rattle.std.proofs.lemmas.List.Elements.{All-append, All-head, All-map, All-tail, filter-append}
use Rattle.std.proofs.lemmas.List.Folds.{length-prefix_len, list_all-append, list_all-map, list_any-append}
use Rattle.std.proofs.lemmas.Map.Text.{is_eq-slice_cmp}
use Rattle.iam_text.specs.Put.{placed, put}
use Rattle.iam_names.specs.Member.{member_text}
use Rattle.iam_names.specs.Role.{role_text}
use Rattle.iam_names.specs.declared.member.Member.{Member}
use Rattle.iam_names.specs.declared.role.RoleName.{RoleName}
use Rattle.iam_types.specs.declared.allow.Binding.{Binding}
use Rattle.iam_types.specs.declared.allow.Condition.{Condition}
use Rattle.iam_model.proofs.Placing.{All-placed}
use Rattle.iam_law.specs.Modified as spec
use Rattle.iam_modified.specs.Given.{all_given, are_granted, count_old, given_of, is_granted, modified_in, same_in, text_order}
use Rattle.iam_modified.specs.declared.modified.Given.{Given}
use Rattle.iam_modified.proofs.Sorted.{IsLeft, all_left, placed_stable, run_first, run_left, run_shorter, run_whole, tied}

pub text_order_total : IsTotalOrder text_order
text_order_total = on_total (λ (given : Given). given.text) nat_list_cmp_total

-- ---- tests of all grants, binding by binding

abbrev grants_of : Given → List spec.Grant
grants_of given = map (λ (text : List ℕ). (text, given.condition)) given.members

any-map : {A B : Type 0} (p : B → Bool) (f : A → B) (xs : List A) → list_any p (map f xs) ≡ list_any (λ x. p (f x)) xs
any-map p f [] = refl
any-map p f (x ∷ xs) = ap (λ (b : Bool). p (f x) || b) (any-map p f xs)

pub any_given : (p : spec.Grant → Bool) (all : List Given) → list_any (λ (given : Given). list_any (λ (text : List ℕ). p (text, given.condition)) given.members) all ≡ list_any p (flat_map grants_of all)
any_given p [] = refl
any_given p (given ∷ all) =
    ap (λ (b : Bool). list_any (λ (text : List ℕ). p (text, given.condition)) given.members || b) (any_given p all)
    ∙ ap (λ (b : Bool). b || list_any p (flat_map grants_of all)) (sym (any-map p (λ (text : List ℕ). (text, given.condition)) given.members))
    ∙ sym (list_any-append p (grants_of given) (flat_map grants_of all))

pub all_given_pass : (p : spec.Grant → Bool) (all : List Given) → list_all (λ (given : Given). list_all (λ (text : List ℕ). p (text, given.condition)) given.members) all ≡ list_all p (flat_map grants_of all)
all_given_pass p [] = refl
all_given_pass p (given ∷ all) =
    ap (λ (b : Bool). list_all (λ (text : List ℕ). p (text, given.condition)) given.members && b) (all_given_pass p all)
    ∙ ap (λ (b : Bool). b && list_all p (flat_map grants_of all)) (sym (list_all-map p (λ (text : List ℕ). (text, given.condition)) given.members))
    ∙ sym (list_all-append p (grants_of given) (flat_map grants_of all))

all_agree : {A : Type 0} (p q : A → Bool) → ((x : A) → p x ≡ q x) → (xs : List A) → list_all p xs ≡ list_all q xs
all_agree p q agree [] = refl
all_agree p q agree (x ∷ xs) = ap (λ (b : Bool). b && list_all p xs) (agree x) ∙ ap (λ (b : Bool). q x && b) (all_agree p q agree xs)

granted : (all others : List Given) → are_granted all others ≡ spec.has_all (flat_map grants_of all) (flat_map grants_of others)
granted all others =
    all_given_pass (is_granted all) others
    ∙ all_agree (is_granted all) (λ (other : spec.Grant). list_any (λ (grant : spec.Grant). spec.same_grant grant other) (flat_map grants_of all))
    (λ (other : spec.Grant). any_given (λ (grant : spec.Grant). spec.same_grant grant other) all) (flat_map grants_of others)

-- ---- the grants of a role

member_grants : (condition : Option Condition) (members : List Member) → map {B = spec.Grant} (λ (text : List ℕ). (text, condition)) (map (λ (member : Member). member_text member) members) ≡ map {B = spec.Grant} (λ (member : Member). (member_text member, condition)) members
member_grants condition [] = refl
member_grants condition (member ∷ members) = ap (λ (grants : List spec.Grant). (member_text member, condition) ∷ grants) (member_grants condition members)

all_grants : (is_old : Bool) (bindings : List Binding) → flat_map grants_of (map (given_of is_old) bindings) ≡ flat_map spec.grants_of bindings
all_grants is_old [] = refl
all_grants is_old (binding ∷ bindings) =
    ap (λ (grants : List spec.Grant). grants_of (given_of is_old binding) ++ grants) (all_grants is_old bindings)
    ∙ ap (λ (grants : List spec.Grant). grants ++ flat_map spec.grants_of bindings) (member_grants binding.condition binding.members)

none_old : (new : List Binding) → prefix_len (λ (given : Given). given.is_old) (map (given_of false) new) ≡ 0
none_old [] = refl
none_old (binding ∷ new) = refl

old_first : (old new : List Binding) → prefix_len (λ (given : Given). given.is_old) (map (given_of true) old ++ map (given_of false) new) ≡ length (map (given_of true) old)
old_first [] new = none_old new
old_first (binding ∷ old) new = omega (arith, old_first old new)

counted_old : (old new : List Binding) → length (map (given_of true) old) ≡ count_old (map (given_of true) old ++ map (given_of false) new)
counted_old old new = sym (old_first old new)

abbrev same_sets : List spec.Grant → List spec.Grant → Bool
same_sets old new = spec.has_all old new && spec.has_all new old

by_grants : (old new : List Given) → (are_granted old new && are_granted new old) ≡ same_sets (flat_map grants_of old) (flat_map grants_of new)
by_grants old new = ap (λ (b : Bool). b && are_granted new old) (granted old new) ∙ ap (λ (b : Bool). spec.has_all (flat_map grants_of old) (flat_map grants_of new) && b) (granted new old)

same_run : (run : List Given) (old new : List Binding) → run ≡ map (given_of true) old ++ map (given_of false) new → same_in run ≡ same_sets (flat_map spec.grants_of old) (flat_map spec.grants_of new)
same_run run old new is =
    ap same_in is
    ∙ ap (λ (front : List Given). are_granted front (drop (count_old (all_given old new)) (all_given old new)) && are_granted (drop (count_old (all_given old new)) (all_given old new)) front) (take_at (map (given_of true) old) (map (given_of false) new) (count_old (all_given old new)) (counted_old old new))
    ∙ ap (λ (back : List Given). are_granted (map (given_of true) old) back && are_granted back (map (given_of true) old)) (drop_at (map (given_of true) old) (map (given_of false) new) (count_old (all_given old new)) (counted_old old new))
    ∙ by_grants (map (given_of true) old) (map (given_of false) new)
    ∙ ap (λ (grants : List spec.Grant). same_sets grants (flat_map grants_of (map (given_of false) new))) (all_grants true old)
    ∙ ap (λ (grants : List spec.Grant). same_sets (flat_map spec.grants_of old) grants) (all_grants false new)

reversed : (o : Ordering) → is_eq (ordering_reverse o) ≡ is_eq o
reversed Less = refl
reversed Equal = refl
reversed Greater = refl

tied_text : (a b : List ℕ) → is_eq (slice_cmp nat_cmp a b) ≡ bytes_eq b a
tied_text a b = ap is_eq (nat_list_cmp_total.antisymm a b) ∙ reversed (slice_cmp nat_cmp b a) ∙ is_eq-slice_cmp b a

abbrev of_role : List ℕ → List Binding → List Binding
of_role role bindings = filter (λ (binding : Binding). bytes_eq (role_text binding.role) role) bindings

tied_given : (given : Given) (is_old : Bool) (bindings : List Binding) → filter (tied text_order given) (map (given_of is_old) bindings) ≡ map (given_of is_old) (of_role given.text bindings)
tied_given given is_old [] = refl
tied_given given is_old (binding ∷ bindings) =
    elim (bytes_eq (role_text binding.role) given.text) as (λ b. is_eq (slice_cmp nat_cmp given.text (role_text binding.role)) ≡ b
    → filter (tied text_order given) (map (given_of is_old) (binding ∷ bindings)) ≡ map (given_of is_old) (cond b (binding ∷ of_role given.text bindings) (of_role given.text bindings))) [
      | true ↦ λ is. rw is (ap (λ (all : List Given). given_of is_old binding ∷ all) (tied_given given is_old bindings))
      | false ↦ λ is. rw is (tied_given given is_old bindings)
    ] (tied_text given.text (role_text binding.role))

-- the grants of a run are those of its role in the old policy and in the new one
run_same : (old new : List Binding) (run : List Given) (given : Given) → run ≡ filter (tied text_order given) (all_given old new) → same_in run ≡ spec.same_grants old new given.text
run_same old new run given is =
    same_run run (of_role given.text old) (of_role given.text new)
    (is ∙ filter-append (tied text_order given) (map (given_of true) old) (map (given_of false) new)
    ∙ ap (λ (all : List Given). all ++ filter (tied text_order given) (map (given_of false) new)) (tied_given given true old)
    ∙ ap (λ (all : List Given). map (given_of true) (of_role given.text old) ++ all) (tied_given given false new))

-- ---- the roles

abbrev IsNamed : Given → Type 0
IsNamed given = given.text ≡ role_text given.role

abbrev roles : List Given → List RoleName
roles all = map (λ (given : Given). given.role) all

put_named : (given : Given) (all : List Given) → IsNamed given → All IsNamed all → roles (put text_order given all) ≡ put spec.role_order given.role (roles all)
put_named given [] is named = refl
put_named given (other ∷ all) is named =
    elim (text_order given other) as (λ o. spec.role_order given.role other.role ≡ o
    → roles (match_ordering o (given ∷ other ∷ all) (given ∷ all) (other ∷ put text_order given all)) ≡ put spec.role_order given.role (roles (other ∷ all))) [
      | Less ↦ λ stands. rw stands refl
      | Equal ↦ λ stands. rw stands refl
      | Greater ↦ λ stands. rw stands (ap (λ (names : List RoleName). other.role ∷ names) (put_named given all is (All-tail IsNamed other all named)))
    ] (ap (λ (text : List ℕ). slice_cmp nat_cmp text (role_text other.role)) (sym is) ∙ ap (λ (text : List ℕ). slice_cmp nat_cmp given.text text) (sym (All-head IsNamed other all named)))

placed_named : (all : List Given) → All IsNamed all → roles (placed text_order all) ≡ placed spec.role_order (roles all)
placed_named [] named = refl
placed_named (given ∷ all) named =
    put_named given (placed text_order all) (All-head IsNamed given all named) (All-placed IsNamed text_order all (All-tail IsNamed given all named))
    ∙ ap (put spec.role_order given.role) (placed_named all (All-tail IsNamed given all named))

filter_named : (keeps : List ℕ → Bool) (all : List Given) → All IsNamed all → roles (filter (λ (row : Given). keeps row.text) all) ≡ filter (λ (role : RoleName). keeps (role_text role)) (roles all)
filter_named keeps [] named = refl
filter_named keeps (given ∷ all) named =
    elim (keeps given.text) as (λ b. keeps (role_text given.role) ≡ b
    → roles (cond b (given ∷ filter (λ (row : Given). keeps row.text) all) (filter (λ (row : Given). keeps row.text) all)) ≡ filter (λ (role : RoleName). keeps (role_text role)) (roles (given ∷ all))) [
      | true ↦ λ is. rw is (ap (λ (names : List RoleName). given.role ∷ names) (filter_named keeps all (All-tail IsNamed given all named)))
      | false ↦ λ is. rw is (filter_named keeps all (All-tail IsNamed given all named))
    ] (ap keeps (sym (All-head IsNamed given all named)))

given_named : (is_old : Bool) (bindings : List Binding) → All IsNamed (map (given_of is_old) bindings)
given_named is_old bindings = All-map IsNamed (given_of is_old) bindings (λ k d within. refl)

all_named : (old new : List Binding) → All IsNamed (all_given old new)
all_named old new = All-append IsNamed (map (given_of true) old) (map (given_of false) new) (given_named true old) (given_named false new)

given_roles : (is_old : Bool) (bindings : List Binding) → roles (map (given_of is_old) bindings) ≡ map (λ (binding : Binding). binding.role) bindings
given_roles is_old [] = refl
given_roles is_old (binding ∷ bindings) = ap (λ (names : List RoleName). binding.role ∷ names) (given_roles is_old bindings)

all_roles : (old new : List Binding) → roles (all_given old new) ≡ map (λ (binding : Binding). binding.role) (old ++ new)
all_roles old new =
    map-append (λ (given : Given). given.role) (map (given_of true) old) (map (given_of false) new)
    ∙ ap (λ (names : List RoleName). names ++ roles (map (given_of false) new)) (given_roles true old)
    ∙ ap (λ (names : List RoleName). map (λ (binding : Binding). binding.role) old ++ names) (given_roles false new)
    ∙ sym (map-append (λ (binding : Binding). binding.role) old new)

-- the modified roles of what is left
abbrev pub changed : List Binding → List Binding → List Given → List RoleName
changed old new left = map (λ (given : Given). given.role) (filter (λ (given : Given). not (spec.same_grants old new given.text)) (placed text_order left))

pub all_changed : (old new : List Binding) (all : List Given) → IsStable text_order (all_given old new) all → changed old new all ≡ spec.modified_roles old new
all_changed old new all stable =
    ap (λ (rows : List Given). roles (filter (λ (given : Given). not (spec.same_grants old new given.text)) rows)) (placed_stable text_order text_order_total (all_given old new) all stable)
    ∙ filter_named (λ (text : List ℕ). not (spec.same_grants old new text)) (placed text_order (all_given old new)) (All-placed IsNamed text_order (all_given old new) (all_named old new))
    ∙ ap (λ (names : List RoleName). filter (λ (role : RoleName). not (spec.same_grants old new (role_text role))) names) (placed_named (all_given old new) (all_named old new) ∙ ap (placed spec.role_order) (all_roles old new))

chosen : (given : Given) (rest : List Given) (a b : Bool) → a ≡ b → roles (cond (not b) (given ∷ rest) rest) ≡ (if a then [] else given.role ∷ []) ++ roles rest
chosen given rest true true same = refl
chosen given rest true false same = cc
chosen given rest false true same = cc
chosen given rest false false same = refl

-- of the run at the front its role, where the grants differ, and then those behind it
pub run_changed : (old new : List Binding) (given : Given) (more : List Given) → IsLeft text_order (all_given old new) (given ∷ more)
    → changed old new (given ∷ more) ≡ modified_in given (take (prefix_len (tied text_order given) (given ∷ more)) (given ∷ more)) ++ changed old new (drop (prefix_len (tied text_order given) (given ∷ more)) (given ∷ more))
run_changed old new given more left =
    let first = run_first text_order text_order_total (all_given old new) given more left in
    let whole = run_whole text_order text_order_total (all_given old new) given more left in
    ap (λ (rows : List Given). roles (filter (λ (row : Given). not (spec.same_grants old new row.text)) rows)) first
    ∙ chosen given (filter (λ (row : Given). not (spec.same_grants old new row.text)) (placed text_order (drop (prefix_len (tied text_order given) (given ∷ more)) (given ∷ more))))
    (same_in (take (prefix_len (tied text_order given) (given ∷ more)) (given ∷ more))) (spec.same_grants old new given.text) (run_same old new (take (prefix_len (tied text_order given) (given ∷ more)) (given ∷ more)) given whole)

-- ---- a step over a run

abbrev run_count : Given → List Given → ℕ
run_count first left = length (take_while (tied text_order first) left)

counted : (left : List Given) (first : Given) (more : List Given) (n : ℕ) → left ≡ first ∷ more → n ≡ run_count first left → n ≡ prefix_len (tied text_order first) (first ∷ more)
counted left first more n left_is n_is = n_is ∙ ap (run_count first) left_is ∙ length-prefix_len (tied text_order first) (first ∷ more)

dropped : (left : List Given) (first : Given) (more : List Given) (n : ℕ) (rest : List Given) → left ≡ first ∷ more → n ≡ run_count first left → rest ≡ drop n left → rest ≡ drop (prefix_len (tied text_order first) (first ∷ more)) (first ∷ more)
dropped left first more n rest left_is n_is rest_is =
    rest_is ∙ ap (λ (k : ℕ). drop k left) (counted left first more n left_is n_is) ∙ ap (λ (rows : List Given). drop (prefix_len (tied text_order first) (first ∷ more)) rows) left_is

-- the modified roles so far and those of what is left are all
abbrev pub AreGone : List Binding → List Binding → List RoleName → List Given → Type 0
AreGone old new modified left = (modified ++ changed old new left ≡ spec.modified_roles old new) × IsLeft text_order (all_given old new) left

pub run_gone : (old new : List Binding) (left : List Given) (first : Given) (more : List Given) (n : ℕ) (run rest : List Given) (before after : List RoleName)
    → left ≡ first ∷ more → n ≡ run_count first left → run ≡ take n left → rest ≡ drop n left → after ≡ before ++ modified_in first run
    → AreGone old new before left → AreGone old new after rest
run_gone old new left first more n run rest before after left_is n_is run_is rest_is after_is gone = (whole, subst (IsLeft text_order (all_given old new)) (sym rest_left) (run_left text_order text_order_total (all_given old new) first more here.1))
  where
    here : AreGone old new before (first ∷ more)
    here = subst (AreGone old new before) left_is gone

    rest_left : rest ≡ drop (prefix_len (tied text_order first) (first ∷ more)) (first ∷ more)
    rest_left = dropped left first more n rest left_is n_is rest_is

    run_taken : run ≡ take (prefix_len (tied text_order first) (first ∷ more)) (first ∷ more)
    run_taken = run_is ∙ ap (λ (k : ℕ). take k left) (counted left first more n left_is n_is) ∙ ap (λ (rows : List Given). take (prefix_len (tied text_order first) (first ∷ more)) rows) left_is

    both : modified_in first run ++ changed old new rest ≡ changed old new (first ∷ more)
    both =
        ap (λ (rows : List Given). modified_in first rows ++ changed old new rest) run_taken
        ∙ ap (λ (rows : List Given). modified_in first (take (prefix_len (tied text_order first) (first ∷ more)) (first ∷ more)) ++ changed old new rows) rest_left
        ∙ sym (run_changed old new first more here.1)

    whole : after ++ changed old new rest ≡ spec.modified_roles old new
    whole =
        ap (λ (names : List RoleName). names ++ changed old new rest) after_is ∙ append_assoc before (modified_in first run) (changed old new rest)
        ∙ ap (λ (names : List RoleName). before ++ names) both ∙ here.0

pub run_fewer : (left : List Given) (first : Given) (more : List Given) (n : ℕ) (rest : List Given) → left ≡ first ∷ more → n ≡ run_count first left → rest ≡ drop n left → length rest < length left
run_fewer left first more n rest left_is n_is rest_is =
    subst (λ (rows : List Given). length rest < length rows) (sym left_is)
    (subst (λ (rows : List Given). length rows < length (first ∷ more)) (sym (dropped left first more n rest left_is n_is rest_is)) (run_shorter text_order text_order_total first more))

pub all_gone : (old new : List Binding) (all : List Given) → IsSorted text_order all → IsStable text_order (all_given old new) all → AreGone old new [] all
all_gone old new all ordered stable = (all_changed old new all stable, all_left text_order text_order_total (all_given old new) all ordered stable)
