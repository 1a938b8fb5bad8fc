-- The kind or the fault of a node, from those of its parts, which are looked at from left to right.
use Rattle.std.proofs.Common.{◌≡◌, ◌<◌, ◌≤◌, ◌-◌, ℕ, suc, length, get_or, take, drop, drop-cons, Bool, true, false, cond, ◌||◌, is_some, List, [], ◌∷◌, ◌++◌, ◌⊎◌, inl, inr, ℤ, Option, Some, None, Result, refl, sym, ap, ◌∙◌, subst, fold, arith}
use Rattle.std.proofs.lemmas.Bool.{ne_eqb}
use Rattle.std.proofs.lemmas.List.{take-append-drop, take_all}
use Rattle.cel_tree.specs.declared.tree.Expr.{Expr, out-Expr}
use Rattle.cel_tree.specs.declared.tree.Expr.TheOpen.{Expr-F}
use Rattle.cel_tree.specs.declared.tree.Expr.TheVariants as tree
use Rattle.cel_tree.specs.declared.tree.Expr.TheVariants.{outs-Bool, outs-Int, outs-Str, outs-Name, outs-Not, outs-Neg}
use Rattle.cel_tree.specs.declared.tree.Span.{Span}
use Rattle.cel_types.specs.declared.checking.TypeFault.{TypeFault}
use Rattle.cel_types.specs.declared.form.Attribute.{Attribute}
use Rattle.cel_types.specs.declared.form.Form.{Form}
use Rattle.cel_types.specs.declared.form.Form.TheVariants as form
use Rattle.cel_types.specs.declared.form.TagFunction.{TagFunction}
use Rattle.cel_types.specs.declared.kind.Kind.{Kind}
use Rattle.cel_types.specs.Sight.{Sight}
use Rattle.cel_types.specs.Forms.{attribute_of, is_whole, call_form, method_form, modified_form, own_method, tag_of, tagged, is_api}
use Rattle.cel_types.specs.HasKind as rule
use Rattle.cel_types.specs.HasKind.{HasKind, HaveKinds, FirstFault, FirstFaultAmong, children, parts}
use Rattle.cel_types.specs.KindOf.{at_node}
use Rattle.cel_types.specs.Nodes.{differing, fitting, form_kind, Keeps, node_kind}
use Rattle.cel_types.proofs.KindOf.{IsSo, node_so}
use Rattle.cel_types.proofs.OneKind.{all_plain, same_some}
use Rattle.cel_types.proofs.KindFrom.{list_by_two}

-- a node that is x, of whose parts' kinds as much is given as its own kind depends on
pub node_by : (sight : Sight) (e : Expr) (x : Expr-F Expr) (ks given : List Kind) (r : Result Kind TypeFault) → out-Expr e ≡ x → HaveKinds sight (parts x) ks
    → node_kind sight x ks ≡ node_kind sight x given → r ≡ at_node e (node_kind sight (out-Expr e) given) → IsSo sight e r
node_by sight e x ks given r is have same result =
    let all : HaveKinds sight (children e) ks = subst (λ z. HaveKinds sight (parts z) ks) (sym is) have in
    let enough : node_kind sight (out-Expr e) given ≡ node_kind sight (out-Expr e) ks =
    subst (λ z. node_kind sight z given ≡ node_kind sight z ks) (sym is) (sym same) in
    subst (IsSo sight e) (sym (result ∙ ap (at_node e) enough)) (node_so sight e ks all)

pub fault_by : (sight : Sight) (e : Expr) (x : Expr-F Expr) (fault : TypeFault) → out-Expr e ≡ x → FirstFaultAmong sight (parts x) fault → FirstFault sight e fault
fault_by sight e x fault is among = rule.inside (all_plain (out-Expr e)) (subst (λ z. FirstFaultAmong sight (parts z) fault) (sym is) among)

-- what is read of a part is said of the part
pub has_kind : {sight : Sight} {k : Kind} (g a : Expr) → g ≡ a → HasKind sight g k → HasKind sight a k
has_kind {sight} {k} g a e h = subst (λ z. HasKind sight z k) e h

pub has_fault : {sight : Sight} {fault : TypeFault} (g a : Expr) → g ≡ a → FirstFault sight g fault → FirstFault sight a fault
has_fault {sight} {fault} g a e h = subst (λ z. FirstFault sight z fault) e h

-- a literal and a name have no parts, a negation has one
pub leaf_parts : (e : Expr) → ((span : Span) × (b : Bool) × (e ≡ tree.Bool span b)) ⊎ (((span : Span) × (n : ℤ) × (e ≡ tree.Int span n))
    ⊎ (((span : Span) × (s : List ℕ) × (e ≡ tree.Str span s)) ⊎ ((span : Span) × (s : List ℕ) × (e ≡ tree.Name span s)))) → children e ≡ []
leaf_parts e (inl (span, b, is)) = ap parts (ap out-Expr is ∙ outs-Bool span b)
leaf_parts e (inr (inl (span, n, is))) = ap parts (ap out-Expr is ∙ outs-Int span n)
leaf_parts e (inr (inr (inl (span, s, is)))) = ap parts (ap out-Expr is ∙ outs-Str span s)
leaf_parts e (inr (inr (inr (span, s, is)))) = ap parts (ap out-Expr is ∙ outs-Name span s)

pub negation_parts : (e a : Expr) → ((span : Span) × (e ≡ tree.Not span a)) ⊎ ((span : Span) × (e ≡ tree.Neg span a)) → children e ≡ a ∷ []
negation_parts e a (inl (span, is)) = ap parts (ap out-Expr is ∙ outs-Not span a)
negation_parts e a (inr (span, is)) = ap parts (ap out-Expr is ∙ outs-Neg span a)

-- the parts of a field and of a method, by what is read of them
pub field_parts : (b g : Expr) (f t : List ℕ) (span : Span) (o : Option Attribute) → g ≡ b → t ≡ f → attribute_of (out-Expr g) t ≡ o
    → parts (Expr-F.Select span b f) ≡ cond (is_some o) [] (b ∷ [])
field_parts b g f t span o p q is =
    ap (λ (z : Expr). cond (is_some (attribute_of (out-Expr z) f)) [] (b ∷ [])) (sym p)
    ∙ ap (λ (z : List ℕ). cond (is_some (attribute_of (out-Expr g) z)) [] (b ∷ [])) (sym q)
    ∙ ap (λ (z : Option Attribute). cond (is_some z) [] (b ∷ [])) is

pub whole_is : (b g : Expr) (f t : List ℕ) (whole : Bool) → g ≡ b → t ≡ f → is_whole (out-Expr g) t ≡ whole → is_whole (out-Expr b) f ≡ whole
whole_is b g f t whole p q is = ap (λ (z : Expr). is_whole (out-Expr z) f) (sym p) ∙ ap (λ (z : List ℕ). is_whole (out-Expr g) z) (sym q) ∙ is

pub method_parts : (b : Expr) (f : List ℕ) (es : List Expr) (span : Span) (whole : Bool) → is_whole (out-Expr b) f ≡ whole
    → parts (Expr-F.Method span b f es) ≡ cond whole [] (b ∷ es)
method_parts b f es span whole is = ap (λ (z : Bool). cond z [] (b ∷ es)) is

-- what is kept of the kinds of a list of nodes
pub keeps_none : {sight : Sight} {es : List Expr} {pair : Option (Kind × Kind)} → pair ≡ None → Keeps sight es pair → HaveKinds sight es []
keeps_none none ([], have, is) = have
keeps_none none (k ∷ ks, have, is) = absurd (let P : ⊥ = cc (none, is) in P)

pub keeps_some : {sight : Sight} {es : List Expr} {pair : Option (Kind × Kind)} (first other : Kind) → pair ≡ Some (first, other) → Keeps sight es pair
    → (ks : List Kind) × HaveKinds sight es (first ∷ ks) × (other ≡ fold (differing first) first ks)
keeps_some first other some ([], have, is) = absurd (let P : ⊥ = cc (some, is) in P)
keeps_some {sight} {es} first other some (k ∷ ks, have, is) =
    let both = same_some (sym some ∙ is) in
    let head : first ≡ k = ap (λ (z : Kind × Kind). z.0) both in
    let last : other ≡ fold (differing k) k ks = ap (λ (z : Kind × Kind). z.1) both in (
      ks,
      subst (λ z. HaveKinds sight es (z ∷ ks)) (sym head) have,
      subst (λ z. other ≡ fold (differing z) z ks) (sym head) last,
    )

-- no form has two arguments
have_length : {sight : Sight} {es : List Expr} {ks : List Kind} → HaveKinds sight es ks → length es ≡ length ks
have_length rule.none = refl
have_length (rule.more h r) = omega (arith, have_length r)

no_call : (name : List ℕ) (n : ℕ) → 1 < n → call_form name n ≡ None
no_call name n h = rw (ne_eqb n 1 (λ e. omega (arith, e, h))) refl

no_method : (name : List ℕ) (n : ℕ) → 1 < n → own_method name n ≡ None
no_method name n h = rw (ne_eqb n 0 (λ e. omega (arith, e, h)), ne_eqb n 1 (λ e. omega (arith, e, h))) refl

method_is_none : (base : Expr-F Expr) (name : List ℕ) (es : List Expr) → is_whole base name ≡ false → 1 < length es → method_form base name es ≡ None
method_is_none base name es part many = go (tag_of base name) (is_api base name) part (no_method name (length es) many)
  where
    go : (o : Option TagFunction) (api : Bool) → (is_some o || api) ≡ false → own_method name (length es) ≡ None
        → tagged o (length es) (cond api (modified_form es) (own_method name (length es))) ≡ None
    go (Some f) api e none = cc
    go None true e none = cc
    go None false e none = none

same_none : (sight : Sight) (o : Option Form) (es : List Expr) (ks ls : List Kind) → o ≡ None → form_kind o sight es ks ≡ form_kind o sight es ls
same_none sight o es ks ls none = ap (λ z. form_kind z sight es ks) none ∙ sym (ap (λ z. form_kind z sight es ls) none)

call_by_one : (sight : Sight) (span : Span) (name : List ℕ) (es : List Expr) (k : Kind) (ks : List Kind) → HaveKinds sight es (k ∷ ks)
    → node_kind sight (Expr-F.Call span name es) (k ∷ ks) ≡ node_kind sight (Expr-F.Call span name es) (k ∷ [])
call_by_one sight span name es k [] have = refl
call_by_one sight span name es k (l ∷ ls) have =
    same_none sight (call_form name (length es)) es (k ∷ l ∷ ls) (k ∷ []) (no_call name (length es) (omega (arith, have_length have)))

pub call_node : (sight : Sight) (e : Expr) (span : Span) (name : List ℕ) (es : List Expr) (k : Kind) (ks : List Kind) (r : Result Kind TypeFault)
    → out-Expr e ≡ Expr-F.Call span name es → HaveKinds sight es (k ∷ ks) → r ≡ at_node e (node_kind sight (out-Expr e) (k ∷ [])) → IsSo sight e r
call_node sight e span name es k ks r is have result =
    node_by sight e (Expr-F.Call span name es) (k ∷ ks) (k ∷ []) r is have (call_by_one sight span name es k ks have) result

pub method_by_one : (sight : Sight) (span : Span) (base : Expr) (name : List ℕ) (es : List Expr) (b k : Kind) (ks : List Kind)
    → is_whole (out-Expr base) name ≡ false → HaveKinds sight es (k ∷ ks)
    → node_kind sight (Expr-F.Method span base name es) (b ∷ k ∷ ks) ≡ node_kind sight (Expr-F.Method span base name es) (b ∷ k ∷ [])
method_by_one sight span base name es b k [] part have = refl
method_by_one sight span base name es b k (l ∷ ls) part have =
    same_none sight (method_form (out-Expr base) name es) es (b ∷ k ∷ l ∷ ls) (b ∷ k ∷ [])
    (method_is_none (out-Expr base) name es part (omega (arith, have_length have)))

pub list_by_other : (sight : Sight) (span : Span) (es : List Expr) (first other : Kind) (ks : List Kind) → other ≡ fold (differing first) first ks
    → node_kind sight (Expr-F.Many span es) (first ∷ ks) ≡ node_kind sight (Expr-F.Many span es) (first ∷ other ∷ [])
list_by_other sight span es first other ks is =
    ap (fitting sight form.List []) (list_by_two first ks) ∙ ap (λ (z : Kind). node_kind sight (Expr-F.Many span es) (first ∷ z ∷ [])) (sym is)

-- one more of a list
have_push : {sight : Sight} {es : List Expr} {ks : List Kind} → HaveKinds sight es ks → (a : Expr) (k : Kind) → HasKind sight a k
    → HaveKinds sight (es ++ a ∷ []) (ks ++ k ∷ [])
have_push rule.none a k d = rule.more d rule.none
have_push (rule.more h r) a k d = rule.more h (have_push r a k d)

fold_push : (first start : Kind) (ks : List Kind) (k : Kind) → fold (differing first) start (ks ++ k ∷ []) ≡ differing first (fold (differing first) start ks) k
fold_push first start [] k = refl
fold_push first start (l ∷ ls) k = fold_push first (differing first start l) ls k

-- the kinds of the others so far, of which one is kept
pub record OthersSoFar (sight : Sight) (first : Kind) (es : List Expr) (other : Kind) : Type 0 where
  pub kinds : List Kind
  pub have : HaveKinds sight es kinds
  pub is : other ≡ fold (differing first) first kinds

pub none_so_far : (sight : Sight) (first : Kind) → OthersSoFar sight first [] first
none_so_far sight first = record { kinds = []; have = rule.none; is = refl }

pub one_more : (sight : Sight) (first other next : Kind) (es fs : List Expr) (a : Expr) (k : Kind) → OthersSoFar sight first es other
    → HasKind sight a k → fs ≡ es ++ a ∷ [] → next ≡ differing first other k → OthersSoFar sight first fs next
one_more sight first other next es fs a k so_far d e n = record {
  kinds = so_far.kinds ++ k ∷ [];
  have = subst (λ z. HaveKinds sight z (so_far.kinds ++ k ∷ [])) (sym e) (have_push so_far.have a k d);
  is = n ∙ ap (λ z. differing first z k) so_far.is ∙ sym (fold_push first first so_far.kinds k);
}

-- the fault of a part behind parts that have kinds
fault_after : {sight : Sight} {es : List Expr} {ks : List Kind} → HaveKinds sight es ks → (a : Expr) (rest : List Expr) (fault : TypeFault)
    → FirstFault sight a fault → FirstFaultAmong sight (es ++ a ∷ rest) fault
fault_after rule.none a rest fault f = rule.first f
fault_after (rule.more h r) a rest fault f = rule.later h (fault_after r a rest fault f)

pub fault_at : (sight : Sight) (first other : Kind) (xs : List Expr) (i : ℕ) (a : Expr) (fault : TypeFault)
    → OthersSoFar sight first (take i xs) other → i < length xs → a ≡ get_or xs i a → FirstFault sight a fault → FirstFaultAmong sight xs fault
fault_at sight first other xs i a fault so_far within is f =
    let rest : take i xs ++ a ∷ drop (suc i) xs ≡ xs =
    ap (λ (z : Expr). take i xs ++ z ∷ drop (suc i) xs) is ∙ ap (λ (z : List Expr). take i xs ++ z) (sym (drop-cons xs i a within)) ∙ take-append-drop i xs in
    subst (λ z. FirstFaultAmong sight z fault) rest (fault_after so_far.have a (drop (suc i) xs) fault f)

-- a list, and its first and its others
pub no_item : (xs : List Expr) → length xs < 1 → xs ≡ []
no_item [] h = refl
no_item (x ∷ xs) h = absurd (omega (arith, h))

pub first_and_others : (xs : List Expr) (a : Expr) → 1 ≤ length xs → a ≡ get_or xs 0 a → a ∷ take (length xs - 1) (drop 1 xs) ≡ xs
first_and_others [] a h is = absurd (omega (arith, h))
first_and_others (x ∷ xs) a h is =
    let all : take (length (x ∷ xs) - 1) xs ≡ xs = take_all (length (x ∷ xs) - 1) xs (omega arith) in
    ap (λ (z : Expr). z ∷ take (length (x ∷ xs) - 1) xs) is ∙ ap (λ (z : List Expr). x ∷ z) all
