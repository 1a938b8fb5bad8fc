-- A tree that has a kind comes to what the function gives.
use Rattle.std.proofs.Common.{◌≡◌, ℕ, suc, zero, ◌≤◌, Bool, true, false, cond, is_some, List, [], ◌∷◌, length, map, Option, Some, None, Result, Ok, Err, refl, sym, ap, ◌∙◌, subst, arith}
use Rattle.std.specs.List.{All}
use Rattle.std.specs.Option.{option_map}
use Rattle.std.specs.Prelude.{◌↔◌}
use Rattle.std.proofs.lemmas.List.Elements.{All-head, All-tail}
use Rattle.cel_tree.specs.Tree.{size}
use Rattle.cel_tree.specs.declared.tree.Expr.{Expr, out-Expr}
use Rattle.cel_tree.specs.declared.tree.Expr.TheOpen.{Expr-F}
use Rattle.cel_tree.specs.declared.tree.Op.{Op}
use Rattle.cel_tree.specs.declared.tree.Op.TheVariants as op
use Rattle.cel_tree.specs.declared.tree.Span.{Span}
use Rattle.cel_value.specs.declared.value.EvalFault.{EvalFault}
use Rattle.cel_value.specs.declared.value.Outcome.{Outcome}
use Rattle.cel_value.specs.declared.value.Outcome.TheVariants.{Given, Stopped}
use Rattle.cel_value.specs.declared.value.Value.{Value, out-Value}
use Rattle.cel_value.specs.declared.value.Value.TheVariants as value
use Rattle.cel_types.specs.declared.form.Attribute.{Attribute}
use Rattle.cel_types.specs.declared.form.Form.{Form}
use Rattle.cel_types.specs.declared.form.Form.TheVariants as form
use Rattle.cel_types.specs.declared.kind.Kind.{Kind}
use Rattle.cel_types.specs.Sight.{Sight}
use Rattle.cel_types.specs.Arguments.{arguments_of}
use Rattle.cel_types.specs.Forms.{attribute_of, call_form, form_of, method_form}
use Rattle.cel_types.specs.Heads as head
use Rattle.cel_types.specs.Heads.{Head, called_head, head_of}
use Rattle.cel_types.specs.HasKind as row
use Rattle.cel_types.specs.HasKind.{Fits, HasKind, HaveKinds, KindFrom, children, parts}
use Rattle.cel_types.specs.Means as rule
use Rattle.cel_types.specs.Means.{Concludes, Means, MeansAt, PartsMean, is_strict}
use Rattle.cel_types.specs.OfKind as of
use Rattle.cel_types.specs.OfKind.{IsOf, OutcomeIsOf}
use Rattle.cel_types.specs.Setting.{Setting}
use Rattle.cel_types.specs.Kinds.{truth}
use Rattle.cel_types.proofs.Heads.{Headed, called_strict, form_in, head_there, is_lazy}
use Rattle.cel_types.proofs.OfKind.{ResultIsOf, kept}
use Rattle.cel_types.proofs.OneKind.{same_some}
use Rattle.cel_types.proofs.OneOutcome.{one_outcome}
use Rattle.cel_types.proofs.Smaller.{one_at_least, smaller}
use Rattle.cel_meaning.specs.Apply.{choice}
use Rattle.cel_meaning.specs.OutcomeOf.{all_values, headed, node_outcome, outcome_of, outcome_within, strict_outcome, two_outcome, with_first}
use Rattle.cel_meaning.proofs.Applies.{applies_is, at_truth}

-- a part comes to what is computed, which is of its kind
record Part (s : Setting) (e : Expr) (o : Outcome) (k : Kind) : Type 0 where
  means : Means s e o
  of_kind : OutcomeIsOf o k

-- so do all parts
abbrev Parts : Setting → (Expr → Outcome) → List Expr → List Kind → Type 0
Parts s below [] [] = Unit {0}
Parts s below (e ∷ es) (k ∷ ks) = Part s e (below e) k × Parts s below es ks
Parts s below _ _ = ⊥

-- the parts stop, or have values of their kinds
record Gathered (s : Setting) (es : List Expr) (ks : List Kind) (r : Result (List Value) EvalFault) : Type 0 where
  means : PartsMean s es r
  of_kinds : ResultIsOf r ks

add : (s : Setting) (e : Expr) (es : List Expr) (k : Kind) (ks : List Kind) (v : Value) (r : Result (List Value) EvalFault) → Part s e (Given v) k → Gathered s es ks r
    → Gathered s (e ∷ es) (k ∷ ks) (with_first v r)
add s e es k ks v (Ok vs) part g = record { means = rule.more part.means g.means; of_kinds = (given part.of_kind, g.of_kinds) }
  where
    given : OutcomeIsOf (Given v) k → IsOf v k
    given (of.given h) = h
add s e es k ks v (Err fault) part g = record { means = rule.later_stops part.means g.means; of_kinds = tt }

gather : (s : Setting) (below : Expr → Outcome) (es : List Expr) (ks : List Kind) → Parts s below es ks → Gathered s es ks (all_values (map below es))
gather s below [] [] h = record { means = rule.none; of_kinds = tt }
gather s below [] (k ∷ ks) h = absurd h
gather s below (e ∷ es) [] h = absurd h
gather s below (e ∷ es) (k ∷ ks) h = by (below e) h.0 (gather s below es ks h.1)
  where
    by : (o : Outcome) → Part s e o k → Gathered s es ks (all_values (map below es)) → Gathered s (e ∷ es) (k ∷ ks) (all_values (o ∷ map below es))
    by (Given v) part g = add s e es k ks v (all_values (map below es)) part g
    by (Stopped fault) part g = record { means = rule.first_stops part.means; of_kinds = tt }

-- ---- nodes whose parts are all evaluated

strict_at : (s : Setting) (below : Expr → Outcome) (x : Expr-F Expr) (h : Head) (ks : List Kind) (k : Kind) → is_strict x ≡ true → head_of x ≡ Some h → is_lazy h ≡ false
    → Parts s below (parts x) ks → KindFrom (form_in h) ks k → MeansAt s x (strict_outcome s below x)
strict_at s below x h ks k strict is given all from =
    let g = gather s below (parts x) ks all in
    rule.strict strict is g.means
    (subst (λ z. Concludes s h (all_values (map below (parts x))) (headed s z (all_values (map below (parts x))))) (sym is)
    (by (all_values (map below (parts x))) g.of_kinds))
  where
    by : (r : Result (List Value) EvalFault) → ResultIsOf r ks → Concludes s h r (headed s (Some h) r)
    by (Ok vs) of_kinds = rule.gives (applies_is s h given from vs of_kinds)
    by (Err fault) of_kinds = rule.stops

-- what a field of a base comes to, which is an attribute or nothing
abbrev selected : Setting → Option Attribute → Outcome
selected s o = headed s (option_map (λ a. head.attribute a) o) (Ok [])

selected_is : (s : Setting) (span : Span) (base : Expr) (field : List ℕ) (o : Option Attribute) (f : Form) → attribute_of (out-Expr base) field ≡ o
    → option_map form.Attribute o ≡ Some f → MeansAt s (Expr-F.Select span base field) (selected s o)
selected_is s span base field None f is has = absurd (let P : ⊥ = cc in P)
selected_is s span base field (Some attribute) f is has =
    rule.strict refl (ap (λ z. option_map (λ a. head.attribute a) z) is)
    (subst (λ z. PartsMean s (cond (is_some z) [] (base ∷ [])) (Ok [])) (sym is) rule.none) (rule.gives rule.attribute)

-- ---- operators

both_mean : (s : Setting) (below : Expr → Outcome) (a b : Expr) (ks : List Kind) → Parts s below (a ∷ b ∷ []) ks → Means s a (below a) × Means s b (below b)
both_mean s below a b [] all = absurd all
both_mean s below a b (j ∷ []) all = absurd all.1
both_mean s below a b (j ∷ l ∷ ls) all = (all.0.means, all.1.0.means)

two_node : (s : Setting) (below : Expr → Outcome) (o : Op) (span : Span) (a b : Expr) (ks : List Kind) (k : Kind) → KindFrom (form.Two o) ks k → Parts s below (a ∷ b ∷ []) ks
    → MeansAt s (Expr-F.Two span o a b) (two_outcome s o (below a) (below b))
two_node s below op.And span a b ks k from all = let m = both_mean s below a b ks all in rule.and m.0 m.1
two_node s below op.Or span a b ks k from all = let m = both_mean s below a b ks all in rule.or m.0 m.1
two_node s below op.Lt span a b ks k from all = strict_at s below (Expr-F.Two span op.Lt a b) (head.two op.Lt) ks k refl refl refl all from
two_node s below op.Le span a b ks k from all = strict_at s below (Expr-F.Two span op.Le a b) (head.two op.Le) ks k refl refl refl all from
two_node s below op.Gt span a b ks k from all = strict_at s below (Expr-F.Two span op.Gt a b) (head.two op.Gt) ks k refl refl refl all from
two_node s below op.Ge span a b ks k from all = strict_at s below (Expr-F.Two span op.Ge a b) (head.two op.Ge) ks k refl refl refl all from
two_node s below op.Eq span a b ks k from all = strict_at s below (Expr-F.Two span op.Eq a b) (head.two op.Eq) ks k refl refl refl all from
two_node s below op.Ne span a b ks k from all = strict_at s below (Expr-F.Two span op.Ne a b) (head.two op.Ne) ks k refl refl refl all from
two_node s below op.In span a b ks k from all = strict_at s below (Expr-F.Two span op.In a b) (head.two op.In) ks k refl refl refl all from
two_node s below op.Add span a b ks k from all = strict_at s below (Expr-F.Two span op.Add a b) (head.two op.Add) ks k refl refl refl all from
two_node s below op.Sub span a b ks k from all = strict_at s below (Expr-F.Two span op.Sub a b) (head.two op.Sub) ks k refl refl refl all from
two_node s below op.Mul span a b ks k from all = strict_at s below (Expr-F.Two span op.Mul a b) (head.two op.Mul) ks k refl refl refl all from
two_node s below op.Div span a b ks k from all = strict_at s below (Expr-F.Two span op.Div a b) (head.two op.Div) ks k refl refl refl all from
two_node s below op.Rem span a b ks k from all = strict_at s below (Expr-F.Two span op.Rem a b) (head.two op.Rem) ks k refl refl refl all from

choice_value : (s : Setting) (span : Span) (d a b : Expr) (v : Value) (x y : Outcome) → OutcomeIsOf (Given v) truth → Means s d (Given v) → Means s a x → Means s b y
    → MeansAt s (Expr-F.Pick span d a b) (choice (Given v) x y)
unfolding out-Value denote.Hole.Carrier.out
choice_value s span d a b v x y (of.given h) m left right =
    at_truth (λ z. Means s d (Given z) → MeansAt s (Expr-F.Pick span d a b) (choice (Given z) x y)) (λ c. by c) v h m
  where
    by : (c : Bool) → Means s d (Given (value.Bool c)) → MeansAt s (Expr-F.Pick span d a b) (cond c x y)
    by true m = rule.picked m left
    by false m = rule.other m right

choice_is : (s : Setting) (span : Span) (d a b : Expr) (o x y : Outcome) → Part s d o truth → Means s a x → Means s b y → MeansAt s (Expr-F.Pick span d a b) (choice o x y)
choice_is s span d a b (Stopped fault) x y part left right = rule.undecided part.means
choice_is s span d a b (Given v) x y part left right = choice_value s span d a b v x y part.of_kind part.means left right

-- ---- the whole

form_same : {f g : Form} {ks : List Kind} {k : Kind} → Some g ≡ Some f → KindFrom f ks k → KindFrom g ks k
form_same {f} {g} {ks} {k} e from = subst (λ z. KindFrom z ks k) (sym (same_some e)) from

choice_parts : (s : Setting) (below : Expr → Outcome) (span : Span) (d a b : Expr) {ks : List Kind} {k : Kind} → KindFrom form.Pick ks k → Parts s below (d ∷ a ∷ b ∷ []) ks
    → MeansAt s (Expr-F.Pick span d a b) (choice (below d) (below a) (below b))
choice_parts s below span d a b row.choice h = choice_is s span d a b (below d) (below a) (below b) h.0 h.1.0.means h.1.1.0.means

-- a function or a method
call_at : (s : Setting) (below : Expr → Outcome) (x : Expr-F Expr) (o : Option Form) (arguments : List Expr) (f : Form) (ks : List Kind) (k : Kind) → is_strict x ≡ true → head_of x ≡ called_head o arguments
    → Headed x f → Parts s below (parts x) ks → KindFrom f ks k → MeansAt s x (strict_outcome s below x)
call_at s below x o arguments f ks k strict is h all from =
    strict_at s below x h.found ks k strict h.is (called_strict o arguments h.found (sym is ∙ h.is)) all (subst (λ z. KindFrom z ks k) (sym h.same) from)

node_at : (s : Setting) (sight : Sight) (below : Expr → Outcome) (x : Expr-F Expr) (f : Form) (ks : List Kind) (k : Kind) → form_of x ≡ Some f → Fits sight f (arguments_of x)
    → Parts s below (parts x) ks → KindFrom f ks k → MeansAt s x (node_outcome s below x)
node_at s sight below (Expr-F.Bool span b) f ks k form fits all from = strict_at s below (Expr-F.Bool span b) (head.bool b) ks k refl refl refl all (form_same form from)
node_at s sight below (Expr-F.Int span n) f ks k form fits all from = strict_at s below (Expr-F.Int span n) (head.int n) ks k refl refl refl all (form_same form from)
node_at s sight below (Expr-F.Str span text) f ks k form fits all from = strict_at s below (Expr-F.Str span text) (head.str text) ks k refl refl refl all (form_same form from)
node_at s sight below (Expr-F.Name span name) f ks k form fits all from = absurd (let P : ⊥ = cc in P)
node_at s sight below (Expr-F.Select span base field) f ks k form fits all from = selected_is s span base field (attribute_of (out-Expr base) field) f refl form
node_at s sight below (Expr-F.Call span name arguments) f ks k form fits all from =
    call_at s below (Expr-F.Call span name arguments) (call_form name (length arguments)) arguments f ks k refl refl
    (head_there sight (Expr-F.Call span name arguments) f form fits) all from
node_at s sight below (Expr-F.Method span base name arguments) f ks k form fits all from =
    call_at s below (Expr-F.Method span base name arguments) (method_form (out-Expr base) name arguments) arguments f ks k refl refl
    (head_there sight (Expr-F.Method span base name arguments) f form fits) all from
node_at s sight below (Expr-F.Many span items) f ks k form fits all from = strict_at s below (Expr-F.Many span items) head.list ks k refl refl refl all (form_same form from)
node_at s sight below (Expr-F.Not span a) f ks k form fits all from = strict_at s below (Expr-F.Not span a) head.not ks k refl refl refl all (form_same form from)
node_at s sight below (Expr-F.Neg span a) f ks k form fits all from = strict_at s below (Expr-F.Neg span a) head.negative ks k refl refl refl all (form_same form from)
node_at s sight below (Expr-F.Two span o a b) f ks k form fits all from = two_node s below o span a b ks k (form_same form from) all
node_at s sight below (Expr-F.Pick span d a b) f ks k form fits all from = choice_parts s below span d a b (form_same form from) all

-- the parts of a tree that has a kind, by what is known of smaller trees
parts_are : (s : Setting) (sight : Sight) (n : ℕ) (below : Expr → Outcome) → ((c : Expr) (k : Kind) → size c ≤ n → HasKind sight c k → Means s c (below c))
    → {es : List Expr} {ks : List Kind} → HaveKinds sight es ks → All (λ c. size c ≤ n) es → Parts s below es ks
parts_are s sight n below known row.none all = tt
parts_are s sight n below known (row.more {e = e} {es = es} {k = k} h r) all =
    let m : Means s e (below e) = known e k (All-head (λ (c : Expr). size c ≤ n) e es all) h in
    (record { means = m; of_kind = kept m sight k h }, parts_are s sight n below known r (All-tail (λ (c : Expr). size c ≤ n) e es all))

within_means : (s : Setting) (sight : Sight) (n : ℕ) (e : Expr) (k : Kind) → size e ≤ n → HasKind sight e k → Means s e (outcome_within n s e)
unfolding outcome_within
within_means s sight zero e k h has = absurd (one_at_least e h)
within_means s sight (suc n) e k h (row.node {f = f} {ks = ks} plain form fits have from) =
    rule.node (node_at s sight (outcome_within n s) (out-Expr e) f ks k form fits
    (parts_are s sight n (outcome_within n s) (λ c l small has. within_means s sight n c l small has) have (smaller n e h)) from)

pub outcome_means : (s : Setting) (sight : Sight) (e : Expr) (k : Kind) → HasKind sight e k → Means s e (outcome_of s e)
unfolding outcome_of
outcome_means s sight e k has = within_means s sight (size e) e k (omega arith) has

-- the function and the relation are one
pub outcome_iff : (s : Setting) (sight : Sight) (e : Expr) (k : Kind) (o : Outcome) → HasKind sight e k → (outcome_of s e ≡ o) ↔ Means s e o
outcome_iff s sight e k o has = (
  λ is. subst (λ z. Means s e z) is (outcome_means s sight e k has),
  λ m. one_outcome (outcome_means s sight e k has) o m,
)
