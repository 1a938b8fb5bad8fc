-- What a tree of a kind comes to is a fault or a value of that kind.
use Rattle.std.proofs.Common.{◌≡◌, ℕ, ℤ, Bool, true, false, cond, ◌||◌, is_some, List, [], ◌∷◌, map, pos, neg_ℤ, ◌+ℤ◌, ◌-ℤ◌, ◌*ℤ◌, Option, Some, None, Result, Ok, Err, refl, sym, ap, ◌∙◌, subst}
use Rattle.std.specs.Int.RustNames.{int_div, int_rem}
use Rattle.std.specs.Ordering.{int_eq}
use Rattle.cel_value.specs.Keys.{key_named}
use Rattle.cel_tree.specs.declared.tree.Op.{Op}
use Rattle.cel_tree.specs.declared.tree.Op.TheVariants as op
use Rattle.cel_tree.specs.declared.tree.Expr.{Expr}
use Rattle.cel_tree.specs.declared.tree.Expr.TheOpen.{Expr-F}
use Rattle.cel_value.specs.declared.context.Context.{Context}
use Rattle.cel_value.specs.declared.context.KeyFact.{KeyFact}
use Rattle.cel_value.specs.declared.context.ValueFact.{ValueFact}
use Rattle.cel_value.specs.declared.value.EvalFault.{EvalFault}
use Rattle.cel_value.specs.declared.value.Outcome.{Outcome}
use Rattle.cel_value.specs.declared.value.Outcome.TheVariants.{Given, Stopped}
use Rattle.cel_value.specs.declared.value.Value.{Value, out-Value}
use Rattle.cel_value.specs.declared.value.Value.TheOpen.{Value-F}
use Rattle.cel_value.specs.declared.value.Value.TheVariants as value
use Rattle.cel_value.specs.declared.value.Value.TheVariants.{outs-Bool, outs-Int, outs-Str, outs-Time, outs-Length, outs-Many}
use Rattle.cel_types.specs.declared.form.Attribute.{Attribute}
use Rattle.cel_types.specs.declared.form.Attribute.TheVariants.{ResourceType, ResourceService, ResourceName, RequestTime, PrincipalType, PrincipalSubject}
use Rattle.cel_types.specs.declared.form.Form.{Form}
use Rattle.cel_types.specs.declared.form.Form.TheVariants as form
use Rattle.cel_types.specs.declared.form.TagFunction.{TagFunction}
use Rattle.cel_types.specs.declared.form.TagFunction.TheVariants.{MatchTag, MatchTagId, HasTagKey, HasTagKeyId}
use Rattle.cel_types.specs.declared.form.TimePart.{TimePart}
use Rattle.cel_types.specs.declared.kind.Base.{Base}
use Rattle.cel_types.specs.declared.kind.Base.TheVariants as base
use Rattle.cel_types.specs.declared.kind.Kind.{Kind}
use Rattle.cel_types.specs.declared.kind.Kind.TheVariants.{One, Many}
use Rattle.cel_types.specs.Sight.{Sight}
use Rattle.cel_types.specs.Bounds.{int_outcome, time_outcome, length_outcome, quotient_outcome, remainder_outcome, is_int, is_time, is_length, nanos_of_seconds}
use Rattle.cel_types.specs.Calendar as has
use Rattle.cel_types.specs.Calendar.{HasPart}
use Rattle.cel_types.specs.Forms.{form_of}
use Rattle.cel_types.specs.HasKind as kinded
use Rattle.cel_types.specs.HasKind.{HasKind, HaveKinds, KindFrom, AllAre, parts}
use Rattle.cel_types.specs.Heads.{Head}
use Rattle.cel_types.specs.Kinds.{truth, int, str, time, length, strs, attribute_kind}
use Rattle.cel_types.specs.Setting.{Setting}
use Rattle.cel_types.specs.Means as rule
use Rattle.cel_types.specs.Means.{Means, MeansAt, PartsMean, Concludes, Applies, conjunction, disjunction, first_stop, comes_to}
use Rattle.cel_types.specs.OfKind as of
use Rattle.cel_types.specs.OfKind.{IsOf, OutcomeIsOf, AllHaveBase, layer_is_of}
use Rattle.cel_types.specs.Rows.{kind_from}
use Rattle.cel_types.specs.Tags.{tag_outcome, attribute_outcome, of_key, key_with_id, has_short, has_id}
use Rattle.cel_types.specs.TimeText.{time_or_fault, time_of_text, length_or_fault, length_of_text}
use Rattle.cel_types.proofs.OneKind.{same_some}
use Rattle.cel_types.proofs.KindFrom.{computed}
use Rattle.cel_types.proofs.Heads.{form_in, head_form}

-- the values are of the kinds, one each
abbrev pub AllOf : List Value → List Kind → Type 0
AllOf [] [] = Unit {0}
AllOf (v ∷ vs) (k ∷ ks) = IsOf v k × AllOf vs ks
AllOf _ _ = ⊥

is_bool : (b : Bool) → IsOf (value.Bool b) truth
is_bool b = subst (λ z. layer_is_of z truth) (sym (outs-Bool b)) tt

is_int_value : (n : ℤ) → IsOf (value.Int n) int
is_int_value n = subst (λ z. layer_is_of z int) (sym (outs-Int n)) tt

is_str : (s : List ℕ) → IsOf (value.Str s) str
is_str s = subst (λ z. layer_is_of z str) (sym (outs-Str s)) tt

is_time_value : (t : ℤ) → IsOf (value.Time t) time
is_time_value t = subst (λ z. layer_is_of z time) (sym (outs-Time t)) tt

is_length_value : (d : ℤ) → IsOf (value.Length d) length
is_length_value d = subst (λ z. layer_is_of z length) (sym (outs-Length d)) tt

either : {k : Kind} {x y : Outcome} (b : Bool) → OutcomeIsOf x k → OutcomeIsOf y k → OutcomeIsOf (cond b x y) k
either true h i = h
either false h i = i

int_kept : (n : ℤ) → OutcomeIsOf (int_outcome n) int
int_kept n = either (is_int n) (of.given (is_int_value n)) of.stopped

time_kept : (t : ℤ) → OutcomeIsOf (time_outcome t) time
time_kept t = either (is_time t) (of.given (is_time_value t)) of.stopped

length_kept : (d : ℤ) → OutcomeIsOf (length_outcome d) length
length_kept d = either (is_length d) (of.given (is_length_value d)) of.stopped

quotient_kept : (m n : ℤ) → OutcomeIsOf (quotient_outcome m n) int
quotient_kept m n = either (int_eq n (pos 0)) of.stopped (int_kept (int_div m n))

remainder_kept : (m n : ℤ) → OutcomeIsOf (remainder_outcome m n) int
remainder_kept m n =
    either (int_eq n (pos 0)) of.stopped (either (is_int (int_div m n)) (of.given (is_int_value (int_rem m n))) of.stopped)

timestamp_kept : (o : Option ℤ) → OutcomeIsOf (time_or_fault o) time
timestamp_kept None = of.stopped
timestamp_kept (Some t) = time_kept t

duration_kept : (o : Option ℤ) → OutcomeIsOf (length_or_fault o) length
duration_kept None = of.stopped
duration_kept (Some d) = length_kept d

key_kept : (key : Option KeyFact) (test : Option ValueFact → Bool) → OutcomeIsOf (of_key key test) truth
key_kept None test = of.stopped
key_kept (Some key) test = of.given (is_bool (test key.value))

tag_kept : (c : Context) (f : TagFunction) (key asked : List ℕ) → OutcomeIsOf (tag_outcome c f key asked) truth
tag_kept c MatchTag key asked = key_kept (key_named key c.keys) (has_short asked)
tag_kept c MatchTagId key asked = key_kept (key_with_id key c.keys) (has_id asked)
tag_kept c HasTagKey key asked = key_kept (key_named key c.keys) (λ fact. is_some fact)
tag_kept c HasTagKeyId key asked = key_kept (key_with_id key c.keys) (λ fact. is_some fact)

attribute_kept : (c : Context) (a : Attribute) → OutcomeIsOf (attribute_outcome c a) (attribute_kind a)
attribute_kept c ResourceType = of.given (is_str c.resource_kind)
attribute_kept c ResourceService = of.given (is_str c.resource_service)
attribute_kept c ResourceName = of.given (is_str c.resource_name)
attribute_kept c RequestTime = time_kept (nanos_of_seconds c.moment.0)
attribute_kept c PrincipalType = of.given (is_str c.principal_kind)
attribute_kept c PrincipalSubject = of.given (is_str c.principal_subject)

part_kept : {p : TimePart} {t : ℤ} {o : Outcome} → HasPart p t o → OutcomeIsOf o int
part_kept (has.within dt in_range h) = of.given (is_int_value _)
part_kept (has.outside out) = of.stopped

strs_have : (texts : List (List ℕ)) → AllHaveBase base.Str (map (λ s. value.Str s) texts)
strs_have [] = tt
strs_have (s ∷ ss) = (is_str s, strs_have ss)

modified_kept : (texts : List (List ℕ)) → IsOf (value.Many (map (λ s. value.Str s) texts)) strs
modified_kept texts = subst (λ z. layer_is_of z strs) (sym (outs-Many (map (λ s. value.Str s) texts))) (strs_have texts)

-- values of one single kind
same_base_all : (b : Base) (vs : List Value) (ks : List Kind) → AllOf vs ks → AllAre (One b) ks → AllHaveBase b vs
same_base_all b [] ks h same = tt
same_base_all b (v ∷ vs) [] h same = absurd h
same_base_all b (v ∷ vs) (k ∷ ks) h same = (subst (λ z. IsOf v z) same.0 h.0, same_base_all b vs ks h.1 same.1)

list_kept : (vs : List Value) {ks : List Kind} {k : Kind} → KindFrom form.List ks k → AllOf vs ks → IsOf (value.Many vs) k
list_kept [] kinded.empty_list h = subst (λ z. layer_is_of z strs) (sym (outs-Many [])) tt
list_kept (v ∷ vs) kinded.empty_list h = absurd h
list_kept [] (kinded.list same) h = absurd h
list_kept (v ∷ vs) (kinded.list {b = b} {ks = ks} same) h =
    subst (λ z. layer_is_of z (Many b)) (sym (outs-Many (v ∷ vs))) (h.0, same_base_all b vs ks h.1 same)

-- the kinds of values of known forms
of_bool : (b : Bool) (k : Kind) → IsOf (value.Bool b) k → k ≡ truth
of_bool b k h = known k (subst (λ z. layer_is_of z k) (outs-Bool b) h)
  where
    known : (k : Kind) → layer_is_of (Value-F.Bool b) k → k ≡ truth
    known (One base.Bool) h = refl
    known (One _) h = absurd h
    known (Many _) h = absurd h

of_int : (n : ℤ) (k : Kind) → IsOf (value.Int n) k → k ≡ int
of_int n k h = known k (subst (λ z. layer_is_of z k) (outs-Int n) h)
  where
    known : (k : Kind) → layer_is_of (Value-F.Int n) k → k ≡ int
    known (One base.Int) h = refl
    known (One _) h = absurd h
    known (Many _) h = absurd h

of_str : (s : List ℕ) (k : Kind) → IsOf (value.Str s) k → k ≡ str
of_str s k h = known k (subst (λ z. layer_is_of z k) (outs-Str s) h)
  where
    known : (k : Kind) → layer_is_of (Value-F.Str s) k → k ≡ str
    known (One base.Str) h = refl
    known (One _) h = absurd h
    known (Many _) h = absurd h

of_time : (t : ℤ) (k : Kind) → IsOf (value.Time t) k → k ≡ time
of_time t k h = known k (subst (λ z. layer_is_of z k) (outs-Time t) h)
  where
    known : (k : Kind) → layer_is_of (Value-F.Time t) k → k ≡ time
    known (One base.Time) h = refl
    known (One _) h = absurd h
    known (Many _) h = absurd h

of_length : (d : ℤ) (k : Kind) → IsOf (value.Length d) k → k ≡ length
of_length d k h = known k (subst (λ z. layer_is_of z k) (outs-Length d) h)
  where
    known : (k : Kind) → layer_is_of (Value-F.Length d) k → k ≡ length
    known (One base.Length) h = refl
    known (One _) h = absurd h
    known (Many _) h = absurd h

one_kind : (v : Value) (a : Kind) (ks : List Kind) → ((k : Kind) → IsOf v k → k ≡ a) → AllOf (v ∷ []) ks → ks ≡ a ∷ []
one_kind v a [] p h = absurd h
one_kind v a (k ∷ []) p h = ap (λ z. z ∷ []) (p k h.0)
one_kind v a (k ∷ l ∷ ls) p h = absurd h.1

two_kinds : (v w : Value) (a b : Kind) (ks : List Kind) → ((k : Kind) → IsOf v k → k ≡ a) → ((k : Kind) → IsOf w k → k ≡ b)
    → AllOf (v ∷ w ∷ []) ks → ks ≡ a ∷ b ∷ []
two_kinds v w a b [] p q h = absurd h
two_kinds v w a b (k ∷ []) p q h = absurd h.1
two_kinds v w a b (k ∷ l ∷ []) p q h = ap (λ z. z ∷ l ∷ []) (p k h.0) ∙ ap (λ z. a ∷ z ∷ []) (q l h.1.0)
two_kinds v w a b (k ∷ l ∷ m ∷ ms) p q h = absurd h.1.1

-- the kind of a row with these kinds of parts
row_kind : {f : Form} {ks ls : List Kind} {k g : Kind} → KindFrom f ks k → ks ≡ ls → kind_from f ls ≡ Some g → g ≡ k
row_kind {f} {ks} {ls} {k} {g} from same is = same_some (sym is ∙ ap (λ z. kind_from f z) (sym same) ∙ computed from)

moved : {o : Outcome} {g k : Kind} → g ≡ k → OutcomeIsOf o g → OutcomeIsOf o k
moved {o} e h = subst (λ z. OutcomeIsOf o z) e h

-- the row of an operator that gives a truth
abbrev gives_truth : Op → Bool
gives_truth op.Add = false
gives_truth op.Sub = false
gives_truth op.Mul = false
gives_truth op.Div = false
gives_truth op.Rem = false
gives_truth _ = true

arithmetic_clash : (o : Op) → kinded.is_arithmetic o ≡ true → gives_truth o ≡ true → int ≡ truth
arithmetic_clash op.Add e h = cc
arithmetic_clash op.Sub e h = cc
arithmetic_clash op.Mul e h = cc
arithmetic_clash op.Div e h = cc
arithmetic_clash op.Rem e h = cc
arithmetic_clash _ e h = cc

truth_row : {o : Op} {ks : List Kind} {k : Kind} → KindFrom (form.Two o) ks k → gives_truth o ≡ true → k ≡ truth
truth_row kinded.logical_and e = refl
truth_row kinded.logical_or e = refl
truth_row (kinded.arithmetic {o = o} a) e = arithmetic_clash o a e
truth_row kinded.str_plus_str e = cc
truth_row kinded.time_plus_length e = cc
truth_row kinded.length_plus_time e = cc
truth_row kinded.length_plus_length e = cc
truth_row kinded.time_minus_length e = cc
truth_row kinded.time_minus_time e = cc
truth_row kinded.length_minus_length e = cc
truth_row (kinded.equality a) e = refl
truth_row (kinded.order a b) e = refl
truth_row kinded.member e = refl

has_only_row : {ks : List Kind} {k : Kind} → KindFrom form.HasOnly ks k → k ≡ truth
has_only_row kinded.has_only = refl

extract_row : {ks : List Kind} {k : Kind} → KindFrom form.Extract ks k → k ≡ str
extract_row kinded.extract = refl

part_row : {p : TimePart} {ks : List Kind} {k : Kind} → KindFrom (form.Part p) ks k → k ≡ int
part_row kinded.part = refl
part_row kinded.part_in = refl

pick_row : {ks : List Kind} {k : Kind} → KindFrom form.Pick ks k → ks ≡ truth ∷ k ∷ k ∷ []
pick_row kinded.choice = refl

truth_kept : {b : Bool} {k : Kind} → k ≡ truth → OutcomeIsOf (Given (value.Bool b)) k
truth_kept {b} {k} e = moved (sym e) (of.given (is_bool b))

-- values of the kinds of a row give an outcome of its kind
applied_kept : {c : Setting} {f : Head} {vs : List Value} {o : Outcome} → Applies c f vs o → (ks : List Kind) (k : Kind) → KindFrom (form_in f) ks k → AllOf vs ks → OutcomeIsOf o k
applied_kept (rule.bool_literal {b = b}) ks k from h = truth_kept (sym (row_kind from refl refl))
applied_kept (rule.int_literal {n = n}) ks k from h = moved (row_kind from refl refl) (of.given (is_int_value n))
applied_kept (rule.str_literal {s = s}) ks k from h = moved (row_kind from refl refl) (of.given (is_str s))
applied_kept (rule.logical_not {b = b}) ks k from h = truth_kept (sym (row_kind from (one_kind _ truth ks (of_bool b) h) refl))
applied_kept (rule.negative {n = n}) ks k from h = moved (row_kind from (one_kind _ int ks (of_int n) h) refl) (int_kept (neg_ℤ n))
applied_kept (rule.int_plus_int {m = m} {n = n}) ks k from h =
    moved (row_kind from (two_kinds _ _ int int ks (of_int m) (of_int n) h) refl) (int_kept (m +ℤ n))
applied_kept (rule.int_minus_int {m = m} {n = n}) ks k from h =
    moved (row_kind from (two_kinds _ _ int int ks (of_int m) (of_int n) h) refl) (int_kept (m -ℤ n))
applied_kept (rule.product {m = m} {n = n}) ks k from h =
    moved (row_kind from (two_kinds _ _ int int ks (of_int m) (of_int n) h) refl) (int_kept (m *ℤ n))
applied_kept (rule.quotient {m = m} {n = n}) ks k from h =
    moved (row_kind from (two_kinds _ _ int int ks (of_int m) (of_int n) h) refl) (quotient_kept m n)
applied_kept (rule.remainder {m = m} {n = n}) ks k from h =
    moved (row_kind from (two_kinds _ _ int int ks (of_int m) (of_int n) h) refl) (remainder_kept m n)
applied_kept (rule.str_plus_str {s = s} {t = t}) ks k from h =
    moved (row_kind from (two_kinds _ _ str str ks (of_str s) (of_str t) h) refl) (of.given (is_str _))
applied_kept (rule.time_plus_length {t = t} {d = d}) ks k from h =
    moved (row_kind from (two_kinds _ _ time length ks (of_time t) (of_length d) h) refl) (time_kept (t +ℤ d))
applied_kept (rule.length_plus_time {d = d} {t = t}) ks k from h =
    moved (row_kind from (two_kinds _ _ length time ks (of_length d) (of_time t) h) refl) (time_kept (d +ℤ t))
applied_kept (rule.length_plus_length {d = d} {f = f}) ks k from h =
    moved (row_kind from (two_kinds _ _ length length ks (of_length d) (of_length f) h) refl) (length_kept (d +ℤ f))
applied_kept (rule.time_minus_length {t = t} {d = d}) ks k from h =
    moved (row_kind from (two_kinds _ _ time length ks (of_time t) (of_length d) h) refl) (time_kept (t -ℤ d))
applied_kept (rule.time_minus_time {s = s} {t = t}) ks k from h =
    moved (row_kind from (two_kinds _ _ time time ks (of_time s) (of_time t) h) refl) (length_kept (s -ℤ t))
applied_kept (rule.length_minus_length {d = d} {f = f}) ks k from h =
    moved (row_kind from (two_kinds _ _ length length ks (of_length d) (of_length f) h) refl) (length_kept (d -ℤ f))
applied_kept (rule.equal d) ks k from h = truth_kept (truth_row from refl)
applied_kept (rule.not_equal d) ks k from h = truth_kept (truth_row from refl)
applied_kept (rule.less d) ks k from h = truth_kept (truth_row from refl)
applied_kept (rule.less_or_equal d) ks k from h = truth_kept (truth_row from refl)
applied_kept (rule.greater d) ks k from h = truth_kept (truth_row from refl)
applied_kept (rule.greater_or_equal d) ks k from h = truth_kept (truth_row from refl)
applied_kept (rule.member ws many d) ks k from h = truth_kept (truth_row from refl)
applied_kept (rule.list {vs = vs}) ks k from h = of.given (list_kept vs from h)
applied_kept {c = c} (rule.attribute {a = a}) ks k from h =
    moved (row_kind from refl refl) (attribute_kept c.context a)
applied_kept (rule.timestamp {s = s}) ks k from h =
    moved (row_kind from (one_kind _ str ks (of_str s) h) refl) (timestamp_kept (time_of_text s))
applied_kept (rule.duration {s = s}) ks k from h =
    moved (row_kind from (one_kind _ str ks (of_str s) h) refl) (duration_kept (length_of_text s))
applied_kept (rule.begins {s = s} {t = t}) ks k from h = truth_kept (sym (row_kind from (two_kinds _ _ str str ks (of_str s) (of_str t) h) refl))
applied_kept (rule.ends {s = s} {t = t}) ks k from h = truth_kept (sym (row_kind from (two_kinds _ _ str str ks (of_str s) (of_str t) h) refl))
applied_kept rule.extract ks k from h = moved (sym (extract_row from)) (of.given (is_str _))
applied_kept (rule.part part) ks k from h = moved (sym (part_row from)) (part_kept part)
applied_kept {c = c} (rule.tag {f = f} {key = key} {asked = asked}) ks k from h = moved (row_kind from refl refl) (tag_kept c.context f key asked)
applied_kept rule.modified ks k from h = moved (row_kind from refl refl) (of.given (modified_kept _))
applied_kept (rule.has_only vs ws many more d) ks k from h = truth_kept (has_only_row from)

abbrev pub ResultIsOf : Result (List Value) EvalFault → List Kind → Type 0
ResultIsOf (Ok vs) ks = AllOf vs ks
ResultIsOf (Err fault) ks = Unit {0}

concluded_kept : {c : Setting} {f : Head} {r : Result (List Value) EvalFault} {o : Outcome} → Concludes c f r o → (ks : List Kind) (k : Kind) → KindFrom (form_in f) ks k → ResultIsOf r ks → OutcomeIsOf o k
concluded_kept rule.stops ks k from h = of.stopped
concluded_kept (rule.gives applied) ks k from h = applied_kept applied ks k from h

stop_kept : (x y z : Outcome) (k : Kind) → OutcomeIsOf z k → OutcomeIsOf (first_stop x y z) k
stop_kept (Stopped fault) y z k h = of.stopped
stop_kept (Given v) (Stopped fault) z k h = of.stopped
stop_kept (Given v) (Given w) z k h = h

conjunction_kept : (x y : Outcome) → OutcomeIsOf (conjunction x y) truth
conjunction_kept x y =
    either (comes_to false x || comes_to false y) (of.given (is_bool false)) (stop_kept x y _ truth (of.given (is_bool true)))

disjunction_kept : (x y : Outcome) → OutcomeIsOf (disjunction x y) truth
disjunction_kept x y =
    either (comes_to true x || comes_to true y) (of.given (is_bool true)) (stop_kept x y _ truth (of.given (is_bool false)))

given_is : {v : Value} {k : Kind} → OutcomeIsOf (Given v) k → IsOf v k
given_is (of.given h) = h

-- the row of a form that is known
at_form : {f g : Form} {ks : List Kind} {k : Kind} → Some g ≡ Some f → KindFrom f ks k → KindFrom g ks k
at_form {f} {g} {ks} {k} e from = subst (λ z. KindFrom z ks k) (sym (same_some e)) from

-- the kinds of the branches of a choice
branch_kinds : {sight : Sight} {d a b : Expr} {ks : List Kind} {k : Kind} → HaveKinds sight (d ∷ a ∷ b ∷ []) ks → ks ≡ truth ∷ k ∷ k ∷ []
    → HasKind sight a k × HasKind sight b k
branch_kinds {sight} {d} {a} {b} {ks} {k} have e = read (subst (λ z. HaveKinds sight (d ∷ a ∷ b ∷ []) z) e have)
  where
    read : HaveKinds sight (d ∷ a ∷ b ∷ []) (truth ∷ k ∷ k ∷ []) → HasKind sight a k × HasKind sight b k
    read (kinded.more h (kinded.more i (kinded.more j kinded.none))) = (i, j)

mutual
  pub kept : {c : Setting} {e : Expr} {o : Outcome} → Means c e o → (sight : Sight) (k : Kind) → HasKind sight e k → OutcomeIsOf o k
  kept (rule.node h) sight k (kinded.node plain form fits have from) = kept_at h sight _ _ k form have from

  kept_at : {c : Setting} {e : Expr-F Expr} {o : Outcome} → MeansAt c e o → (sight : Sight) (f : Form) (ks : List Kind) (k : Kind)
      → form_of e ≡ Some f → HaveKinds sight (parts e) ks → KindFrom f ks k → OutcomeIsOf o k
  kept_at (rule.false_and d) sight f ks k form have from = truth_kept (truth_row (at_form form from) refl)
  kept_at (rule.and {x = x} {y = y} d i) sight f ks k form have from =
      moved (sym (truth_row (at_form form from) refl)) (conjunction_kept x y)
  kept_at (rule.true_or d) sight f ks k form have from = truth_kept (truth_row (at_form form from) refl)
  kept_at (rule.or {x = x} {y = y} d i) sight f ks k form have from =
      moved (sym (truth_row (at_form form from) refl)) (disjunction_kept x y)
  kept_at (rule.picked d i) sight f ks k form have from =
      kept i sight k (branch_kinds have (pick_row (at_form form from))).0
  kept_at (rule.other d i) sight f ks k form have from =
      kept i sight k (branch_kinds have (pick_row (at_form form from))).1
  kept_at (rule.undecided d) sight f ks k form have from = of.stopped
  kept_at (rule.strict {e = e} {h = h} s has parts' conclusion) sight f ks k form have from =
      concluded_kept conclusion ks k (at_form (sym (head_form e h has) ∙ form) from) (kept_parts parts' sight ks have)

  kept_parts : {c : Setting} {es : List Expr} {r : Result (List Value) EvalFault} → PartsMean c es r
      → (sight : Sight) (ks : List Kind) → HaveKinds sight es ks → ResultIsOf r ks
  kept_parts rule.none sight ks kinded.none = tt
  kept_parts (rule.more d r) sight ks (kinded.more h i) = (given_is (kept d sight _ h), kept_parts r sight _ i)
  kept_parts (rule.first_stops d) sight ks have = tt
  kept_parts (rule.later_stops d r) sight ks have = tt

-- a value of kind Bool is a truth
pub truth_value : (v : Value) → IsOf v truth → (b : Bool) × (v ≡ value.Bool b)
unfolding out-Value denote.Hole.Carrier.out
truth_value (value.Bool b) h = (b, refl)
truth_value _ h = absurd h
