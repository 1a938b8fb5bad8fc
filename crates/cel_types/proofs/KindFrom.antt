-- What is computed of a form and the kinds of parts is the table of kinds.
use Rattle.std.proofs.Common.{◌≡◌, Bool, true, false, ◌&&◌, cond, List, [], ◌∷◌, Option, Some, None, refl, sym, ap, ◌∙◌, subst, fold}
use Rattle.std.specs.List.{list_all}
use Rattle.cel_tree.specs.declared.tree.Op.{Op}
use Rattle.cel_tree.specs.declared.tree.Op.TheVariants as op
use Rattle.cel_types.specs.declared.form.Form.{Form}
use Rattle.cel_types.specs.declared.form.Form.TheVariants as form
use Rattle.cel_types.specs.declared.form.TimePart.{TimePart}
use Rattle.cel_types.specs.declared.kind.Base.{Base}
use Rattle.cel_types.specs.declared.kind.Base.TheVariants as base
use Rattle.cel_types.specs.declared.kind.Kind.{Kind}
use Rattle.cel_types.specs.declared.kind.Kind.TheVariants.{One, Many}
use Rattle.cel_types.specs.HasKind as rule
use Rattle.cel_types.specs.HasKind.{KindFrom, AllAre, is_arithmetic, is_equality, is_order, is_ordered_base}
use Rattle.cel_types.specs.Kinds.{truth, int, str, time, length, strs, is_base, is_kind, attribute_kind}
use Rattle.cel_types.specs.Nodes.{differing}
use Rattle.cel_types.specs.Rows.{from_one, look_up, from_two, sums, differences, orders, members, equal_kind, operator_kind, many_of, list_kind, choice_kind, part_kind, kind_from}

pub is_base_refl : (b : Base) → is_base b b ≡ true
is_base_refl base.Bool = refl
is_base_refl base.Int = refl
is_base_refl base.Str = refl
is_base_refl base.Time = refl
is_base_refl base.Length = refl

pub is_kind_refl : (k : Kind) → is_kind k k ≡ true
is_kind_refl (One b) = is_base_refl b
is_kind_refl (Many b) = is_base_refl b

same_base : (a b : Base) → is_base a b ≡ true → a ≡ b
same_base base.Bool base.Bool e = refl
same_base base.Int base.Int e = refl
same_base base.Str base.Str e = refl
same_base base.Time base.Time e = refl
same_base base.Length base.Length e = refl
same_base _ _ e = cc

pub same_kind : (k l : Kind) → is_kind k l ≡ true → k ≡ l
same_kind (One a) (One b) e = ap One (same_base a b e)
same_kind (Many a) (Many b) e = ap Many (same_base a b e)
same_kind _ _ e = cc

-- what the table gives is computed
arithmetic_kind : (o : Op) → is_arithmetic o ≡ true → operator_kind o (int ∷ int ∷ []) ≡ Some int
arithmetic_kind op.Add e = refl
arithmetic_kind op.Sub e = refl
arithmetic_kind op.Mul e = refl
arithmetic_kind op.Div e = refl
arithmetic_kind op.Rem e = refl
arithmetic_kind _ e = cc

equality_kind : (o : Op) (k : Kind) → is_equality o ≡ true → operator_kind o (k ∷ k ∷ []) ≡ Some truth
equality_kind op.Eq k e = ap (λ b. cond b (Some truth) None) (is_kind_refl k)
equality_kind op.Ne k e = ap (λ b. cond b (Some truth) None) (is_kind_refl k)
equality_kind _ k e = cc

ordered : (b : Base) → is_ordered_base b ≡ true → look_up orders (One b) (One b) ≡ Some truth
ordered base.Bool e = cc
ordered base.Int e = refl
ordered base.Str e = refl
ordered base.Time e = refl
ordered base.Length e = refl

order_kind : (o : Op) (b : Base) → is_order o ≡ true → is_ordered_base b ≡ true → operator_kind o (One b ∷ One b ∷ []) ≡ Some truth
order_kind op.Lt b e h = ordered b h
order_kind op.Le b e h = ordered b h
order_kind op.Gt b e h = ordered b h
order_kind op.Ge b e h = ordered b h
order_kind _ b e h = cc

member_kind : (b : Base) → look_up members (One b) (Many b) ≡ Some truth
member_kind base.Bool = refl
member_kind base.Int = refl
member_kind base.Str = refl
member_kind base.Time = refl
member_kind base.Length = refl

all_are : (k : Kind) (ks : List Kind) → AllAre k ks → list_all (λ l. is_kind k l) ks ≡ true
all_are k [] h = refl
all_are k (l ∷ ls) h =
    ap (λ b. b && list_all (λ l. is_kind k l) ls) (subst (λ z. is_kind k z ≡ true) (sym h.0) (is_kind_refl k)) ∙ all_are k ls h.1

pub computed : {f : Form} {ks : List Kind} {k : Kind} → KindFrom f ks k → kind_from f ks ≡ Some k
computed rule.bool_literal = refl
computed rule.int_literal = refl
computed rule.str_literal = refl
computed rule.logical_not = refl
computed rule.logical_and = refl
computed rule.logical_or = refl
computed rule.negative = refl
computed (rule.arithmetic {o = o} e) = arithmetic_kind o e
computed rule.str_plus_str = refl
computed rule.time_plus_length = refl
computed rule.length_plus_time = refl
computed rule.length_plus_length = refl
computed rule.time_minus_length = refl
computed rule.time_minus_time = refl
computed rule.length_minus_length = refl
computed (rule.equality {o = o} {k = k} e) = equality_kind o k e
computed (rule.order {o = o} {b = b} e h) = order_kind o b e h
computed (rule.member {b = b}) = member_kind b
computed (rule.choice {k = k}) = ap (λ b. cond b (Some k) None) (is_kind_refl k)
computed rule.empty_list = refl
computed (rule.list {b = b} {ks = ks} h) = ap (λ t. cond t (Some (Many b)) None) (all_are (One b) ks h)
computed rule.attribute = refl
computed rule.timestamp = refl
computed rule.duration = refl
computed rule.starts_with = refl
computed rule.ends_with = refl
computed rule.extract = refl
computed rule.part = refl
computed rule.part_in = refl
computed rule.tag = refl
computed rule.modified = refl
computed rule.has_only = refl

-- and the other way round
abbrev nothing : Option Kind
nothing = None

never : {X : Type 0} {k : Kind} → nothing ≡ Some k → X
never e = absurd (let P : ⊥ = cc in P)

if_some : {k : Kind} (b : Bool) (o : Option Kind) → cond b o None ≡ Some k → (b ≡ true) × (o ≡ Some k)
if_some true o e = (refl, e)
if_some false o e = never e

both_true : (a b : Bool) → (a && b) ≡ true → (a ≡ true) × (b ≡ true)
both_true true true e = (refl, refl)
both_true true false e = absurd (let P : ⊥ = cc in P)
both_true false b e = absurd (let P : ⊥ = cc in P)

leaf_given : (f : Form) (g : Kind) (ks : List Kind) (k : Kind) → KindFrom f ks g → Some g ≡ Some k → KindFrom f ks k
leaf_given f g ks k r e = let same : g ≡ k = cc in subst (λ z. KindFrom f ks z) same r

one_given : (f : Form) (a g : Kind) (ks : List Kind) (k : Kind) → KindFrom f (a ∷ []) g → from_one a g ks ≡ Some k → KindFrom f ks k
one_given f a g [] k r e = never e
one_given f a g (x ∷ []) k r e =
    let h = if_some (is_kind x a) (Some g) e in
    leaf_given f g (x ∷ []) k (subst (λ z. KindFrom f (z ∷ []) g) (sym (same_kind x a h.0)) r) h.1
one_given f a g (x ∷ y ∷ ks) k r e = never e

-- what is looked up stands in one of the rows
abbrev AllRows : Form → List (Kind × Kind × Kind) → Type 0
AllRows f [] = Unit {0}
AllRows f (row ∷ rows) = KindFrom f (row.0 ∷ row.1 ∷ []) row.2 × AllRows f rows

at_row : (f : Form) (a b g x y k : Kind) (o : Option Kind) → KindFrom f (a ∷ b ∷ []) g → (o ≡ Some k → KindFrom f (x ∷ y ∷ []) k)
    → (s t : Bool) → is_kind x a ≡ s → is_kind y b ≡ t → cond (s && t) (Some g) o ≡ Some k → KindFrom f (x ∷ y ∷ []) k
at_row f a b g x y k o r rest true true p q e =
    leaf_given f g (x ∷ y ∷ []) k
    (subst (λ z. KindFrom f (z ∷ y ∷ []) g) (sym (same_kind x a p)) (subst (λ z. KindFrom f (a ∷ z ∷ []) g) (sym (same_kind y b q)) r)) e
at_row f a b g x y k o r rest true false p q e = rest e
at_row f a b g x y k o r rest false t p q e = rest e

found : (f : Form) (rows : List (Kind × Kind × Kind)) → AllRows f rows → (x y k : Kind) → look_up rows x y ≡ Some k → KindFrom f (x ∷ y ∷ []) k
found f [] all x y k e = never e
found f (row ∷ rows) all x y k e =
    at_row f row.0 row.1 row.2 x y k (look_up rows x y) all.0 (λ h. found f rows all.1 x y k h) (is_kind x row.0) (is_kind y row.1) refl refl e

two_given : (f : Form) (rows : List (Kind × Kind × Kind)) (ks : List Kind) (k : Kind) → AllRows f rows → from_two rows ks ≡ Some k → KindFrom f ks k
two_given f rows [] k all e = never e
two_given f rows (x ∷ []) k all e = never e
two_given f rows (x ∷ y ∷ []) k all e = found f rows all x y k e
two_given f rows (x ∷ y ∷ z ∷ ks) k all e = never e

equal_given : (o : Op) → is_equality o ≡ true → (ks : List Kind) (k : Kind) → equal_kind ks ≡ Some k → KindFrom (form.Two o) ks k
equal_given o eq [] k e = never e
equal_given o eq (x ∷ []) k e = never e
equal_given o eq (x ∷ y ∷ []) k e =
    let h = if_some (is_kind x y) (Some truth) e in
    leaf_given (form.Two o) truth (x ∷ y ∷ []) k
    (subst (λ z. KindFrom (form.Two o) (x ∷ z ∷ []) truth) (same_kind x y h.0) (rule.equality eq)) h.1
equal_given o eq (x ∷ y ∷ z ∷ ks) k e = never e

order_given : (o : Op) → is_order o ≡ true → (ks : List Kind) (k : Kind) → from_two orders ks ≡ Some k → KindFrom (form.Two o) ks k
order_given o is ks k e =
    two_given (form.Two o) orders ks k (rule.order is refl, (rule.order is refl, (rule.order is refl, (rule.order is refl, tt)))) e

operator_given : (o : Op) (ks : List Kind) (k : Kind) → operator_kind o ks ≡ Some k → KindFrom (form.Two o) ks k
operator_given op.Or ks k e = two_given _ ((truth, truth, truth) ∷ []) ks k (rule.logical_or, tt) e
operator_given op.And ks k e = two_given _ ((truth, truth, truth) ∷ []) ks k (rule.logical_and, tt) e
operator_given op.Lt ks k e = order_given op.Lt refl ks k e
operator_given op.Le ks k e = order_given op.Le refl ks k e
operator_given op.Gt ks k e = order_given op.Gt refl ks k e
operator_given op.Ge ks k e = order_given op.Ge refl ks k e
operator_given op.Eq ks k e = equal_given op.Eq refl ks k e
operator_given op.Ne ks k e = equal_given op.Ne refl ks k e
operator_given op.In ks k e =
    two_given _ members ks k (rule.member, (rule.member, (rule.member, (rule.member, (rule.member, tt))))) e
operator_given op.Add ks k e =
    two_given _ sums ks k
    (rule.arithmetic refl, (rule.str_plus_str, (rule.time_plus_length, (rule.length_plus_time, (rule.length_plus_length, tt))))) e
operator_given op.Sub ks k e =
    two_given _ differences ks k (rule.arithmetic refl, (rule.time_minus_length, (rule.time_minus_time, (rule.length_minus_length, tt)))) e
operator_given op.Mul ks k e = two_given _ ((int, int, int) ∷ []) ks k (rule.arithmetic refl, tt) e
operator_given op.Div ks k e = two_given _ ((int, int, int) ∷ []) ks k (rule.arithmetic refl, tt) e
operator_given op.Rem ks k e = two_given _ ((int, int, int) ∷ []) ks k (rule.arithmetic refl, tt) e

are_all : (k : Kind) (ks : List Kind) → list_all (λ l. is_kind k l) ks ≡ true → AllAre k ks
are_all k [] e = tt
are_all k (l ∷ ls) e = let h = both_true (is_kind k l) _ e in (sym (same_kind k l h.0), are_all k ls h.1)

items_given : (x : Kind) (ks : List Kind) (k : Kind) → AllAre x ks → many_of x ≡ Some k → KindFrom form.List (x ∷ ks) k
items_given (One b) ks k h e = leaf_given form.List (Many b) (One b ∷ ks) k (rule.list h) e
items_given (Many b) ks k h e = never e

list_given : (ks : List Kind) (k : Kind) → list_kind ks ≡ Some k → KindFrom form.List ks k
list_given [] k e = leaf_given form.List strs [] k rule.empty_list e
list_given (x ∷ ks) k e = let h = if_some (list_all (λ l. is_kind x l) ks) (many_of x) e in items_given x ks k (are_all x ks h.0) h.1

choice_given : (ks : List Kind) (k : Kind) → choice_kind ks ≡ Some k → KindFrom form.Pick ks k
choice_given [] k e = never e
choice_given (x ∷ []) k e = never e
choice_given (x ∷ y ∷ []) k e = never e
choice_given (x ∷ y ∷ z ∷ []) k e =
    let h = if_some (is_kind x truth && is_kind y z) (Some y) e in
    let i = both_true _ _ h.0 in
    leaf_given form.Pick y (x ∷ y ∷ z ∷ []) k
    (subst (λ w. KindFrom form.Pick (w ∷ y ∷ z ∷ []) y) (sym (same_kind x truth i.0))
    (subst (λ w. KindFrom form.Pick (truth ∷ y ∷ w ∷ []) y) (same_kind y z i.1) rule.choice)) h.1
choice_given (x ∷ y ∷ z ∷ w ∷ ks) k e = never e

part_given : (p : TimePart) (ks : List Kind) (k : Kind) → part_kind ks ≡ Some k → KindFrom (form.Part p) ks k
part_given p [] k e = never e
part_given p (x ∷ []) k e = one_given _ time int (x ∷ []) k rule.part e
part_given p (x ∷ y ∷ ks) k e = two_given _ ((time, str, int) ∷ []) (x ∷ y ∷ ks) k (rule.part_in, tt) e

pub given : (f : Form) (ks : List Kind) (k : Kind) → kind_from f ks ≡ Some k → KindFrom f ks k
given form.Bool ks k e = leaf_given _ truth ks k rule.bool_literal e
given form.Int ks k e = leaf_given _ int ks k rule.int_literal e
given form.Str ks k e = leaf_given _ str ks k rule.str_literal e
given (form.Attribute a) ks k e = leaf_given _ (attribute_kind a) ks k rule.attribute e
given (form.Tag f) ks k e = leaf_given _ truth ks k rule.tag e
given form.Modified ks k e = leaf_given _ strs ks k rule.modified e
given form.Timestamp ks k e = one_given _ str time ks k rule.timestamp e
given form.Duration ks k e = one_given _ str length ks k rule.duration e
given form.StartsWith ks k e = two_given _ ((str, str, truth) ∷ []) ks k (rule.starts_with, tt) e
given form.EndsWith ks k e = two_given _ ((str, str, truth) ∷ []) ks k (rule.ends_with, tt) e
given form.Extract ks k e = two_given _ ((str, str, str) ∷ []) ks k (rule.extract, tt) e
given form.HasOnly ks k e = two_given _ ((strs, strs, truth) ∷ []) ks k (rule.has_only, tt) e
given (form.Part p) ks k e = part_given p ks k e
given form.List ks k e = list_given ks k e
given form.Not ks k e = one_given _ truth truth ks k rule.logical_not e
given form.Neg ks k e = one_given _ int int ks k rule.negative e
given (form.Two o) ks k e = operator_given o ks k e
given form.Pick ks k e = choice_given ks k e

-- a list's kind is that of its first item and of one that differs from it, where there is one
and_true : (b : Bool) → (b && true) ≡ b
and_true true = refl
and_true false = refl

and_false : (b : Bool) → (b && false) ≡ false
and_false true = refl
and_false false = refl

all_or_other : (k o : Kind) (ks : List Kind) → (list_all (λ l. is_kind k l) ks && is_kind k o) ≡ is_kind k (fold (differing k) o ks)
all_or_other k o [] = refl
all_or_other k o (l ∷ ls) = go (is_kind k l) refl (all_or_other k o ls) (all_or_other k l ls)
  where
    go : (b : Bool) → is_kind k l ≡ b → (list_all (λ l. is_kind k l) ls && is_kind k o) ≡ is_kind k (fold (differing k) o ls)
        → (list_all (λ l. is_kind k l) ls && is_kind k l) ≡ is_kind k (fold (differing k) l ls)
        → ((b && list_all (λ l. is_kind k l) ls) && is_kind k o) ≡ is_kind k (fold (differing k) (cond b o l) ls)
    go true e h i = h
    go false e h i = sym (and_false (list_all (λ l. is_kind k l) ls)) ∙ ap (λ b. list_all (λ l. is_kind k l) ls && b) (sym e) ∙ i

pub list_by_two : (k : Kind) (ks : List Kind) → list_kind (k ∷ ks) ≡ list_kind (k ∷ fold (differing k) k ks ∷ [])
list_by_two k ks =
    let all : list_all (λ l. is_kind k l) ks ≡ is_kind k (fold (differing k) k ks) =
    sym (and_true (list_all (λ l. is_kind k l) ks)) ∙ ap (λ b. list_all (λ l. is_kind k l) ks && b) (sym (is_kind_refl k)) ∙ all_or_other k k ks in
    ap (λ b. cond b (many_of k) None) (all ∙ sym (and_true (is_kind k (fold (differing k) k ks))))
