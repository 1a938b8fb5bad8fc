-- What is computed of values is what the rules of meaning give, at values of the kinds of a row.
use Rattle.std.proofs.Common.{◌≡◌, ℕ, ℤ, Bool, true, false, List, [], ◌∷◌, refl, sym, ap, ◌∙◌, subst}
use Rattle.cel_tree.specs.declared.tree.Op.{Op}
use Rattle.cel_tree.specs.declared.tree.Op.TheVariants as op
use Rattle.cel_value.specs.declared.value.Value.{Value, out-Value}
use Rattle.cel_value.specs.declared.value.Value.TheOpen.{Value-F}
use Rattle.cel_value.specs.declared.value.Value.TheVariants as value
use Rattle.cel_value.specs.declared.value.Value.TheVariants.{outs-Many}
use Rattle.cel_types.specs.declared.form.Form.TheVariants as form
use Rattle.cel_types.specs.declared.form.TimePart.{TimePart}
use Rattle.cel_types.specs.declared.kind.Base.{Base}
use Rattle.cel_types.specs.declared.kind.Base.TheVariants as base
use Rattle.cel_types.specs.declared.kind.Kind.{Kind}
use Rattle.cel_types.specs.declared.kind.Kind.TheVariants.{One, Many}
use Rattle.cel_types.specs.HasKind as row
use Rattle.cel_types.specs.Heads as head
use Rattle.cel_types.specs.Heads.{Head}
use Rattle.cel_types.specs.HasKind.{KindFrom, is_arithmetic, is_equality, is_order, is_ordered_base}
use Rattle.cel_types.specs.Means as rule
use Rattle.cel_types.specs.Means.{Applies}
use Rattle.cel_types.specs.OfKind.{IsOf}
use Rattle.cel_types.specs.Setting.{Setting}
use Rattle.cel_types.specs.Kinds.{truth, int, str, time, length as span, strs}
use Rattle.cel_types.proofs.Heads.{form_in, is_lazy}
use Rattle.cel_types.proofs.OfKind.{AllOf}
use Rattle.cel_meaning.specs.Apply.{apply, lists_layer, member_layer, two_values}
use Rattle.cel_meaning.proofs.Dates.{part_is}
use Rattle.cel_meaning.proofs.Values.{all_in_decides, at_many, below_decides, in_decides, single, value_decides}

no : {X : Type 0} → false ≡ true → X
no e = absurd (let P : ⊥ = cc in P)

-- ---- values by their kinds

pub at_truth : (P : Value → Type 0) → ((b : Bool) → P (value.Bool b)) → (v : Value) → IsOf v truth → P v
unfolding out-Value denote.Hole.Carrier.out
at_truth P f (value.Bool b) h = f b
at_truth P f _ h = absurd h

pub at_int : (P : Value → Type 0) → ((n : ℤ) → P (value.Int n)) → (v : Value) → IsOf v int → P v
unfolding out-Value denote.Hole.Carrier.out
at_int P f (value.Int n) h = f n
at_int P f _ h = absurd h

at_str : (P : Value → Type 0) → ((s : List ℕ) → P (value.Str s)) → (v : Value) → IsOf v str → P v
unfolding out-Value denote.Hole.Carrier.out
at_str P f (value.Str s) h = f s
at_str P f _ h = absurd h

at_time : (P : Value → Type 0) → ((t : ℤ) → P (value.Time t)) → (v : Value) → IsOf v time → P v
unfolding out-Value denote.Hole.Carrier.out
at_time P f (value.Time t) h = f t
at_time P f _ h = absurd h

at_span : (P : Value → Type 0) → ((d : ℤ) → P (value.Length d)) → (v : Value) → IsOf v span → P v
unfolding out-Value denote.Hole.Carrier.out
at_span P f (value.Length d) h = f d
at_span P f _ h = absurd h

-- ---- operators of two sides

abbrev Two : Setting → Op → Value → Value → Type 0
Two s o v w = Applies s (head.two o) (v ∷ w ∷ []) (two_values o v w)

ints_are : (s : Setting) (o : Op) → ((m n : ℤ) → Two s o (value.Int m) (value.Int n)) → (v w : Value) → IsOf v int → IsOf w int → Two s o v w
ints_are s o f v w h i = at_int (λ z. Two s o z w) (λ m. at_int (λ z. Two s o (value.Int m) z) (f m) w i) v h

arithmetic_is : (s : Setting) (o : Op) → is_arithmetic o ≡ true → (m n : ℤ) → Two s o (value.Int m) (value.Int n)
unfolding out-Value denote.Hole.Carrier.out
arithmetic_is s op.Add a m n = rule.int_plus_int
arithmetic_is s op.Sub a m n = rule.int_minus_int
arithmetic_is s op.Mul a m n = rule.product
arithmetic_is s op.Div a m n = rule.quotient
arithmetic_is s op.Rem a m n = rule.remainder
arithmetic_is s _ a m n = no a

strs_are : (s : Setting) (v w : Value) → IsOf v str → IsOf w str → Two s op.Add v w
unfolding out-Value denote.Hole.Carrier.out
strs_are s v w h i = at_str (λ z. Two s op.Add z w) (λ m. at_str (λ z. Two s op.Add (value.Str m) z) (λ n. rule.str_plus_str) w i) v h

later_is : (s : Setting) (v w : Value) → IsOf v time → IsOf w span → Two s op.Add v w
unfolding out-Value denote.Hole.Carrier.out
later_is s v w h i = at_time (λ z. Two s op.Add z w) (λ m. at_span (λ z. Two s op.Add (value.Time m) z) (λ n. rule.time_plus_length) w i) v h

span_later_is : (s : Setting) (v w : Value) → IsOf v span → IsOf w time → Two s op.Add v w
unfolding out-Value denote.Hole.Carrier.out
span_later_is s v w h i = at_span (λ z. Two s op.Add z w) (λ m. at_time (λ z. Two s op.Add (value.Length m) z) (λ n. rule.length_plus_time) w i) v h

longer_is : (s : Setting) (v w : Value) → IsOf v span → IsOf w span → Two s op.Add v w
unfolding out-Value denote.Hole.Carrier.out
longer_is s v w h i = at_span (λ z. Two s op.Add z w) (λ m. at_span (λ z. Two s op.Add (value.Length m) z) (λ n. rule.length_plus_length) w i) v h

earlier_is : (s : Setting) (v w : Value) → IsOf v time → IsOf w span → Two s op.Sub v w
unfolding out-Value denote.Hole.Carrier.out
earlier_is s v w h i = at_time (λ z. Two s op.Sub z w) (λ m. at_span (λ z. Two s op.Sub (value.Time m) z) (λ n. rule.time_minus_length) w i) v h

between_is : (s : Setting) (v w : Value) → IsOf v time → IsOf w time → Two s op.Sub v w
unfolding out-Value denote.Hole.Carrier.out
between_is s v w h i = at_time (λ z. Two s op.Sub z w) (λ m. at_time (λ z. Two s op.Sub (value.Time m) z) (λ n. rule.time_minus_time) w i) v h

shorter_is : (s : Setting) (v w : Value) → IsOf v span → IsOf w span → Two s op.Sub v w
unfolding out-Value denote.Hole.Carrier.out
shorter_is s v w h i = at_span (λ z. Two s op.Sub z w) (λ m. at_span (λ z. Two s op.Sub (value.Length m) z) (λ n. rule.length_minus_length) w i) v h

equality_is : (s : Setting) (o : Op) (k : Kind) → is_equality o ≡ true → (v w : Value) → IsOf v k → IsOf w k → Two s o v w
equality_is s op.Eq k a v w h i = rule.equal (value_decides k v w h i)
equality_is s op.Ne k a v w h i = rule.not_equal (value_decides k v w h i)
equality_is s _ k a v w h i = no a

order_is : (s : Setting) (o : Op) (b : Base) → is_order o ≡ true → is_ordered_base b ≡ true → (v w : Value) → IsOf v (One b) → IsOf w (One b)
    → Two s o v w
order_is s op.Lt b a c v w h i = rule.less (below_decides b v w c (single b v h) (single b w i))
order_is s op.Le b a c v w h i = rule.less_or_equal (below_decides b w v c (single b w i) (single b v h))
order_is s op.Gt b a c v w h i = rule.greater (below_decides b w v c (single b w i) (single b v h))
order_is s op.Ge b a c v w h i = rule.greater_or_equal (below_decides b v w c (single b v h) (single b w i))
order_is s _ b a c v w h i = no a

member_is : (s : Setting) (b : Base) (v w : Value) → IsOf v (One b) → IsOf w (Many b) → Two s op.In v w
unfolding out-Value denote.Hole.Carrier.out
member_is s b v w h i =
    at_many b (λ z. Two s op.In v z) (λ ws all.
    subst (λ z. Applies s (head.two op.In) (v ∷ value.Many ws ∷ []) (member_layer v z)) (sym (outs-Many ws))
    (rule.member ws refl (in_decides b v ws (single b v h) all))) w i

-- an operator whose both sides are evaluated
two_is : (s : Setting) (o : Op) → is_lazy (head.two o) ≡ false → {ks : List Kind} {k : Kind} → KindFrom (form.Two o) ks k → (v w : Value) → AllOf (v ∷ w ∷ []) ks → Two s o v w
two_is s o strict row.logical_and v w h = no (sym strict)
two_is s o strict row.logical_or v w h = no (sym strict)
two_is s o strict (row.arithmetic a) v w h = ints_are s o (arithmetic_is s o a) v w h.0 h.1.0
two_is s o strict row.str_plus_str v w h = strs_are s v w h.0 h.1.0
two_is s o strict row.time_plus_length v w h = later_is s v w h.0 h.1.0
two_is s o strict row.length_plus_time v w h = span_later_is s v w h.0 h.1.0
two_is s o strict row.length_plus_length v w h = longer_is s v w h.0 h.1.0
two_is s o strict row.time_minus_length v w h = earlier_is s v w h.0 h.1.0
two_is s o strict row.time_minus_time v w h = between_is s v w h.0 h.1.0
two_is s o strict row.length_minus_length v w h = shorter_is s v w h.0 h.1.0
two_is s o strict (row.equality {k = k} a) v w h = equality_is s o k a v w h.0 h.1.0
two_is s o strict (row.order {b = b} a c) v w h = order_is s o b a c v w h.0 h.1.0
two_is s o strict (row.member {b = b}) v w h = member_is s b v w h.0 h.1.0

-- the kinds of the two sides of an operator
two_kinds : {o : Op} {ks : List Kind} {k : Kind} → KindFrom (form.Two o) ks k → (a : Kind) × (b : Kind) × (ks ≡ a ∷ b ∷ [])
two_kinds row.logical_and = (_, _, refl)
two_kinds row.logical_or = (_, _, refl)
two_kinds (row.arithmetic a) = (_, _, refl)
two_kinds row.str_plus_str = (_, _, refl)
two_kinds row.time_plus_length = (_, _, refl)
two_kinds row.length_plus_time = (_, _, refl)
two_kinds row.length_plus_length = (_, _, refl)
two_kinds row.time_minus_length = (_, _, refl)
two_kinds row.time_minus_time = (_, _, refl)
two_kinds row.length_minus_length = (_, _, refl)
two_kinds (row.equality a) = (_, _, refl)
two_kinds (row.order a c) = (_, _, refl)
two_kinds row.member = (_, _, refl)

abbrev Call : Setting → Head → List Value → Type 0
Call s h vs = Applies s h vs (apply s h vs)

sides_are : (s : Setting) (o : Op) → is_lazy (head.two o) ≡ false → {ks : List Kind} {k : Kind} → KindFrom (form.Two o) ks k → (a b : Kind) → ks ≡ a ∷ b ∷ [] → (vs : List Value) → AllOf vs ks
    → Call s (head.two o) vs
sides_are s o strict from a b is [] all = absurd (subst (λ z. AllOf [] z) is all)
sides_are s o strict from a b is (v ∷ []) all = absurd (subst (λ z. AllOf (v ∷ []) z) is all).1
sides_are s o strict from a b is (v ∷ w ∷ []) all = two_is s o strict from v w all
sides_are s o strict from a b is (v ∷ w ∷ x ∷ xs) all = absurd (subst (λ z. AllOf (v ∷ w ∷ x ∷ xs) z) is all).1.1

-- ---- operators of one side, functions and methods

one_truth : (s : Setting) (h : Head) → ((b : Bool) → Call s h (value.Bool b ∷ [])) → (vs : List Value) → AllOf vs (truth ∷ []) → Call s h vs
one_truth s h g [] all = absurd all
one_truth s h g (v ∷ []) all = at_truth (λ z. Call s h (z ∷ [])) g v all.0
one_truth s h g (v ∷ w ∷ ws) all = absurd all.1

one_int : (s : Setting) (h : Head) → ((n : ℤ) → Call s h (value.Int n ∷ [])) → (vs : List Value) → AllOf vs (int ∷ []) → Call s h vs
one_int s h g [] all = absurd all
one_int s h g (v ∷ []) all = at_int (λ z. Call s h (z ∷ [])) g v all.0
one_int s h g (v ∷ w ∷ ws) all = absurd all.1

one_text : (s : Setting) (h : Head) → ((t : List ℕ) → Call s h (value.Str t ∷ [])) → (vs : List Value) → AllOf vs (str ∷ []) → Call s h vs
one_text s h g [] all = absurd all
one_text s h g (v ∷ []) all = at_str (λ z. Call s h (z ∷ [])) g v all.0
one_text s h g (v ∷ w ∷ ws) all = absurd all.1

one_time : (s : Setting) (h : Head) → ((t : ℤ) → Call s h (value.Time t ∷ [])) → (vs : List Value) → AllOf vs (time ∷ []) → Call s h vs
one_time s h g [] all = absurd all
one_time s h g (v ∷ []) all = at_time (λ z. Call s h (z ∷ [])) g v all.0
one_time s h g (v ∷ w ∷ ws) all = absurd all.1

two_texts : (s : Setting) (h : Head) → ((t u : List ℕ) → Call s h (value.Str t ∷ value.Str u ∷ [])) → (vs : List Value) → AllOf vs (str ∷ str ∷ []) → Call s h vs
two_texts s h g [] all = absurd all
two_texts s h g (v ∷ []) all = absurd all.1
two_texts s h g (v ∷ w ∷ []) all = at_str (λ z. Call s h (z ∷ w ∷ [])) (λ t. at_str (λ z. Call s h (value.Str t ∷ z ∷ [])) (g t) w all.1.0) v all.0
two_texts s h g (v ∷ w ∷ x ∷ ws) all = absurd all.1.1

-- a text or a time, behind which a literal stands
text_and_literal : (s : Setting) (h : Head) → ((t : List ℕ) (w : Value) → Call s h (value.Str t ∷ w ∷ [])) → (vs : List Value) → AllOf vs (str ∷ str ∷ []) → Call s h vs
text_and_literal s h g [] all = absurd all
text_and_literal s h g (v ∷ []) all = absurd all.1
text_and_literal s h g (v ∷ w ∷ []) all = at_str (λ z. Call s h (z ∷ w ∷ [])) (λ t. g t w) v all.0
text_and_literal s h g (v ∷ w ∷ x ∷ ws) all = absurd all.1.1

time_and_literal : (s : Setting) (h : Head) → ((t : ℤ) (w : Value) → Call s h (value.Time t ∷ w ∷ [])) → (vs : List Value) → AllOf vs (time ∷ str ∷ []) → Call s h vs
time_and_literal s h g [] all = absurd all
time_and_literal s h g (v ∷ []) all = absurd all.1
time_and_literal s h g (v ∷ w ∷ []) all = at_time (λ z. Call s h (z ∷ w ∷ [])) (λ t. g t w) v all.0
time_and_literal s h g (v ∷ w ∷ x ∷ ws) all = absurd all.1.1

lists_are : (xs ys : List Value) → lists_layer (out-Value (value.Many xs)) (out-Value (value.Many ys)) ≡ lists_layer (Value-F.Many xs) (Value-F.Many ys)
lists_are xs ys = ap (λ z. lists_layer z (out-Value (value.Many ys))) (outs-Many xs) ∙ ap (λ z. lists_layer (Value-F.Many xs) z) (outs-Many ys)

two_lists : (s : Setting) → (vs : List Value) → AllOf vs (strs ∷ strs ∷ []) → Call s head.has_only vs
unfolding out-Value denote.Hole.Carrier.out
two_lists s [] all = absurd all
two_lists s (v ∷ []) all = absurd all.1
two_lists s (v ∷ w ∷ []) all =
    at_many base.Str (λ z. Call s head.has_only (z ∷ w ∷ [])) (λ xs here. at_many base.Str (λ z. Call s head.has_only (value.Many xs ∷ z ∷ []))
    (λ ys there. subst (λ z. Applies s head.has_only (value.Many xs ∷ value.Many ys ∷ []) z) (sym (lists_are xs ys))
    (rule.has_only xs ys refl refl (all_in_decides base.Str xs ys here there))) w all.1.0) v all.0
two_lists s (v ∷ w ∷ x ∷ ws) all = absurd all.1.1

not_is : (s : Setting) {ks : List Kind} {k : Kind} → KindFrom form.Not ks k → (vs : List Value) → AllOf vs ks → Call s head.not vs
unfolding out-Value denote.Hole.Carrier.out
not_is s row.logical_not vs all = one_truth s head.not (λ b. rule.logical_not) vs all

negative_is : (s : Setting) {ks : List Kind} {k : Kind} → KindFrom form.Neg ks k → (vs : List Value) → AllOf vs ks → Call s head.negative vs
unfolding out-Value denote.Hole.Carrier.out
negative_is s row.negative vs all = one_int s head.negative (λ n. rule.negative) vs all

timestamp_is : (s : Setting) {ks : List Kind} {k : Kind} → KindFrom form.Timestamp ks k → (vs : List Value) → AllOf vs ks → Call s head.timestamp vs
unfolding out-Value denote.Hole.Carrier.out
timestamp_is s row.timestamp vs all = one_text s head.timestamp (λ t. rule.timestamp) vs all

duration_is : (s : Setting) {ks : List Kind} {k : Kind} → KindFrom form.Duration ks k → (vs : List Value) → AllOf vs ks → Call s head.duration vs
unfolding out-Value denote.Hole.Carrier.out
duration_is s row.duration vs all = one_text s head.duration (λ t. rule.duration) vs all

begins_is : (s : Setting) {ks : List Kind} {k : Kind} → KindFrom form.StartsWith ks k → (vs : List Value) → AllOf vs ks → Call s head.starts_with vs
unfolding out-Value denote.Hole.Carrier.out
begins_is s row.starts_with vs all = two_texts s head.starts_with (λ t u. rule.begins) vs all

ends_is : (s : Setting) {ks : List Kind} {k : Kind} → KindFrom form.EndsWith ks k → (vs : List Value) → AllOf vs ks → Call s head.ends_with vs
unfolding out-Value denote.Hole.Carrier.out
ends_is s row.ends_with vs all = two_texts s head.ends_with (λ t u. rule.ends) vs all

extract_is : (s : Setting) (prefix suffix : List ℕ) {ks : List Kind} {k : Kind} → KindFrom form.Extract ks k → (vs : List Value) → AllOf vs ks → Call s (head.extract prefix suffix) vs
unfolding out-Value denote.Hole.Carrier.out
extract_is s prefix suffix row.extract vs all = text_and_literal s (head.extract prefix suffix) (λ t w. rule.extract) vs all

has_only_is : (s : Setting) {ks : List Kind} {k : Kind} → KindFrom form.HasOnly ks k → (vs : List Value) → AllOf vs ks → Call s head.has_only vs
has_only_is s row.has_only vs all = two_lists s vs all

part_in_is : (s : Setting) (p : TimePart) (minutes : ℤ) {ks : List Kind} {k : Kind} → KindFrom (form.Part p) ks k → (vs : List Value) → AllOf vs ks → Call s (head.part p minutes) vs
unfolding out-Value denote.Hole.Carrier.out
part_in_is s p minutes row.part vs all = one_time s (head.part p minutes) (λ t. rule.part (part_is p _)) vs all
part_in_is s p minutes row.part_in vs all = time_and_literal s (head.part p minutes) (λ t w. rule.part (part_is p _)) vs all

-- a node whose parts are all evaluated, to values of their kinds
pub applies_is : (s : Setting) (h : Head) → is_lazy h ≡ false → {ks : List Kind} {k : Kind} → KindFrom (form_in h) ks k → (vs : List Value) → AllOf vs ks → Call s h vs
applies_is s (head.bool b) strict from vs all = rule.bool_literal
applies_is s (head.int n) strict from vs all = rule.int_literal
applies_is s (head.str text) strict from vs all = rule.str_literal
applies_is s (head.attribute a) strict from vs all = rule.attribute
applies_is s (head.tag function key asked) strict from vs all = rule.tag
applies_is s head.modified strict from vs all = rule.modified
applies_is s head.timestamp strict from vs all = timestamp_is s from vs all
applies_is s head.duration strict from vs all = duration_is s from vs all
applies_is s head.starts_with strict from vs all = begins_is s from vs all
applies_is s head.ends_with strict from vs all = ends_is s from vs all
applies_is s (head.extract prefix suffix) strict from vs all = extract_is s prefix suffix from vs all
applies_is s head.has_only strict from vs all = has_only_is s from vs all
applies_is s (head.part p minutes) strict from vs all = part_in_is s p minutes from vs all
applies_is s head.list strict from vs all = rule.list
applies_is s head.not strict from vs all = not_is s from vs all
applies_is s head.negative strict from vs all = negative_is s from vs all
applies_is s (head.two o) strict from vs all = let r = two_kinds from in sides_are s o strict from r.0 r.1 r.2 vs all
applies_is s head.pick strict from vs all = no (sym strict)
