-- What operators, functions and methods come to, applied to values.
use Rattle.std.specs.Prelude.{ℕ, Bool, not, if◌then◌else◌, Option, Some, None, List, [], ◌∷◌, ◌++◌, map, ℤ, neg_ℤ, ◌+ℤ◌, ◌-ℤ◌, ◌*ℤ◌, nat_eq}
use Rattle.std.specs.List.{starts_with, ends_with}
use Rattle.cel_tree.specs.declared.tree.Op.{Op}
use Rattle.cel_tree.specs.declared.tree.Op.TheVariants as op
use Rattle.cel_value.specs.declared.value.EvalFault.TheVariants.{UnknownTag}
use Rattle.cel_value.specs.declared.value.Outcome.{Outcome}
use Rattle.cel_value.specs.declared.value.Outcome.TheVariants.{Given, Stopped}
use Rattle.cel_value.specs.declared.value.Value.{Value, out-Value}
use Rattle.cel_value.specs.declared.value.Value.TheOpen.{Value-F}
use Rattle.cel_value.specs.declared.value.Value.TheVariants as value
use Rattle.cel_types.specs.declared.form.TimePart.{TimePart}
use Rattle.cel_types.specs.Bounds.{int_outcome, time_outcome, length_outcome, quotient_outcome, remainder_outcome, nanos_of_minutes}
use Rattle.cel_types.specs.Extract.{extracted}
use Rattle.cel_types.specs.Heads as head
use Rattle.cel_types.specs.Heads.{Head}
use Rattle.cel_types.specs.Setting.{Setting}
use Rattle.cel_types.specs.Tags.{attribute_outcome, tag_outcome}
use Rattle.cel_types.specs.TimeText.{timestamp_outcome, duration_outcome}
use Rattle.cel_meaning.specs.Dates.{part_outcome}
use Rattle.cel_meaning.specs.Values.{same_value, is_below, is_in, all_in}

-- what is given where the parts are not of the kinds that a form asks for: no tree that has a kind comes to it so
abbrev pub no_outcome : Outcome
no_outcome = Stopped UnknownTag

abbrev pub truth : Bool → Outcome
truth b = Given (value.Bool b)

abbrev pub negation_layer : Value-F Value → Outcome
negation_layer (Value-F.Bool b) = truth (not b)
negation_layer _ = no_outcome

abbrev pub negation : Value → Outcome
negation v = negation_layer (out-Value v)

abbrev pub opposite_layer : Value-F Value → Outcome
opposite_layer (Value-F.Int n) = int_outcome (neg_ℤ n)
opposite_layer _ = no_outcome

abbrev pub opposite : Value → Outcome
opposite v = opposite_layer (out-Value v)

abbrev pub sum_layer : Value-F Value → Value-F Value → Outcome
sum_layer (Value-F.Int m) (Value-F.Int n) = int_outcome (m +ℤ n)
sum_layer (Value-F.Str s) (Value-F.Str t) = Given (value.Str (s ++ t))
sum_layer (Value-F.Time t) (Value-F.Length d) = time_outcome (t +ℤ d)
sum_layer (Value-F.Length d) (Value-F.Time t) = time_outcome (d +ℤ t)
sum_layer (Value-F.Length d) (Value-F.Length f) = length_outcome (d +ℤ f)
sum_layer _ _ = no_outcome

abbrev pub difference_layer : Value-F Value → Value-F Value → Outcome
difference_layer (Value-F.Int m) (Value-F.Int n) = int_outcome (m -ℤ n)
difference_layer (Value-F.Time t) (Value-F.Length d) = time_outcome (t -ℤ d)
difference_layer (Value-F.Time s) (Value-F.Time t) = length_outcome (s -ℤ t)
difference_layer (Value-F.Length d) (Value-F.Length f) = length_outcome (d -ℤ f)
difference_layer _ _ = no_outcome

abbrev pub product_layer : Value-F Value → Value-F Value → Outcome
product_layer (Value-F.Int m) (Value-F.Int n) = int_outcome (m *ℤ n)
product_layer _ _ = no_outcome

abbrev pub quotient_layer : Value-F Value → Value-F Value → Outcome
quotient_layer (Value-F.Int m) (Value-F.Int n) = quotient_outcome m n
quotient_layer _ _ = no_outcome

abbrev pub remainder_layer : Value-F Value → Value-F Value → Outcome
remainder_layer (Value-F.Int m) (Value-F.Int n) = remainder_outcome m n
remainder_layer _ _ = no_outcome

abbrev pub member_layer : Value → Value-F Value → Outcome
member_layer v (Value-F.Many ws) = truth (is_in v ws)
member_layer v _ = no_outcome

-- an operator both of whose sides are evaluated, which those of `&&` and `||` aren't
abbrev pub two_values : Op → Value → Value → Outcome
two_values op.Or v w = no_outcome
two_values op.And v w = no_outcome
two_values op.Lt v w = truth (is_below v w)
two_values op.Le v w = truth (not (is_below w v))
two_values op.Gt v w = truth (is_below w v)
two_values op.Ge v w = truth (not (is_below v w))
two_values op.Eq v w = truth (same_value v w)
two_values op.Ne v w = truth (not (same_value v w))
two_values op.In v w = member_layer v (out-Value w)
two_values op.Add v w = sum_layer (out-Value v) (out-Value w)
two_values op.Sub v w = difference_layer (out-Value v) (out-Value w)
two_values op.Mul v w = product_layer (out-Value v) (out-Value w)
two_values op.Div v w = quotient_layer (out-Value v) (out-Value w)
two_values op.Rem v w = remainder_layer (out-Value v) (out-Value w)

abbrev pub choice_layer : Value-F Value → Outcome → Outcome → Outcome
choice_layer (Value-F.Bool b) x y = if b then x else y
choice_layer _ x y = no_outcome

-- one of two branches, as the condition comes out
abbrev pub choice : Outcome → Outcome → Outcome → Outcome
choice (Stopped fault) x y = Stopped fault
choice (Given v) x y = choice_layer (out-Value v) x y

abbrev pub of_one : (Value → Outcome) → List Value → Outcome
of_one f (v ∷ []) = f v
of_one f _ = no_outcome

abbrev pub of_two : Op → List Value → Outcome
of_two o (v ∷ w ∷ []) = two_values o v w
of_two o _ = no_outcome

abbrev pub text_layer : (List ℕ → Outcome) → Value-F Value → Outcome
text_layer f (Value-F.Str s) = f s
text_layer f _ = no_outcome

abbrev pub of_text : (List ℕ → Outcome) → List Value → Outcome
of_text f (v ∷ []) = text_layer f (out-Value v)
of_text f _ = no_outcome

abbrev pub texts_layer : (List ℕ → List ℕ → Outcome) → Value-F Value → Value-F Value → Outcome
texts_layer f (Value-F.Str s) (Value-F.Str t) = f s t
texts_layer f _ _ = no_outcome

abbrev pub of_texts : (List ℕ → List ℕ → Outcome) → List Value → Outcome
of_texts f (v ∷ w ∷ []) = texts_layer f (out-Value v) (out-Value w)
of_texts f _ = no_outcome

abbrev pub lists_layer : Value-F Value → Value-F Value → Outcome
lists_layer (Value-F.Many vs) (Value-F.Many ws) = truth (all_in vs ws)
lists_layer _ _ = no_outcome

abbrev pub has_only : List Value → Outcome
has_only (v ∷ w ∷ []) = lists_layer (out-Value v) (out-Value w)
has_only _ = no_outcome

abbrev pub time_layer : (ℤ → Outcome) → Value-F Value → Outcome
time_layer f (Value-F.Time t) = f t
time_layer f _ = no_outcome

-- a part of a time, behind which a zone may stand
abbrev pub of_time : (ℤ → Outcome) → List Value → Outcome
of_time f (v ∷ []) = time_layer f (out-Value v)
of_time f (v ∷ zone ∷ []) = time_layer f (out-Value v)
of_time f _ = no_outcome

-- a text, behind which a literal stands that the head has
abbrev pub of_text_first : (List ℕ → Outcome) → List Value → Outcome
of_text_first f (v ∷ literal ∷ []) = text_layer f (out-Value v)
of_text_first f _ = no_outcome

-- the zone shifts first
abbrev pub shifted_part : TimePart → ℤ → ℤ → Outcome
shifted_part p minutes t = part_outcome p (t +ℤ nanos_of_minutes minutes)

-- a node of a head, all of whose parts have values
abbrev pub apply : Setting → Head → List Value → Outcome
apply s (head.bool b) vs = Given (value.Bool b)
apply s (head.int n) vs = Given (value.Int n)
apply s (head.str text) vs = Given (value.Str text)
apply s (head.attribute a) vs = attribute_outcome s.context a
apply s (head.tag function key asked) vs = tag_outcome s.context function key asked
apply s head.modified vs = Given (value.Many (map (λ t. value.Str t) s.context.modified))
apply s head.timestamp vs = of_text timestamp_outcome vs
apply s head.duration vs = of_text duration_outcome vs
apply s head.starts_with vs = of_texts (λ t u. truth (starts_with nat_eq t u)) vs
apply s head.ends_with vs = of_texts (λ t u. truth (ends_with nat_eq t u)) vs
apply s (head.extract prefix suffix) vs = of_text_first (λ t. Given (value.Str (extracted prefix suffix t))) vs
apply s head.has_only vs = has_only vs
apply s (head.part p minutes) vs = of_time (λ t. shifted_part p minutes t) vs
apply s head.list vs = Given (value.Many vs)
apply s head.not vs = of_one negation vs
apply s head.negative vs = of_one opposite vs
apply s (head.two o) vs = of_two o vs
apply s head.pick vs = no_outcome
