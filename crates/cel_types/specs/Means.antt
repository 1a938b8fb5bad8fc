-- What an expression comes to in a setting.
use Rattle.std.specs.Prelude.{◌≡◌, ℕ, Bool, true, false, not, ◌||◌, if◌then◌else◌, Some, Result, Ok, Err, List, [], ◌∷◌, ◌++◌, map, ℤ, neg_ℤ, ◌+ℤ◌, ◌-ℤ◌, ◌*ℤ◌, ◌<ℤ◌, Contains, nat_eq}
use Rattle.std.specs.Bool.{Decides}
use Rattle.std.specs.Cmp.Lexicographic.{slice_cmp}
use Rattle.std.specs.List.{starts_with, ends_with}
use Rattle.std.specs.Ordering.{nat_cmp}
use Rattle.std.specs.declared.cmp.Ordering.TheVariants.{Less}
use Rattle.cel_tree.specs.declared.tree.Op.TheVariants as op
use Rattle.cel_tree.specs.declared.tree.Span.{Span}
use Rattle.cel_tree.specs.declared.tree.Expr.{Expr, out-Expr}
use Rattle.cel_tree.specs.declared.tree.Expr.TheOpen.{Expr-F}
use Rattle.cel_value.specs.declared.value.EvalFault.{EvalFault}
use Rattle.cel_value.specs.declared.value.Outcome.{Outcome}
use Rattle.cel_value.specs.declared.value.Outcome.TheVariants.{Given, Stopped}
use Rattle.cel_value.specs.declared.value.Value.{Value, out-Value}
use Rattle.cel_value.specs.declared.value.Value.TheOpen.{Value-F}
use Rattle.cel_value.specs.declared.value.Value.TheVariants as value
use Rattle.cel_types.specs.declared.form.Attribute.{Attribute}
use Rattle.cel_types.specs.declared.form.TagFunction.{TagFunction}
use Rattle.cel_types.specs.declared.form.TimePart.{TimePart}
use Rattle.cel_types.specs.Bounds.{int_outcome, time_outcome, length_outcome, quotient_outcome, remainder_outcome, nanos_of_minutes}
use Rattle.cel_types.specs.Calendar.{HasPart}
use Rattle.cel_types.specs.Extract.{extracted}
use Rattle.cel_types.specs.Heads as head
use Rattle.cel_types.specs.Heads.{Head, head_of}
use Rattle.cel_types.specs.HasKind.{parts}
use Rattle.cel_types.specs.Setting.{Setting}
use Rattle.cel_types.specs.Tags.{tag_outcome, attribute_outcome}
use Rattle.cel_types.specs.TimeText.{timestamp_outcome, duration_outcome}

abbrev below : Value-F Value → Value-F Value → Type 0
below (Value-F.Int m) (Value-F.Int n) = m <ℤ n
below (Value-F.Str s) (Value-F.Str t) = slice_cmp nat_cmp s t ≡ Less
below (Value-F.Time s) (Value-F.Time t) = s <ℤ t
below (Value-F.Length d) (Value-F.Length e) = d <ℤ e
below _ _ = ⊥

-- the first value comes before the second: integers, times and lengths by number, texts by their bytes
abbrev pub IsBelow : Value → Value → Type 0
IsBelow v w = below (out-Value v) (out-Value w)

-- each item of the first list is in the second
abbrev pub AllIn : List Value → List Value → Type 0
AllIn vs ws = (v : Value) → Contains vs v → Contains ws v

-- what a node of this head comes to, whose parts have values. A node without parts has no values there, and a literal
-- argument's value stands behind the others, since the head has the literal
pub data Applies (setting : Setting) : Head → List Value → Outcome → Type 0 where
  bool_literal : {b : Bool} {vs : List Value} → Applies setting (head.bool b) vs (Given (value.Bool b))
  int_literal : {n : ℤ} {vs : List Value} → Applies setting (head.int n) vs (Given (value.Int n))
  str_literal : {s : List ℕ} {vs : List Value} → Applies setting (head.str s) vs (Given (value.Str s))
  logical_not : {b : Bool} → Applies setting head.not (value.Bool b ∷ []) (Given (value.Bool (not b)))
  negative : {n : ℤ} → Applies setting head.negative (value.Int n ∷ []) (int_outcome (neg_ℤ n))
  int_plus_int : {m n : ℤ} → Applies setting (head.two op.Add) (value.Int m ∷ value.Int n ∷ []) (int_outcome (m +ℤ n))
  int_minus_int : {m n : ℤ} → Applies setting (head.two op.Sub) (value.Int m ∷ value.Int n ∷ []) (int_outcome (m -ℤ n))
  product : {m n : ℤ} → Applies setting (head.two op.Mul) (value.Int m ∷ value.Int n ∷ []) (int_outcome (m *ℤ n))
  quotient : {m n : ℤ} → Applies setting (head.two op.Div) (value.Int m ∷ value.Int n ∷ []) (quotient_outcome m n)
  remainder : {m n : ℤ} → Applies setting (head.two op.Rem) (value.Int m ∷ value.Int n ∷ []) (remainder_outcome m n)
  str_plus_str : {s t : List ℕ} → Applies setting (head.two op.Add) (value.Str s ∷ value.Str t ∷ []) (Given (value.Str (s ++ t)))
  time_plus_length : {t d : ℤ} → Applies setting (head.two op.Add) (value.Time t ∷ value.Length d ∷ []) (time_outcome (t +ℤ d))
  length_plus_time : {d t : ℤ} → Applies setting (head.two op.Add) (value.Length d ∷ value.Time t ∷ []) (time_outcome (d +ℤ t))
  length_plus_length : {d f : ℤ} → Applies setting (head.two op.Add) (value.Length d ∷ value.Length f ∷ []) (length_outcome (d +ℤ f))
  time_minus_length : {t d : ℤ} → Applies setting (head.two op.Sub) (value.Time t ∷ value.Length d ∷ []) (time_outcome (t -ℤ d))
  time_minus_time : {s t : ℤ} → Applies setting (head.two op.Sub) (value.Time s ∷ value.Time t ∷ []) (length_outcome (s -ℤ t))
  length_minus_length : {d f : ℤ} → Applies setting (head.two op.Sub) (value.Length d ∷ value.Length f ∷ []) (length_outcome (d -ℤ f))
  equal : {v w : Value} {b : Bool} → Decides b (v ≡ w) → Applies setting (head.two op.Eq) (v ∷ w ∷ []) (Given (value.Bool b))
  not_equal : {v w : Value} {b : Bool} → Decides b (v ≡ w) → Applies setting (head.two op.Ne) (v ∷ w ∷ []) (Given (value.Bool (not b)))
  less : {v w : Value} {b : Bool} → Decides b (IsBelow v w) → Applies setting (head.two op.Lt) (v ∷ w ∷ []) (Given (value.Bool b))
  less_or_equal : {v w : Value} {b : Bool} → Decides b (IsBelow w v) → Applies setting (head.two op.Le) (v ∷ w ∷ []) (Given (value.Bool (not b)))
  greater : {v w : Value} {b : Bool} → Decides b (IsBelow w v) → Applies setting (head.two op.Gt) (v ∷ w ∷ []) (Given (value.Bool b))
  greater_or_equal : {v w : Value} {b : Bool} → Decides b (IsBelow v w) → Applies setting (head.two op.Ge) (v ∷ w ∷ []) (Given (value.Bool (not b)))
  member : {v w : Value} {b : Bool} (ws : List Value) → w ≡ value.Many ws → Decides b (Contains ws v) → Applies setting (head.two op.In) (v ∷ w ∷ []) (Given (value.Bool b))
  list : {vs : List Value} → Applies setting head.list vs (Given (value.Many vs))
  attribute : {a : Attribute} {vs : List Value} → Applies setting (head.attribute a) vs (attribute_outcome setting.context a)
  timestamp : {s : List ℕ} → Applies setting head.timestamp (value.Str s ∷ []) (timestamp_outcome s)
  duration : {s : List ℕ} → Applies setting head.duration (value.Str s ∷ []) (duration_outcome s)
  begins : {s t : List ℕ} → Applies setting head.starts_with (value.Str s ∷ value.Str t ∷ []) (Given (value.Bool (starts_with nat_eq s t)))
  ends : {s t : List ℕ} → Applies setting head.ends_with (value.Str s ∷ value.Str t ∷ []) (Given (value.Bool (ends_with nat_eq s t)))
  extract : {prefix suffix s : List ℕ} {template : Value} → Applies setting (head.extract prefix suffix) (value.Str s ∷ template ∷ []) (Given (value.Str (extracted prefix suffix s)))
  part : {p : TimePart} {m t : ℤ} {zone : List Value} {o : Outcome} → HasPart p (t +ℤ nanos_of_minutes m) o → Applies setting (head.part p m) (value.Time t ∷ zone) o
  tag : {f : TagFunction} {key asked : List ℕ} {vs : List Value} → Applies setting (head.tag f key asked) vs (tag_outcome setting.context f key asked)
  modified : {vs : List Value} → Applies setting head.modified vs (Given (value.Many (map (λ s. value.Str s) setting.context.modified)))
  has_only : {v w : Value} {b : Bool} (vs ws : List Value) → v ≡ value.Many vs → w ≡ value.Many ws → Decides b (AllIn vs ws) → Applies setting head.has_only (v ∷ w ∷ []) (Given (value.Bool b))

abbrev pub value_is : Bool → Value-F Value → Bool
value_is b (Value-F.Bool v) = if b then v else not v
value_is b _ = false

-- the outcome is this truth
abbrev pub comes_to : Bool → Outcome → Bool
comes_to b (Given v) = value_is b (out-Value v)
comes_to b (Stopped fault) = false

-- the error of the first, else of the second, else the third
abbrev pub first_stop : Outcome → Outcome → Outcome → Outcome
first_stop (Stopped fault) y otherwise = Stopped fault
first_stop (Given v) (Stopped fault) otherwise = Stopped fault
first_stop (Given v) (Given w) otherwise = otherwise

-- false where either side is false, else an error, else true
abbrev pub conjunction : Outcome → Outcome → Outcome
conjunction x y =
    if comes_to false x || comes_to false y then Given (value.Bool false) else first_stop x y (Given (value.Bool true))

-- true where either side is true, else an error, else false
abbrev pub disjunction : Outcome → Outcome → Outcome
disjunction x y =
    if comes_to true x || comes_to true y then Given (value.Bool true) else first_stop x y (Given (value.Bool false))

-- a form whose parts are all evaluated, from left to right, the first error being the outcome
abbrev pub is_strict : Expr-F Expr → Bool
is_strict (Expr-F.Bool span value) = true
is_strict (Expr-F.Int span number) = true
is_strict (Expr-F.Str span text) = true
is_strict (Expr-F.Name span name) = true
is_strict (Expr-F.Select span base field) = true
is_strict (Expr-F.Call span name arguments) = true
is_strict (Expr-F.Method span base name arguments) = true
is_strict (Expr-F.Many span items) = true
is_strict (Expr-F.Not span operand) = true
is_strict (Expr-F.Neg span operand) = true
is_strict (Expr-F.Two span op.And left right) = false
is_strict (Expr-F.Two span op.Or left right) = false
is_strict (Expr-F.Two span o left right) = true
is_strict (Expr-F.Pick span condition picked other) = false

-- a strict node stops with its parts, or applies to their values
pub data Concludes (setting : Setting) (h : Head) : Result (List Value) EvalFault → Outcome → Type 0 where
  stops : {fault : EvalFault} → Concludes setting h (Err fault) (Stopped fault)
  gives : {vs : List Value} {o : Outcome} → Applies setting h vs o → Concludes setting h (Ok vs) o

mutual
  -- the tree comes to the outcome in the setting
  pub data Means (setting : Setting) : Expr → Outcome → Type 0 where
    node : {e : Expr} {o : Outcome} → MeansAt setting (out-Expr e) o → Means setting e o

  pub data MeansAt (setting : Setting) : Expr-F Expr → Outcome → Type 0 where
    false_and : {span : Span} {a b : Expr} → Means setting a (Given (value.Bool false)) → MeansAt setting (Expr-F.Two span op.And a b) (Given (value.Bool false))
    and : {span : Span} {a b : Expr} {x y : Outcome} → Means setting a x → Means setting b y → MeansAt setting (Expr-F.Two span op.And a b) (conjunction x y)
    true_or : {span : Span} {a b : Expr} → Means setting a (Given (value.Bool true)) → MeansAt setting (Expr-F.Two span op.Or a b) (Given (value.Bool true))
    or : {span : Span} {a b : Expr} {x y : Outcome} → Means setting a x → Means setting b y → MeansAt setting (Expr-F.Two span op.Or a b) (disjunction x y)
    picked : {span : Span} {d a b : Expr} {o : Outcome} → Means setting d (Given (value.Bool true)) → Means setting a o → MeansAt setting (Expr-F.Pick span d a b) o
    other : {span : Span} {d a b : Expr} {o : Outcome} → Means setting d (Given (value.Bool false)) → Means setting b o → MeansAt setting (Expr-F.Pick span d a b) o
    undecided : {span : Span} {d a b : Expr} {fault : EvalFault} → Means setting d (Stopped fault) → MeansAt setting (Expr-F.Pick span d a b) (Stopped fault)
    strict : {e : Expr-F Expr} {h : Head} {r : Result (List Value) EvalFault} {o : Outcome} → is_strict e ≡ true → head_of e ≡ Some h
        → PartsMean setting (parts e) r → Concludes setting h r o → MeansAt setting e o

  -- the parts have values, or the first one that stops does so with this fault
  pub data PartsMean (setting : Setting) : List Expr → Result (List Value) EvalFault → Type 0 where
    none : PartsMean setting [] (Ok [])
    more : {e : Expr} {es : List Expr} {v : Value} {vs : List Value} → Means setting e (Given v) → PartsMean setting es (Ok vs) → PartsMean setting (e ∷ es) (Ok (v ∷ vs))
    first_stops : {e : Expr} {es : List Expr} {fault : EvalFault} → Means setting e (Stopped fault) → PartsMean setting (e ∷ es) (Err fault)
    later_stops : {e : Expr} {es : List Expr} {v : Value} {fault : EvalFault} → Means setting e (Given v) → PartsMean setting es (Err fault) → PartsMean setting (e ∷ es) (Err fault)
