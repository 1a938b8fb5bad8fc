-- Which trees have which kinds.
use Rattle.std.specs.Prelude.{◌≡◌, ◌≢◌, Bool, true, false, not, if◌then◌else◌, IsTrue, is_some, Option, Some, None, List, [], ◌∷◌}
use Rattle.cel_tree.specs.Tree.{span_of}
use Rattle.cel_tree.specs.declared.tree.Op.{Op}
use Rattle.cel_tree.specs.declared.tree.Op.TheVariants as op
use Rattle.cel_tree.specs.declared.tree.Expr.{Expr, out-Expr}
use Rattle.cel_tree.specs.declared.tree.Expr.TheOpen.{Expr-F}
use Rattle.cel_types.specs.declared.checking.TypeFault.{TypeFault}
use Rattle.cel_types.specs.declared.checking.TypeKind.{TypeKind}
use Rattle.cel_types.specs.declared.checking.TypeKind.TheVariants.{UnknownName, NotHere, NotLiteral, BadTemplate, BadZone, WrongKind, NotBool}
use Rattle.cel_types.specs.declared.form.Attribute.{Attribute}
use Rattle.cel_types.specs.declared.form.Form.{Form}
use Rattle.cel_types.specs.declared.form.Form.TheVariants as form
use Rattle.cel_types.specs.declared.form.TagFunction.{TagFunction}
use Rattle.cel_types.specs.declared.form.TimePart.{TimePart}
use Rattle.cel_types.specs.declared.kind.Base.{Base}
use Rattle.cel_types.specs.declared.kind.Base.TheVariants.{Bool as TruthBase}
use Rattle.cel_types.specs.declared.kind.Kind.{Kind}
use Rattle.cel_types.specs.declared.kind.Kind.TheVariants.{One, Many}
use Rattle.cel_types.specs.Sight.{Sight}
use Rattle.cel_types.specs.Arguments.{arguments_of, has_literals, has_template, has_zone}
use Rattle.cel_types.specs.Forms.{form_of, attribute_of, is_whole}
use Rattle.cel_types.specs.Kinds.{truth, int, str, time, length, strs, attribute_kind}
use Rattle.cel_types.specs.Places.{stands_in}

-- the nodes directly below a node, from left to right. An attribute, a tag function with its base and its
-- arguments, and `api.getAttribute(..)` with its arguments are one node each
abbrev pub parts : Expr-F Expr → List Expr
parts (Expr-F.Bool span value) = []
parts (Expr-F.Int span number) = []
parts (Expr-F.Str span text) = []
parts (Expr-F.Name span name) = []
parts (Expr-F.Select span base field) = if is_some (attribute_of (out-Expr base) field) then [] else (base ∷ [])
parts (Expr-F.Call span name arguments) = arguments
parts (Expr-F.Method span base name arguments) = if is_whole (out-Expr base) name then [] else (base ∷ arguments)
parts (Expr-F.Many span items) = items
parts (Expr-F.Not span operand) = operand ∷ []
parts (Expr-F.Neg span operand) = operand ∷ []
parts (Expr-F.Two span op left right) = left ∷ right ∷ []
parts (Expr-F.Pick span condition picked other) = condition ∷ picked ∷ other ∷ []

abbrev pub children : Expr → List Expr
children e = parts (out-Expr e)

-- a node each of whose parts is looked at in the sight of the node. A form with a scope of its own would be none, and have rules
-- of its own
abbrev pub is_plain : Expr-F Expr → Bool
is_plain (Expr-F.Bool span value) = true
is_plain (Expr-F.Int span number) = true
is_plain (Expr-F.Str span text) = true
is_plain (Expr-F.Name span name) = true
is_plain (Expr-F.Select span base field) = true
is_plain (Expr-F.Call span name arguments) = true
is_plain (Expr-F.Method span base name arguments) = true
is_plain (Expr-F.Many span items) = true
is_plain (Expr-F.Not span operand) = true
is_plain (Expr-F.Neg span operand) = true
is_plain (Expr-F.Two span op left right) = true
is_plain (Expr-F.Pick span condition picked other) = true

abbrev pub is_arithmetic : Op → Bool
is_arithmetic op.Add = true
is_arithmetic op.Sub = true
is_arithmetic op.Mul = true
is_arithmetic op.Div = true
is_arithmetic op.Rem = true
is_arithmetic _ = false

abbrev pub is_equality : Op → Bool
is_equality op.Eq = true
is_equality op.Ne = true
is_equality _ = false

abbrev pub is_order : Op → Bool
is_order op.Lt = true
is_order op.Le = true
is_order op.Gt = true
is_order op.Ge = true
is_order _ = false

-- integers, texts, times and lengths are ordered
abbrev pub is_ordered_base : Base → Bool
is_ordered_base TruthBase = false
is_ordered_base _ = true

-- each of the kinds is this one
abbrev pub AllAre : Kind → List Kind → Type 0
AllAre k [] = Unit {0}
AllAre k (l ∷ ls) = (l ≡ k) × AllAre k ls

-- the table of kinds: a node of a form, the kinds of its parts, and its own kind. A node without parts has no kinds there
pub data KindFrom : Form → List Kind → Kind → Type 0 where
  bool_literal : {ks : List Kind} → KindFrom form.Bool ks truth
  int_literal : {ks : List Kind} → KindFrom form.Int ks int
  str_literal : {ks : List Kind} → KindFrom form.Str ks str
  logical_not : KindFrom form.Not (truth ∷ []) truth
  logical_and : KindFrom (form.Two op.And) (truth ∷ truth ∷ []) truth
  logical_or : KindFrom (form.Two op.Or) (truth ∷ truth ∷ []) truth
  negative : KindFrom form.Neg (int ∷ []) int
  arithmetic : {o : Op} → is_arithmetic o ≡ true → KindFrom (form.Two o) (int ∷ int ∷ []) int
  str_plus_str : KindFrom (form.Two op.Add) (str ∷ str ∷ []) str
  time_plus_length : KindFrom (form.Two op.Add) (time ∷ length ∷ []) time
  length_plus_time : KindFrom (form.Two op.Add) (length ∷ time ∷ []) time
  length_plus_length : KindFrom (form.Two op.Add) (length ∷ length ∷ []) length
  time_minus_length : KindFrom (form.Two op.Sub) (time ∷ length ∷ []) time
  time_minus_time : KindFrom (form.Two op.Sub) (time ∷ time ∷ []) length
  length_minus_length : KindFrom (form.Two op.Sub) (length ∷ length ∷ []) length
  equality : {o : Op} {k : Kind} → is_equality o ≡ true → KindFrom (form.Two o) (k ∷ k ∷ []) truth
  order : {o : Op} {b : Base} → is_order o ≡ true → is_ordered_base b ≡ true → KindFrom (form.Two o) (One b ∷ One b ∷ []) truth
  member : {b : Base} → KindFrom (form.Two op.In) (One b ∷ Many b ∷ []) truth
  choice : {k : Kind} → KindFrom form.Pick (truth ∷ k ∷ k ∷ []) k
  empty_list : KindFrom form.List [] strs
  list : {b : Base} {ks : List Kind} → AllAre (One b) ks → KindFrom form.List (One b ∷ ks) (Many b)
  attribute : {a : Attribute} {ks : List Kind} → KindFrom (form.Attribute a) ks (attribute_kind a)
  timestamp : KindFrom form.Timestamp (str ∷ []) time
  duration : KindFrom form.Duration (str ∷ []) length
  starts_with : KindFrom form.StartsWith (str ∷ str ∷ []) truth
  ends_with : KindFrom form.EndsWith (str ∷ str ∷ []) truth
  extract : KindFrom form.Extract (str ∷ str ∷ []) str
  part : {p : TimePart} → KindFrom (form.Part p) (time ∷ []) int
  part_in : {p : TimePart} → KindFrom (form.Part p) (time ∷ str ∷ []) int
  tag : {f : TagFunction} {ks : List Kind} → KindFrom (form.Tag f) ks truth
  modified : {ks : List Kind} → KindFrom form.Modified ks strs
  has_only : KindFrom form.HasOnly (strs ∷ strs ∷ []) truth

-- a node of this form may stand in the place, and its literal arguments are well formed
pub record Fits (sight : Sight) (f : Form) (arguments : List Expr) : Type 0 where
  pub here : IsTrue (stands_in sight.place f)
  pub literals : IsTrue (has_literals f arguments)
  pub template : IsTrue (has_template f arguments)
  pub zone : IsTrue (has_zone f arguments)

mutual
  -- the tree has the kind in the place
  pub data HasKind (sight : Sight) : Expr → Kind → Type 0 where
    node : {e : Expr} {f : Form} {ks : List Kind} {k : Kind} → is_plain (out-Expr e) ≡ true → form_of (out-Expr e) ≡ Some f
        → Fits sight f (arguments_of (out-Expr e)) → HaveKinds sight (children e) ks → KindFrom f ks k → HasKind sight e k

  -- the trees have the kinds, one each
  pub data HaveKinds (sight : Sight) : List Expr → List Kind → Type 0 where
    none : HaveKinds sight [] []
    more : {e : Expr} {es : List Expr} {k : Kind} {ks : List Kind} → HasKind sight e k → HaveKinds sight es ks
        → HaveKinds sight (e ∷ es) (k ∷ ks)

-- what is wrong with a form that may not stand here with these arguments, or whose parts are of other kinds
abbrev pub misfit : Sight → Form → List Expr → TypeKind
misfit sight f arguments =
    if not (stands_in sight.place f) then NotHere
    else (if not (has_literals f arguments) then NotLiteral
    else (if not (has_template f arguments) then BadTemplate
    else (if not (has_zone f arguments) then BadZone else WrongKind)))

abbrev pub fault_in : Option Form → Sight → List Expr → TypeKind
fault_in None sight arguments = UnknownName
fault_in (Some f) sight arguments = misfit sight f arguments

-- what is wrong with a node that has no kind although its parts have kinds
abbrev pub fault_of : Sight → Expr → TypeKind
fault_of sight e = fault_in (form_of (out-Expr e)) sight (arguments_of (out-Expr e))

mutual
  -- the fault of the first node that has no kind: parts before the whole, left before right
  pub data FirstFault (sight : Sight) : Expr → TypeFault → Type 0 where
    inside : {e : Expr} {fault : TypeFault} → is_plain (out-Expr e) ≡ true → FirstFaultAmong sight (children e) fault → FirstFault sight e fault
    here : {e : Expr} {ks : List Kind} → is_plain (out-Expr e) ≡ true → HaveKinds sight (children e) ks → ((k : Kind) → ¬ HasKind sight e k)
        → FirstFault sight e (record { offset = (span_of e).from; kind = fault_of sight e })

  pub data FirstFaultAmong (sight : Sight) : List Expr → TypeFault → Type 0 where
    first : {e : Expr} {es : List Expr} {fault : TypeFault} → FirstFault sight e fault → FirstFaultAmong sight (e ∷ es) fault
    later : {e : Expr} {es : List Expr} {k : Kind} {fault : TypeFault} → HasKind sight e k → FirstFaultAmong sight es fault
        → FirstFaultAmong sight (e ∷ es) fault

-- why a tree is no condition in the place: its first fault, or its kind
pub data IsFaultOf (sight : Sight) (e : Expr) : TypeFault → Type 0 where
  first : {fault : TypeFault} → FirstFault sight e fault → IsFaultOf sight e fault
  not_bool : {k : Kind} → HasKind sight e k → k ≢ truth → IsFaultOf sight e (record { offset = (span_of e).from; kind = NotBool })
