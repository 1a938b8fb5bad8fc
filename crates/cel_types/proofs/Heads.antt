-- A node that has a form and fits has a head, of that form.
use Rattle.std.proofs.Common.{◌≡◌, ℕ, ◌==◌, Bool, true, false, cond, ◌&&◌, is_some, ℤ, List, [], ◌∷◌, Option, Some, None, length, refl, sym, ap, ◌∙◌}
use Rattle.std.specs.Option.{option_map}
use Rattle.std.specs.Prelude.{codes}
use Rattle.std.specs.Str.{bytes_eq}
use Rattle.cel_tree.specs.declared.tree.Expr.{Expr, out-Expr}
use Rattle.cel_tree.specs.declared.tree.Expr.TheOpen.{Expr-F}
use Rattle.cel_tree.specs.declared.tree.Op.TheVariants as op
use Rattle.cel_types.specs.declared.form.Attribute.{Attribute}
use Rattle.cel_types.specs.declared.form.Form.{Form}
use Rattle.cel_types.specs.declared.form.Form.TheVariants as form
use Rattle.cel_types.specs.declared.form.TagFunction.{TagFunction}
use Rattle.cel_types.specs.declared.form.TimePart.{TimePart}
use Rattle.cel_types.specs.declared.kind.Kind.{Kind}
use Rattle.cel_types.specs.Sight.{Sight}
use Rattle.cel_types.specs.Arguments.{arguments_of, first_text, second_text, zone_of}
use Rattle.cel_types.specs.Extract.{prefix_of, suffix_of}
use Rattle.cel_types.specs.Forms.{arity, attribute_of, call_form, form_of, is_api, is_empty_list, is_text, method_form, modified_form, own_method, tag_form, tag_of, tagged, time_part}
use Rattle.cel_types.specs.HasKind as rule
use Rattle.cel_types.specs.HasKind.{Fits, HasKind}
use Rattle.cel_types.specs.Heads as head
use Rattle.cel_types.specs.Heads.{Head, called_head, head_of, with_literals}
use Rattle.cel_types.proofs.OneKind.{same_some}

-- the form of a head
abbrev pub form_in : Head → Form
form_in (head.bool b) = form.Bool
form_in (head.int n) = form.Int
form_in (head.str s) = form.Str
form_in (head.attribute a) = form.Attribute a
form_in (head.tag function key asked) = form.Tag function
form_in head.modified = form.Modified
form_in head.timestamp = form.Timestamp
form_in head.duration = form.Duration
form_in head.starts_with = form.StartsWith
form_in head.ends_with = form.EndsWith
form_in (head.extract prefix suffix) = form.Extract
form_in head.has_only = form.HasOnly
form_in (head.part p minutes) = form.Part p
form_in head.list = form.List
form_in head.not = form.Not
form_in head.negative = form.Neg
form_in (head.two o) = form.Two o
form_in head.pick = form.Pick

-- ---- a head is of its node's form

known : (g h : Head) → Some g ≡ Some h → Some (form_in g) ≡ Some (form_in h)
known g h e = ap (λ z. Some (form_in z)) (same_some e)

part_form : (p : TimePart) (o : Option ℤ) (h : Head) → option_map (λ m. head.part p m) o ≡ Some h → Some (form.Part p) ≡ Some (form_in h)
part_form p None h e = absurd (let P : ⊥ = cc in P)
part_form p (Some m) h e = known (head.part p m) h e

literal_form : (f : Form) (arguments : List Expr) (h : Head) → with_literals f arguments ≡ Some h → Some f ≡ Some (form_in h)
literal_form (form.Tag function) arguments h e = known (head.tag function (first_text arguments) (second_text arguments)) h e
literal_form form.Modified arguments h e = known head.modified h e
literal_form form.Timestamp arguments h e = known head.timestamp h e
literal_form form.Duration arguments h e = known head.duration h e
literal_form form.StartsWith arguments h e = known head.starts_with h e
literal_form form.EndsWith arguments h e = known head.ends_with h e
literal_form form.Extract arguments h e = known (head.extract (prefix_of (first_text arguments)) (suffix_of (first_text arguments))) h e
literal_form form.HasOnly arguments h e = known head.has_only h e
literal_form (form.Part p) arguments h e = part_form p (zone_of arguments) h e
literal_form _ arguments h e = absurd (let P : ⊥ = cc in P)

called_form : (o : Option Form) (arguments : List Expr) (h : Head) → called_head o arguments ≡ Some h → o ≡ Some (form_in h)
called_form None arguments h e = absurd (let P : ⊥ = cc in P)
called_form (Some f) arguments h e = literal_form f arguments h e

attribute_form : (o : Option Attribute) (h : Head) → option_map (λ a. head.attribute a) o ≡ Some h → option_map form.Attribute o ≡ Some (form_in h)
attribute_form None h e = absurd (let P : ⊥ = cc in P)
attribute_form (Some a) h e = known (head.attribute a) h e

pub head_form : (x : Expr-F Expr) (h : Head) → head_of x ≡ Some h → form_of x ≡ Some (form_in h)
head_form (Expr-F.Bool span truth) h e = known (head.bool truth) h e
head_form (Expr-F.Int span number) h e = known (head.int number) h e
head_form (Expr-F.Str span text) h e = known (head.str text) h e
head_form (Expr-F.Name span name) h e = absurd (let P : ⊥ = cc in P)
head_form (Expr-F.Select span base field) h e = attribute_form (attribute_of (out-Expr base) field) h e
head_form (Expr-F.Call span name arguments) h e = called_form (call_form name (length arguments)) arguments h e
head_form (Expr-F.Method span base name arguments) h e = called_form (method_form (out-Expr base) name arguments) arguments h e
head_form (Expr-F.Many span items) h e = known head.list h e
head_form (Expr-F.Not span operand) h e = known head.not h e
head_form (Expr-F.Neg span operand) h e = known head.negative h e
head_form (Expr-F.Two span o left right) h e = known (head.two o) h e
head_form (Expr-F.Pick span condition picked other) h e = known head.pick h e

-- ---- heads whose parts are all evaluated

-- a head whose parts aren't all evaluated
abbrev pub is_lazy : Head → Bool
is_lazy (head.two op.And) = true
is_lazy (head.two op.Or) = true
is_lazy head.pick = true
is_lazy _ = false

not_lazy : (g h : Head) → is_lazy g ≡ false → Some g ≡ Some h → is_lazy h ≡ false
not_lazy g h strict e = sym (ap is_lazy (same_some e)) ∙ strict

part_strict : (p : TimePart) (o : Option ℤ) (h : Head) → option_map (λ m. head.part p m) o ≡ Some h → is_lazy h ≡ false
part_strict p None h e = absurd (let P : ⊥ = cc in P)
part_strict p (Some m) h e = not_lazy (head.part p m) h refl e

literal_strict : (f : Form) (arguments : List Expr) (h : Head) → with_literals f arguments ≡ Some h → is_lazy h ≡ false
literal_strict (form.Tag function) arguments h e = not_lazy (head.tag function (first_text arguments) (second_text arguments)) h refl e
literal_strict form.Modified arguments h e = not_lazy head.modified h refl e
literal_strict form.Timestamp arguments h e = not_lazy head.timestamp h refl e
literal_strict form.Duration arguments h e = not_lazy head.duration h refl e
literal_strict form.StartsWith arguments h e = not_lazy head.starts_with h refl e
literal_strict form.EndsWith arguments h e = not_lazy head.ends_with h refl e
literal_strict form.Extract arguments h e = not_lazy (head.extract (prefix_of (first_text arguments)) (suffix_of (first_text arguments))) h refl e
literal_strict form.HasOnly arguments h e = not_lazy head.has_only h refl e
literal_strict (form.Part p) arguments h e = part_strict p (zone_of arguments) h e
literal_strict _ arguments h e = absurd (let P : ⊥ = cc in P)

pub called_strict : (o : Option Form) (arguments : List Expr) (h : Head) → called_head o arguments ≡ Some h → is_lazy h ≡ false
called_strict None arguments h e = absurd (let P : ⊥ = cc in P)
called_strict (Some f) arguments h e = literal_strict f arguments h e

-- ---- the forms of functions and methods

-- a form of a function or a method
abbrev is_call : Form → Bool
is_call (form.Tag function) = true
is_call form.Modified = true
is_call form.Timestamp = true
is_call form.Duration = true
is_call form.StartsWith = true
is_call form.EndsWith = true
is_call form.Extract = true
is_call form.HasOnly = true
is_call (form.Part p) = true
is_call _ = false

-- if there is a form, it is one of these
abbrev IsCall : Option Form → Type 0
IsCall None = Unit {0}
IsCall (Some f) = is_call f ≡ true

called : (o : Option Form) (f : Form) → IsCall o → o ≡ Some f → is_call f ≡ true
called None f h is = absurd (let P : ⊥ = cc in P)
called (Some g) f h is = sym (ap is_call (same_some is)) ∙ h

either : (b : Bool) (o p : Option Form) → IsCall o → IsCall p → IsCall (cond b o p)
either true o p h i = h
either false o p h i = i

part_called : (o : Option TimePart) → IsCall (option_map form.Part o)
part_called None = tt
part_called (Some part) = refl

call_called : (name : List ℕ) (n : ℕ) → IsCall (call_form name n)
call_called name n = either (n == 1) _ _ (either (bytes_eq name (codes "timestamp")) _ _ refl (either (bytes_eq name (codes "duration")) _ _ refl tt)) tt

own_called : (name : List ℕ) (n : ℕ) → IsCall (own_method name n)
own_called name n =
    either (n == 0) _ _ (part_called (time_part name))
    (either (n == 1) _ _
    (either (bytes_eq name (codes "startsWith")) _ _ refl
    (either (bytes_eq name (codes "endsWith")) _ _ refl
    (either (bytes_eq name (codes "extract")) _ _ refl
    (either (bytes_eq name (codes "hasOnly")) _ _ refl
    (part_called (time_part name))))))
    tt)

modified_called : (arguments : List Expr) → IsCall (modified_form arguments)
modified_called [] = tt
modified_called (a ∷ []) = tt
modified_called (a ∷ b ∷ []) =
    either (is_text (out-Expr a) (codes "iam.googleapis.com/modifiedGrantsByRole") && is_empty_list (out-Expr b)) _ _ refl tt
modified_called (a ∷ b ∷ c ∷ ds) = tt

tag_called : (function : TagFunction) (n : ℕ) → IsCall (tag_form function n)
tag_called function n = either (n == arity function) _ _ refl tt

method_called : (base : Expr-F Expr) (name : List ℕ) (arguments : List Expr) → IsCall (method_form base name arguments)
method_called base name arguments = by (tag_of base name) (is_api base name)
  where
    by : (o : Option TagFunction) (api : Bool) → IsCall (tagged o (length arguments) (cond api (modified_form arguments) (own_method name (length arguments))))
    by (Some function) api = tag_called function (length arguments)
    by None true = modified_called arguments
    by None false = own_called name (length arguments)

-- ---- what fits has a head

-- the head of a node, which is of this form
pub record Headed (x : Expr-F Expr) (f : Form) : Type 0 where
  pub found : Head
  pub is : head_of x ≡ Some found
  pub same : form_in found ≡ f

-- the same of a function or a method
record Literals (o : Option Form) (arguments : List Expr) (f : Form) : Type 0 where
  found : Head
  is : called_head o arguments ≡ Some found
  same : form_in found ≡ f

part_there : (p : TimePart) (arguments : List Expr) (o : Option ℤ) → zone_of arguments ≡ o → is_some o ≡ true → Literals (Some (form.Part p)) arguments (form.Part p)
part_there p arguments None is some = absurd (let P : ⊥ = cc in P)
part_there p arguments (Some m) is some = record { found = head.part p m; is = ap (option_map (λ z. head.part p z)) is; same = refl }

literal_there : (sight : Sight) (f : Form) (arguments : List Expr) → is_call f ≡ true → Fits sight f arguments → Literals (Some f) arguments f
literal_there sight (form.Tag function) arguments c fits = record { found = head.tag function (first_text arguments) (second_text arguments); is = refl; same = refl }
literal_there sight form.Modified arguments c fits = record { found = head.modified; is = refl; same = refl }
literal_there sight form.Timestamp arguments c fits = record { found = head.timestamp; is = refl; same = refl }
literal_there sight form.Duration arguments c fits = record { found = head.duration; is = refl; same = refl }
literal_there sight form.StartsWith arguments c fits = record { found = head.starts_with; is = refl; same = refl }
literal_there sight form.EndsWith arguments c fits = record { found = head.ends_with; is = refl; same = refl }
literal_there sight form.Extract arguments c fits = record { found = head.extract (prefix_of (first_text arguments)) (suffix_of (first_text arguments)); is = refl; same = refl }
literal_there sight form.HasOnly arguments c fits = record { found = head.has_only; is = refl; same = refl }
literal_there sight (form.Part p) arguments c fits = part_there p arguments (zone_of arguments) refl fits.zone
literal_there sight _ arguments c fits = absurd (let P : ⊥ = cc in P)

call_there : (sight : Sight) (o : Option Form) (f : Form) (arguments : List Expr) → IsCall o → o ≡ Some f → Fits sight f arguments → Literals o arguments f
call_there sight o f arguments c is fits =
    let l = literal_there sight f arguments (called o f c is) fits in
    record { found = l.found; is = ap (λ z. called_head z arguments) is ∙ l.is; same = l.same }

attribute_there : (o : Option Attribute) (f : Form) → option_map form.Attribute o ≡ Some f → (h : Head) × (option_map (λ a. head.attribute a) o ≡ Some h) × (form_in h ≡ f)
attribute_there None f is = absurd (let P : ⊥ = cc in P)
attribute_there (Some a) f is = (head.attribute a, refl, same_some is)

pub head_there : (sight : Sight) (x : Expr-F Expr) (f : Form) → form_of x ≡ Some f → Fits sight f (arguments_of x) → Headed x f
head_there sight (Expr-F.Bool span truth) f is fits = record { found = head.bool truth; is = refl; same = same_some is }
head_there sight (Expr-F.Int span number) f is fits = record { found = head.int number; is = refl; same = same_some is }
head_there sight (Expr-F.Str span text) f is fits = record { found = head.str text; is = refl; same = same_some is }
head_there sight (Expr-F.Name span name) f is fits = absurd (let P : ⊥ = cc in P)
head_there sight (Expr-F.Select span base field) f is fits =
    let a = attribute_there (attribute_of (out-Expr base) field) f is in record { found = a.0; is = a.1; same = a.2 }
head_there sight (Expr-F.Call span name arguments) f is fits =
    let l = call_there sight (call_form name (length arguments)) f arguments (call_called name (length arguments)) is fits in
    record { found = l.found; is = l.is; same = l.same }
head_there sight (Expr-F.Method span base name arguments) f is fits =
    let l = call_there sight (method_form (out-Expr base) name arguments) f arguments (method_called (out-Expr base) name arguments) is fits in
    record { found = l.found; is = l.is; same = l.same }
head_there sight (Expr-F.Many span items) f is fits = record { found = head.list; is = refl; same = same_some is }
head_there sight (Expr-F.Not span operand) f is fits = record { found = head.not; is = refl; same = same_some is }
head_there sight (Expr-F.Neg span operand) f is fits = record { found = head.negative; is = refl; same = same_some is }
head_there sight (Expr-F.Two span o left right) f is fits = record { found = head.two o; is = refl; same = same_some is }
head_there sight (Expr-F.Pick span condition picked other) f is fits = record { found = head.pick; is = refl; same = same_some is }

pub has_head : {sight : Sight} {e : Expr} {k : Kind} → HasKind sight e k → (h : Head) × (head_of (out-Expr e) ≡ Some h)
has_head {sight} {e} (rule.node {f = f} plain is fits have from) = let h = head_there sight (out-Expr e) f is fits in (h.found, h.is)
