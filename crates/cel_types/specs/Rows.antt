-- The kind of a node from the kinds of its parts, as it is computed.
use Rattle.std.specs.Prelude.{◌&&◌, if◌then◌else◌, Option, Some, None, List, [], ◌∷◌}
use Rattle.std.specs.List.{list_all}
use Rattle.cel_tree.specs.declared.tree.Op.{Op}
use Rattle.cel_tree.specs.declared.tree.Op.TheVariants as op
use Rattle.cel_types.specs.declared.form.Form.{Form}
use Rattle.cel_types.specs.declared.form.Form.TheVariants as form
use Rattle.cel_types.specs.declared.kind.Base.TheVariants as base
use Rattle.cel_types.specs.declared.kind.Kind.{Kind}
use Rattle.cel_types.specs.declared.kind.Kind.TheVariants.{One, Many}
use Rattle.cel_types.specs.Kinds.{truth, int, str, time, length, strs, is_kind, attribute_kind}

-- one part, of one kind
abbrev pub from_one : Kind → Kind → List Kind → Option Kind
from_one operand gives (k ∷ []) = if is_kind k operand then Some gives else None
from_one operand gives _ = None

-- two parts, of the kinds of a row, which gives its third kind
abbrev pub look_up : List (Kind × Kind × Kind) → Kind → Kind → Option Kind
look_up [] k l = None
look_up (row ∷ rows) k l = if is_kind k row.0 && is_kind l row.1 then Some row.2 else look_up rows k l

abbrev pub from_two : List (Kind × Kind × Kind) → List Kind → Option Kind
from_two rows (k ∷ l ∷ []) = look_up rows k l
from_two rows _ = None

abbrev pub sums : List (Kind × Kind × Kind)
sums = (int, int, int) ∷ (str, str, str) ∷ (time, length, time) ∷ (length, time, time) ∷ (length, length, length) ∷ []

abbrev pub differences : List (Kind × Kind × Kind)
differences = (int, int, int) ∷ (time, length, time) ∷ (time, time, length) ∷ (length, length, length) ∷ []

abbrev pub orders : List (Kind × Kind × Kind)
orders = (int, int, truth) ∷ (str, str, truth) ∷ (time, time, truth) ∷ (length, length, truth) ∷ []

abbrev pub members : List (Kind × Kind × Kind)
members =
    (truth, Many base.Bool, truth) ∷ (int, Many base.Int, truth) ∷ (str, Many base.Str, truth)
    ∷ (time, Many base.Time, truth) ∷ (length, Many base.Length, truth) ∷ []

abbrev pub equal_kind : List Kind → Option Kind
equal_kind (k ∷ l ∷ []) = if is_kind k l then Some truth else None
equal_kind _ = None

abbrev pub operator_kind : Op → List Kind → Option Kind
operator_kind op.Or ks = from_two ((truth, truth, truth) ∷ []) ks
operator_kind op.And ks = from_two ((truth, truth, truth) ∷ []) ks
operator_kind op.Lt ks = from_two orders ks
operator_kind op.Le ks = from_two orders ks
operator_kind op.Gt ks = from_two orders ks
operator_kind op.Ge ks = from_two orders ks
operator_kind op.Eq ks = equal_kind ks
operator_kind op.Ne ks = equal_kind ks
operator_kind op.In ks = from_two members ks
operator_kind op.Add ks = from_two sums ks
operator_kind op.Sub ks = from_two differences ks
operator_kind op.Mul ks = from_two ((int, int, int) ∷ []) ks
operator_kind op.Div ks = from_two ((int, int, int) ∷ []) ks
operator_kind op.Rem ks = from_two ((int, int, int) ∷ []) ks

abbrev pub many_of : Kind → Option Kind
many_of (One b) = Some (Many b)
many_of (Many b) = None

-- items of one single kind; the empty list is one of texts
abbrev pub list_kind : List Kind → Option Kind
list_kind [] = Some strs
list_kind (k ∷ ks) = if list_all (λ l. is_kind k l) ks then many_of k else None

abbrev pub choice_kind : List Kind → Option Kind
choice_kind (condition ∷ k ∷ l ∷ []) = if is_kind condition truth && is_kind k l then Some k else None
choice_kind _ = None

-- a part of a time, maybe in a zone
abbrev pub part_kind : List Kind → Option Kind
part_kind (k ∷ []) = from_one time int (k ∷ [])
part_kind ks = from_two ((time, str, int) ∷ []) ks

-- the kind of a node of this form whose parts have these kinds
abbrev pub kind_from : Form → List Kind → Option Kind
kind_from form.Bool ks = Some truth
kind_from form.Int ks = Some int
kind_from form.Str ks = Some str
kind_from (form.Attribute attribute) ks = Some (attribute_kind attribute)
kind_from (form.Tag function) ks = Some truth
kind_from form.Modified ks = Some strs
kind_from form.Timestamp ks = from_one str time ks
kind_from form.Duration ks = from_one str length ks
kind_from form.StartsWith ks = from_two ((str, str, truth) ∷ []) ks
kind_from form.EndsWith ks = from_two ((str, str, truth) ∷ []) ks
kind_from form.Extract ks = from_two ((str, str, str) ∷ []) ks
kind_from form.HasOnly ks = from_two ((strs, strs, truth) ∷ []) ks
kind_from (form.Part part) ks = part_kind ks
kind_from form.List ks = list_kind ks
kind_from form.Not ks = from_one truth truth ks
kind_from form.Neg ks = from_one int int ks
kind_from (form.Two op) ks = operator_kind op ks
kind_from form.Pick ks = choice_kind ks
