-- Which forms stand in which place.
use Rattle.std.specs.Prelude.{Bool, true, false, not}
use Rattle.cel_tree.specs.declared.tree.Op.TheVariants as op
use Rattle.cel_types.specs.declared.form.Attribute.{Attribute}
use Rattle.cel_types.specs.declared.form.Attribute.TheVariants.{PrincipalType, PrincipalSubject}
use Rattle.cel_types.specs.declared.form.Form.{Form}
use Rattle.cel_types.specs.declared.form.Form.TheVariants as form
use Rattle.cel_types.specs.declared.kind.Place.{Place}
use Rattle.cel_types.specs.declared.kind.Place.TheVariants.{Allow, Deny, Binding}

abbrev pub is_principal : Attribute → Bool
is_principal PrincipalType = true
is_principal PrincipalSubject = true
is_principal _ = false

-- an allow policy's condition has all but the principal's attributes
abbrev pub stands_in_allow : Form → Bool
stands_in_allow (form.Attribute attribute) = not (is_principal attribute)
stands_in_allow _ = true

-- a deny rule's condition has only tag functions, `&&`, `||` and `!`
abbrev pub stands_in_deny : Form → Bool
stands_in_deny (form.Tag function) = true
stands_in_deny form.Not = true
stands_in_deny (form.Two op.And) = true
stands_in_deny (form.Two op.Or) = true
stands_in_deny _ = false

-- a boundary binding's condition has all but what begins with `resource`, `request` and `api`
abbrev pub stands_in_binding : Form → Bool
stands_in_binding (form.Attribute attribute) = is_principal attribute
stands_in_binding (form.Tag function) = false
stands_in_binding form.Modified = false
stands_in_binding _ = true

abbrev pub stands_in : Place → Form → Bool
stands_in Allow f = stands_in_allow f
stands_in Deny f = stands_in_deny f
stands_in Binding f = stands_in_binding f
