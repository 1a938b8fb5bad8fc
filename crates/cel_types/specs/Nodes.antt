-- The kind of a node as a function of the kinds of its parts, which the checker computes.
use Rattle.std.specs.Prelude.{◌≡◌, fold, not, if◌then◌else◌, Option, Some, None, List, [], ◌∷◌, Result, Ok, Err}
use Rattle.cel_tree.specs.declared.tree.Expr.{Expr}
use Rattle.cel_tree.specs.declared.tree.Expr.TheOpen.{Expr-F}
use Rattle.cel_types.specs.declared.checking.TypeKind.{TypeKind}
use Rattle.cel_types.specs.declared.checking.TypeKind.TheVariants.{UnknownName, NotHere, NotLiteral, BadTemplate, BadZone, WrongKind}
use Rattle.cel_types.specs.declared.form.Form.{Form}
use Rattle.cel_types.specs.declared.kind.Kind.{Kind}
use Rattle.cel_types.specs.Sight.{Sight}
use Rattle.cel_types.specs.Arguments.{arguments_of, has_literals, has_template, has_zone}
use Rattle.cel_types.specs.Forms.{form_of}
use Rattle.cel_types.specs.HasKind.{HaveKinds}
use Rattle.cel_types.specs.Kinds.{is_kind}
use Rattle.cel_types.specs.Places.{stands_in}
use Rattle.cel_types.specs.Rows.{kind_from}

abbrev pub kind_or_fault : Option Kind → Result Kind TypeKind
kind_or_fault None = Err WrongKind
kind_or_fault (Some k) = Ok k

-- what is wrong with a form that may not stand here with these arguments, else the kind, if there is one
abbrev pub fitting : Sight → Form → List Expr → Option Kind → Result Kind TypeKind
fitting sight f arguments kind =
    if not (stands_in sight.place f) then Err NotHere
    else (if not (has_literals f arguments) then Err NotLiteral
    else (if not (has_template f arguments) then Err BadTemplate
    else (if not (has_zone f arguments) then Err BadZone else kind_or_fault kind)))

abbrev pub form_kind : Option Form → Sight → List Expr → List Kind → Result Kind TypeKind
form_kind None sight arguments ks = Err UnknownName
form_kind (Some f) sight arguments ks = fitting sight f arguments (kind_from f ks)

abbrev pub node_kind : Sight → Expr-F Expr → List Kind → Result Kind TypeKind
node_kind sight e ks = form_kind (form_of e) sight (arguments_of e) ks

-- the second kind where it differs from the first, else the one so far
abbrev pub differing : Kind → Kind → Kind → Kind
differing first so_far k = if is_kind first k then so_far else k

-- the first of some kinds, and one of them that differs from it, where there is one
abbrev pub kept : List Kind → Option (Kind × Kind)
kept [] = None
kept (first ∷ ks) = Some (first, fold (differing first) first ks)

-- what is kept of the kinds of a list of nodes
abbrev pub Keeps : Sight → List Expr → Option (Kind × Kind) → Type 0
Keeps sight exprs pair = (ks : List Kind) × HaveKinds sight exprs ks × (pair ≡ kept ks)
