-- The literals that some forms take as arguments.
use Rattle.std.specs.Prelude.{ℕ, Bool, true, false, is_some, List, [], ◌∷◌, Option, Some, ℤ, pos}
use Rattle.std.specs.List.{list_all}
use Rattle.cel_tree.specs.declared.tree.Expr.{Expr, out-Expr}
use Rattle.cel_tree.specs.declared.tree.Expr.TheOpen.{Expr-F}
use Rattle.cel_types.specs.declared.form.Form.{Form}
use Rattle.cel_types.specs.declared.form.Form.TheVariants as form
use Rattle.cel_types.specs.Template.{is_template}
use Rattle.cel_types.specs.Zone.{zone_minutes}

-- the arguments of a call or a method
abbrev pub arguments_of : Expr-F Expr → List Expr
arguments_of (Expr-F.Call span name arguments) = arguments
arguments_of (Expr-F.Method span base name arguments) = arguments
arguments_of _ = []

abbrev pub is_literal : Expr-F Expr → Bool
is_literal (Expr-F.Str span text) = true
is_literal _ = false

abbrev pub are_literals : List Expr → Bool
are_literals exprs = list_all (λ e. is_literal (out-Expr e)) exprs

-- the text of a string literal
abbrev pub literal_text : Expr-F Expr → List ℕ
literal_text (Expr-F.Str span text) = text
literal_text _ = []

-- the texts of the first argument and of the second
abbrev pub first_text : List Expr → List ℕ
first_text (e ∷ es) = literal_text (out-Expr e)
first_text [] = []

abbrev pub second_text : List Expr → List ℕ
second_text (d ∷ e ∷ es) = literal_text (out-Expr e)
second_text _ = []

-- how many minutes the zone that is given is ahead of UTC, where it is one; without an argument it is UTC
abbrev pub zone_of : List Expr → Option ℤ
zone_of [] = Some (pos 0)
zone_of (e ∷ es) = zone_minutes (literal_text (out-Expr e))

-- the arguments are string literals, where the form asks for that
abbrev pub has_literals : Form → List Expr → Bool
has_literals (form.Tag function) arguments = are_literals arguments
has_literals form.Extract arguments = are_literals arguments
has_literals (form.Part part) arguments = are_literals arguments
has_literals _ arguments = true

-- the argument of `extract` is a template
abbrev pub has_template : Form → List Expr → Bool
has_template form.Extract arguments = is_template (first_text arguments)
has_template _ arguments = true

-- the argument of `getHours` and the like is a zone
abbrev pub has_zone : Form → List Expr → Bool
has_zone (form.Part part) arguments = is_some (zone_of arguments)
has_zone _ arguments = true
