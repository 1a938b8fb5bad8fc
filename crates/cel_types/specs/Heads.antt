-- Heads of nodes: what a node is with its literals done, without its parts and without the tree that it stands in.
use Rattle.std.specs.Prelude.{ℕ, Bool, ℤ, Option, Some, None, List, length}
use Rattle.std.specs.Option.{option_map}
use Rattle.cel_tree.specs.declared.tree.Expr.{Expr, out-Expr}
use Rattle.cel_tree.specs.declared.tree.Expr.TheOpen.{Expr-F}
use Rattle.cel_tree.specs.declared.tree.Op.{Op}
use Rattle.cel_types.specs.declared.form.Attribute.{Attribute}
use Rattle.cel_types.specs.declared.form.Form.{Form}
use Rattle.cel_types.specs.declared.form.Form.TheVariants as form
use Rattle.cel_types.specs.declared.form.TagFunction.{TagFunction}
use Rattle.cel_types.specs.declared.form.TimePart.{TimePart}
use Rattle.cel_types.specs.Arguments.{first_text, second_text, zone_of}
use Rattle.cel_types.specs.Extract.{prefix_of, suffix_of}
use Rattle.cel_types.specs.Forms.{attribute_of, call_form, method_form}

pub data Head : Type 0 where
  bool : Bool → Head
  int : ℤ → Head
  str : List ℕ → Head
  attribute : Attribute → Head
  -- the key, and what its value is to be, which is empty where the function asks for none
  tag : TagFunction → List ℕ → List ℕ → Head
  modified : Head
  timestamp : Head
  duration : Head
  starts_with : Head
  ends_with : Head
  -- what stands before the name in the template, and behind it
  extract : List ℕ → List ℕ → Head
  has_only : Head
  -- how many minutes the zone is ahead of UTC
  part : TimePart → ℤ → Head
  list : Head
  not : Head
  negative : Head
  two : Op → Head
  pick : Head

-- the head of a function or method of a form: its literal arguments are done. Other forms are none of a function
abbrev pub with_literals : Form → List Expr → Option Head
with_literals (form.Tag function) arguments = Some (tag function (first_text arguments) (second_text arguments))
with_literals form.Modified arguments = Some modified
with_literals form.Timestamp arguments = Some timestamp
with_literals form.Duration arguments = Some duration
with_literals form.StartsWith arguments = Some starts_with
with_literals form.EndsWith arguments = Some ends_with
with_literals form.Extract arguments = Some (extract (prefix_of (first_text arguments)) (suffix_of (first_text arguments)))
with_literals form.HasOnly arguments = Some has_only
with_literals (form.Part p) arguments = option_map (λ minutes. part p minutes) (zone_of arguments)
with_literals form.Bool arguments = None
with_literals form.Int arguments = None
with_literals form.Str arguments = None
with_literals (form.Attribute a) arguments = None
with_literals form.List arguments = None
with_literals form.Not arguments = None
with_literals form.Neg arguments = None
with_literals (form.Two o) arguments = None
with_literals form.Pick arguments = None

abbrev pub called_head : Option Form → List Expr → Option Head
called_head None arguments = None
called_head (Some f) arguments = with_literals f arguments

-- the head of a node, if it is one of a form with literals that can be read
abbrev pub head_of : Expr-F Expr → Option Head
head_of (Expr-F.Bool span truth) = Some (bool truth)
head_of (Expr-F.Int span number) = Some (int number)
head_of (Expr-F.Str span text) = Some (str text)
head_of (Expr-F.Name span name) = None
head_of (Expr-F.Select span base field) = option_map (λ a. attribute a) (attribute_of (out-Expr base) field)
head_of (Expr-F.Call span name arguments) = called_head (call_form name (length arguments)) arguments
head_of (Expr-F.Method span base name arguments) = called_head (method_form (out-Expr base) name arguments) arguments
head_of (Expr-F.Many span items) = Some list
head_of (Expr-F.Not span operand) = Some not
head_of (Expr-F.Neg span operand) = Some negative
head_of (Expr-F.Two span o left right) = Some (two o)
head_of (Expr-F.Pick span condition picked other) = Some pick
