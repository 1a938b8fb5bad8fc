-- Words over trees, each by one layer and the fold over it.
use Rattle.std.specs.Prelude.{ℕ, ◌+◌, sum}
use Rattle.cel_tree.specs.declared.tree.Span.{Span}
use Rattle.cel_tree.specs.declared.tree.Expr.{Expr, fold-Expr}
use Rattle.cel_tree.specs.declared.tree.Expr.TheOpen.{Expr-F}
use Rattle.cel_tree.specs.declared.tree.Expr.TheVariants as tree

-- where a node stands in its text
abbrev pub layer_span : Expr-F Span → Span
layer_span (Expr-F.Bool span truth) = span
layer_span (Expr-F.Int span number) = span
layer_span (Expr-F.Str span text) = span
layer_span (Expr-F.Name span name) = span
layer_span (Expr-F.Select span operand field) = span
layer_span (Expr-F.Call span name arguments) = span
layer_span (Expr-F.Method span operand name arguments) = span
layer_span (Expr-F.Many span items) = span
layer_span (Expr-F.Not span operand) = span
layer_span (Expr-F.Neg span operand) = span
layer_span (Expr-F.Two span op left right) = span
layer_span (Expr-F.Pick span condition if_true if_false) = span

abbrev pub span_of : Expr → Span
span_of = fold-Expr Span layer_span

-- the tree without its spans: two trees are the same but for spans where these are equal
abbrev pub nowhere : Span
nowhere = record { from = 0; to = 0 }

abbrev pub layer_unplaced : Expr-F Expr → Expr
layer_unplaced (Expr-F.Bool span truth) = tree.Bool nowhere truth
layer_unplaced (Expr-F.Int span number) = tree.Int nowhere number
layer_unplaced (Expr-F.Str span text) = tree.Str nowhere text
layer_unplaced (Expr-F.Name span name) = tree.Name nowhere name
layer_unplaced (Expr-F.Select span operand field) = tree.Select nowhere operand field
layer_unplaced (Expr-F.Call span name arguments) = tree.Call nowhere name arguments
layer_unplaced (Expr-F.Method span operand name arguments) = tree.Method nowhere operand name arguments
layer_unplaced (Expr-F.Many span items) = tree.Many nowhere items
layer_unplaced (Expr-F.Not span operand) = tree.Not nowhere operand
layer_unplaced (Expr-F.Neg span operand) = tree.Neg nowhere operand
layer_unplaced (Expr-F.Two span op left right) = tree.Two nowhere op left right
layer_unplaced (Expr-F.Pick span condition if_true if_false) = tree.Pick nowhere condition if_true if_false

abbrev pub unplaced : Expr → Expr
unplaced = fold-Expr Expr layer_unplaced

-- how many nodes there are
abbrev pub layer_size : Expr-F ℕ → ℕ
layer_size (Expr-F.Bool span truth) = 1
layer_size (Expr-F.Int span number) = 1
layer_size (Expr-F.Str span text) = 1
layer_size (Expr-F.Name span name) = 1
layer_size (Expr-F.Select span operand field) = operand + 1
layer_size (Expr-F.Call span name arguments) = sum arguments + 1
layer_size (Expr-F.Method span operand name arguments) = operand + sum arguments + 1
layer_size (Expr-F.Many span items) = sum items + 1
layer_size (Expr-F.Not span operand) = operand + 1
layer_size (Expr-F.Neg span operand) = operand + 1
layer_size (Expr-F.Two span op left right) = left + right + 1
layer_size (Expr-F.Pick span condition if_true if_false) = condition + if_true + if_false + 1

abbrev pub size : Expr → ℕ
size = fold-Expr ℕ layer_size
