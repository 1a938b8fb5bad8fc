-- The narrowest sort that a tree is derived from.
use Rattle.cel_tree.specs.declared.tree.Expr.{Expr, fold-Expr}
use Rattle.cel_tree.specs.declared.tree.Expr.TheOpen.{Expr-F}
use Rattle.cel_grammar.specs.declared.level.Sort.{Sort}
use Rattle.cel_grammar.specs.declared.level.Sort.TheVariants.{Whole, Binary, Nots, Negs, Member, Primary}
use Rattle.cel_shown.specs.Shown.{level_of}

abbrev pub layer_own : Expr-F Sort → Sort
layer_own (Expr-F.Bool span truth) = Primary
layer_own (Expr-F.Int span n) = Primary
layer_own (Expr-F.Str span text) = Primary
layer_own (Expr-F.Name span name) = Primary
layer_own (Expr-F.Select span a field) = Member
layer_own (Expr-F.Call span name es) = Primary
layer_own (Expr-F.Method span a name es) = Member
layer_own (Expr-F.Many span es) = Primary
layer_own (Expr-F.Not span a) = Nots
layer_own (Expr-F.Neg span a) = Negs
layer_own (Expr-F.Two span o a b) = Binary (level_of o)
layer_own (Expr-F.Pick span c a b) = Whole

abbrev pub own : Expr → Sort
own = fold-Expr Sort layer_own
