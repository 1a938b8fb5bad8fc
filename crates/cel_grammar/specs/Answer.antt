-- What the reader answers where there is a tree.
use Rattle.std.specs.Prelude.{◌≡◌, Result, Ok, Err}
use Rattle.cel_tree.specs.declared.tree.Expr.{Expr}
use Rattle.cel_grammar.specs.declared.stop.Stop.{Stop}
use Rattle.cel_grammar.specs.declared.stop.Stop.TheVariants.{OutOfMemory, NotAnExpression}

-- where a is the tree: it is given, unless memory runs out
abbrev pub Gives : Expr → Result Expr Stop → Type 0
Gives a (Ok b) = b ≡ a
Gives a (Err OutOfMemory) = Unit {0}
Gives a (Err NotAnExpression) = ⊥
