use Rattle.std.proofs.Common.{◌≡◌, ◌++◌, drop, map}
use Rattle.cel_shown.specs.Shown.{shown, separated}
use Rattle.cel_shown.specs.Spelled.{bytes_of}
use Rattle.cel_print.proofs.Bytes.{followed}
use Rattle.cel_print.proofs.trees.+write.Given as goal

abbrev pub invariant-list-loop-expr : goal.invariant-list-loop-expr
invariant-list-loop-expr l =
    l.out ++ bytes_of (followed (map shown (drop l.expr-index l.rest))) ≡ l.fn.out ++ bytes_of (separated (map shown l.fn.exprs))
