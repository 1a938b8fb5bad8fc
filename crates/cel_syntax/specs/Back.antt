-- What is printed is read again.
use Rattle.std.specs.Prelude.{◌≡◌, ◌≤◌, ℕ, List, length}
use Rattle.cel_tree.specs.declared.tree.Expr.{Expr}
use Rattle.cel_tree.specs.Tree.{unplaced}
use Rattle.cel_syntax.specs.CelText.{most_bytes, CelText}

-- the text has a tree that is the given one but for spans
pub record IsTextOf (e : Expr) (text : List ℕ) : Type 0 where
  pub tree : Expr
  pub is : CelText text tree
  pub same : unplaced tree ≡ unplaced e

-- a printed text that is not too long is read again
abbrev pub ReadsBack : Expr → List ℕ → Type 0
ReadsBack e printed = length printed ≤ most_bytes → IsTextOf e printed
