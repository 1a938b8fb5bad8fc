-- A condition as contracts see it.
use Rattle.cel_tree.specs.declared.tree.Expr.{Expr}
use Rattle.cel_types.specs.declared.kind.Place.{Place}

pub record Condition : Type 0 where
  pub expr : Expr
  pub place : Place
