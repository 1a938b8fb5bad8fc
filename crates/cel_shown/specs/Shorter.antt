-- What is written needs no more tokens and no more brackets than what it was read from.
use Rattle.std.specs.Prelude.{◌≤◌, List, length}
use Rattle.cel_tree.specs.declared.token.Token.{Token}
use Rattle.cel_grammar.specs.Depth.{deepest}

pub record NoLarger (tokens others : List Token) : Type 0 where
  pub shorter : length tokens ≤ length others
  pub shallower : deepest 0 tokens ≤ deepest 0 others
