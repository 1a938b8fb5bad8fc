-- What is printed, cut again.
use Rattle.std.specs.Prelude.{◌≡◌, List, length, Ok}
use Rattle.cel_tree.specs.declared.token.Token.{Token}
use Rattle.cel_lexer.specs.declared.seen.Seen.TheVariants.{Opening}
use Rattle.cel_lexer.specs.Cut.{Cut}
use Rattle.cel_shown.specs.Shown.{Piece, kinds_of, tokens_of}
use Rattle.cel_shown.specs.Spelled.{bytes_of}

-- the text of the pieces is cut into tokens of the pieces' kinds
pub record IsCut (ps : List Piece) : Type 0 where
  pub tokens : List Token
  pub cut : Cut (length (bytes_of ps)) Opening (bytes_of ps) (Ok tokens)
  pub same : kinds_of tokens ≡ tokens_of ps
