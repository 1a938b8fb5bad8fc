-- Brackets that are open, counted along the tokens.
use Rattle.std.proofs.Common.{ℕ, ◌+◌, ◌≤◌, List, [], ◌∷◌, arith}
use Rattle.cel_tree.specs.declared.token.Token.{Token}
use Rattle.cel_tree.specs.declared.token.Sign.TheVariants as sign
use Rattle.cel_tree.specs.declared.token.TokenKind.{TokenKind}
use Rattle.cel_tree.specs.declared.token.TokenKind.TheVariants as kind
use Rattle.cel_grammar.specs.Depth.{deepest, opened}

pub at_least : (n : ℕ) (ts : List Token) → n ≤ deepest n ts
at_least n [] = omega arith
at_least n (t ∷ ts) = omega arith

pub opened_little : (n : ℕ) (k : TokenKind) → opened n k ≤ n + 1
opened_little n (kind.Sign sign.OpenParenthesis) = omega arith
opened_little n (kind.Sign sign.OpenBracket) = omega arith
opened_little n (kind.Sign sign.CloseParenthesis) = omega arith
opened_little n (kind.Sign sign.CloseBracket) = omega arith
opened_little n _ = omega arith
