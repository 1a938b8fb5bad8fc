-- How many brackets are open at once. Text whose brackets don't balance has a depth too: an opening bracket counts up, and any
-- closing one down, never below 0.
use Rattle.std.specs.Prelude.{ℕ, ◌+◌, ◌-◌, max, List, [], ◌∷◌}
use Rattle.cel_tree.specs.declared.token.Sign.TheVariants as sign
use Rattle.cel_tree.specs.declared.token.Token.{Token}
use Rattle.cel_tree.specs.declared.token.TokenKind.{TokenKind}
use Rattle.cel_tree.specs.declared.token.TokenKind.TheVariants as kind

-- how many are open behind a token, where n are open before it
abbrev pub opened : ℕ → TokenKind → ℕ
opened n (kind.Sign sign.OpenParenthesis) = n + 1
opened n (kind.Sign sign.OpenBracket) = n + 1
opened n (kind.Sign sign.CloseParenthesis) = n - 1
opened n (kind.Sign sign.CloseBracket) = n - 1
opened n _ = n

-- the most that are open at once, where n are open already
abbrev pub deepest : ℕ → List Token → ℕ
deepest n [] = n
deepest n (t ∷ ts) = max n (deepest (opened n t.kind) ts)
