-- Positions in a list of tokens.
use Rattle.std.specs.Prelude.{◌≡◌, ℕ, Bool, true, false, List, [], ◌∷◌}
use Rattle.cel_tree.specs.declared.tree.Span.{Span}
use Rattle.cel_tree.specs.declared.token.Token.{Token}
use Rattle.cel_tree.specs.declared.token.TokenKind.{TokenKind}
use Rattle.cel_tree.specs.declared.token.TokenKind.TheVariants as kind

-- the tokens from the position on, and where the last token before it ends
pub record Position : Type 0 where
  pub last : ℕ
  pub rest : List Token

abbrev pub start_of : List Token → Position
start_of tokens = record { last = 0; rest = tokens }

-- where the first of the tokens begins
abbrev pub first_from : ℕ → List Token → ℕ
first_from last [] = last
first_from last (t ∷ rest) = t.span.from

abbrev pub from : Position → ℕ
from i = first_from i.last i.rest

-- from the first to the last byte of what stands between two positions
abbrev pub span : Position → Position → Span
span i j = record { from = from i; to = j.last }

abbrev pub TakesFirst : TokenKind → List Token → Position → Type 0
TakesFirst k [] j = ⊥
TakesFirst k (t ∷ rest) j = (t.kind ≡ k) × (j ≡ record { last = t.span.to; rest = rest })

-- one token of this kind stands between the two positions
pub record Takes (k : TokenKind) (i j : Position) : Type 0 where
  pub taken : TakesFirst k i.rest j

-- the next token is a number
abbrev pub is_number : TokenKind → Bool
is_number (kind.Number n) = true
is_number _ = false

abbrev pub starts_with_number : List Token → Bool
starts_with_number [] = false
starts_with_number (t ∷ rest) = is_number t.kind

abbrev pub sees_number : Position → Bool
sees_number i = starts_with_number i.rest
