-- How a tree is written: the tokens, and the blanks between them.
use Rattle.std.specs.Prelude.{ℕ, zero, suc, ℤ, pos, negsuc, Bool, true, false, if◌then◌else◌, nat_le, List, [], ◌∷◌, ◌++◌, map}
use Rattle.cel_tree.specs.declared.tree.Op.{Op}
use Rattle.cel_tree.specs.declared.tree.Op.TheVariants as op
use Rattle.cel_tree.specs.declared.tree.Expr.{Expr, fold-Expr}
use Rattle.cel_tree.specs.declared.tree.Expr.TheOpen.{Expr-F}
use Rattle.cel_tree.specs.declared.token.Sign.{Sign}
use Rattle.cel_tree.specs.declared.token.Sign.TheVariants as sign
use Rattle.cel_tree.specs.declared.token.Token.{Token}
use Rattle.cel_tree.specs.declared.token.TokenKind.{TokenKind}
use Rattle.cel_tree.specs.declared.token.TokenKind.TheVariants as kind
use Rattle.cel_grammar.specs.declared.level.Level.{Level}
use Rattle.cel_grammar.specs.declared.level.Level.TheVariants.{Or, And, Rel, Add, Mul}
use Rattle.cel_grammar.specs.Position.{Position, Takes}
use Rattle.cel_grammar.specs.declared.level.Sort.{Sort}
use Rattle.cel_grammar.specs.declared.level.Sort.TheVariants.{Whole, Binary, Unary, Nots, Negs, Member, Primary}
use Rattle.cel_grammar.specs.Grammar.{operand}

-- one blank, or one token
pub data Piece : Type 0 where
  Blank : Piece
  Word : TokenKind → Piece

abbrev pub signed : Sign → Piece
signed x = Word (kind.Sign x)

abbrev pub level_of : Op → Level
level_of op.Or = Or
level_of op.And = And
level_of op.Lt = Rel
level_of op.Le = Rel
level_of op.Gt = Rel
level_of op.Ge = Rel
level_of op.Eq = Rel
level_of op.Ne = Rel
level_of op.In = Rel
level_of op.Add = Add
level_of op.Sub = Add
level_of op.Mul = Mul
level_of op.Div = Mul
level_of op.Rem = Mul

abbrev pub sign_of : Op → Sign
sign_of op.Or = sign.OrOr
sign_of op.And = sign.AndAnd
sign_of op.Lt = sign.Less
sign_of op.Le = sign.LessEqual
sign_of op.Gt = sign.Greater
sign_of op.Ge = sign.GreaterEqual
sign_of op.Eq = sign.EqualEqual
sign_of op.Ne = sign.NotEqual
sign_of op.In = sign.In
sign_of op.Add = sign.Plus
sign_of op.Sub = sign.Minus
sign_of op.Mul = sign.Star
sign_of op.Div = sign.Slash
sign_of op.Rem = sign.Percent

-- the larger, the more may stand there without brackets
abbrev pub width : Sort → ℕ
width Whole = 9
width (Binary Or) = 8
width (Binary And) = 7
width (Binary Rel) = 6
width (Binary Add) = 5
width (Binary Mul) = 4
width Unary = 3
width Nots = 2
width Negs = 2
width Member = 1
width Primary = 0

-- what is derived from the first sort is derived from the second
abbrev pub within : Sort → Sort → Bool
within Nots Negs = false
within Negs Nots = false
within own s = nat_le (width own) (width s)

abbrev pub bracketed : List Piece → List Piece
bracketed ps = signed sign.OpenParenthesis ∷ (ps ++ signed sign.CloseParenthesis ∷ [])

-- How something is written in a place of each sort. The test says that a minus stands directly before it.
abbrev pub Writing : Type 0
Writing = Sort → Bool → List Piece

-- as it stands where its own sort fits, else in brackets
abbrev pub placed : Sort → (Bool → List Piece) → Writing
placed own f s after_minus = if within own s then f after_minus else bracketed (f false)

-- Directly behind a minus a number would be part of a literal with it, so it stands in brackets there.
-- Only 0 is also the literal `-0`.
abbrev pub number : ℤ → Bool → List Piece
number (pos n) false = Word (kind.Number n) ∷ []
number (pos zero) true = signed sign.Minus ∷ Word (kind.Number 0) ∷ []
number (pos (suc n)) true = bracketed (Word (kind.Number (suc n)) ∷ [])
number (negsuc n) after_minus = signed sign.Minus ∷ Word (kind.Number (suc n)) ∷ []

-- with a comma and a blank between
abbrev pub separated : List Writing → List Piece
separated [] = []
separated (a ∷ []) = a Whole false
separated (a ∷ b ∷ es) = a Whole false ++ (signed sign.Comma ∷ Blank ∷ separated (b ∷ es))

-- behind an opening bracket, with the closing one
abbrev pub closed_by : Sign → List Writing → List Piece
closed_by x es = separated es ++ signed x ∷ []

-- with a blank on both sides
abbrev pub spaced : Sign → List Piece → List Piece
spaced x ps = Blank ∷ signed x ∷ Blank ∷ ps

-- one level, where each child says how it is written
abbrev pub layer_shown : Expr-F Writing → Writing
layer_shown (Expr-F.Bool span truth) = λ s m. Word (kind.Truth truth) ∷ []
layer_shown (Expr-F.Int span n) = λ s m. number n m
layer_shown (Expr-F.Str span text) = λ s m. Word (kind.Str text) ∷ []
layer_shown (Expr-F.Name span name) = λ s m. Word (kind.Name name) ∷ []
layer_shown (Expr-F.Select span a field) =
    placed Member (λ m. a Member m ++ (signed sign.Dot ∷ Word (kind.Name field) ∷ []))
layer_shown (Expr-F.Call span name es) =
    λ s m. Word (kind.Name name) ∷ signed sign.OpenParenthesis ∷ closed_by sign.CloseParenthesis es
layer_shown (Expr-F.Method span a name es) =
    placed Member
    (λ m. a Member m
    ++ (signed sign.Dot ∷ Word (kind.Name name) ∷ signed sign.OpenParenthesis ∷ closed_by sign.CloseParenthesis es))
layer_shown (Expr-F.Many span es) = λ s m. signed sign.OpenBracket ∷ closed_by sign.CloseBracket es
layer_shown (Expr-F.Not span a) = placed Nots (λ m. signed sign.Bang ∷ a Nots false)
layer_shown (Expr-F.Neg span a) = placed Negs (λ m. signed sign.Minus ∷ a Negs true)
layer_shown (Expr-F.Two span o a b) =
    placed (Binary (level_of o))
    (λ m. a (Binary (level_of o)) false ++ spaced (sign_of o) (b (operand (level_of o)) false))
layer_shown (Expr-F.Pick span c a b) =
    placed Whole
    (λ m. c (Binary Or) false
    ++ spaced sign.Question (a (Binary Or) false ++ spaced sign.Colon (b Whole false)))

-- how a tree is written in a place of each sort
abbrev pub shown : Expr → Writing
shown = fold-Expr Writing layer_shown

-- how it is written by itself
abbrev pub written : Expr → List Piece
written a = shown a Whole false

-- the tokens among the pieces
abbrev pub tokens_of : List Piece → List TokenKind
tokens_of [] = []
tokens_of (Blank ∷ ps) = tokens_of ps
tokens_of (Word k ∷ ps) = k ∷ tokens_of ps

-- the kinds of tokens, in order
abbrev pub kinds_of : List Token → List TokenKind
kinds_of tokens = map (λ (token : Token). token.kind) tokens

-- these tokens stand between the positions
pub data Stands : List Piece → Position → Position → Type 0 where
  none : {i : Position} → Stands [] i i
  blank : {ps : List Piece} {i j : Position} → Stands ps i j → Stands (Blank ∷ ps) i j
  word : {k : TokenKind} {ps : List Piece} {i j m : Position} → Takes k i j → Stands ps j m → Stands (Word k ∷ ps) i m
