-- What may stand beside what: a blank where two tokens would else run together, and a minus before a number only as
-- part of its literal.
use Rattle.std.specs.Prelude.{◌≡◌, ℕ, ◌^◌, nat_lt, nat_le, Bool, if◌then◌else◌, List, [], ◌∷◌, Option, Some, None}
use Rattle.cel_tree.specs.declared.token.Sign.{Sign}
use Rattle.cel_tree.specs.declared.token.Sign.TheVariants as sign
use Rattle.cel_tree.specs.declared.token.TokenKind.{TokenKind}
use Rattle.cel_tree.specs.declared.token.TokenKind.TheVariants as kind
use Rattle.cel_tree.specs.Spelling.{is_name}
use Rattle.cel_shown.specs.Shown.{Piece, Blank, Word}

-- what stands before the next piece
pub data Before : Type 0 where
  -- nothing, an opening bracket, `!`, or a blank behind an operator or a comma: an operand is next
  Start : Before
  -- the same, behind a `-`
  Minus : Before
  -- the last token of an operand
  Operand : Before
  -- a `.`
  Dot : Before
  -- a blank behind an operand
  Gap : Before
  -- an operator or a comma
  Operator : Before

abbrev pub only_if : Bool → Before → Option Before
only_if b x = if b then Some x else None

-- the first token of an operand, where the test says which numbers it may be
abbrev pub begin : (ℕ → Bool) → Piece → Option Before
begin is_literal (Word (kind.Truth b)) = Some Operand
begin is_literal (Word (kind.Number n)) = only_if (is_literal n) Operand
begin is_literal (Word (kind.Str text)) = Some Operand
begin is_literal (Word (kind.Name name)) = only_if (is_name name) Operand
begin is_literal (Word (kind.Sign sign.OpenParenthesis)) = Some Start
begin is_literal (Word (kind.Sign sign.OpenBracket)) = Some Start
begin is_literal (Word (kind.Sign sign.Bang)) = Some Start
begin is_literal (Word (kind.Sign sign.Minus)) = Some Minus
begin is_literal (Word (kind.Sign sign.CloseParenthesis)) = Some Operand
begin is_literal (Word (kind.Sign sign.CloseBracket)) = Some Operand
begin is_literal _ = None

abbrev pub follow : Piece → Option Before
follow Blank = Some Gap
follow (Word (kind.Sign sign.Dot)) = Some Dot
follow (Word (kind.Sign sign.OpenParenthesis)) = Some Start
follow (Word (kind.Sign sign.CloseParenthesis)) = Some Operand
follow (Word (kind.Sign sign.CloseBracket)) = Some Operand
follow (Word (kind.Sign sign.Comma)) = Some Operator
follow _ = None

abbrev pub select : Piece → Option Before
select (Word (kind.Name name)) = only_if (is_name name) Operand
select _ = None

abbrev pub operate : Piece → Option Before
operate (Word (kind.Sign sign.Question)) = Some Operator
operate (Word (kind.Sign sign.Colon)) = Some Operator
operate (Word (kind.Sign sign.OrOr)) = Some Operator
operate (Word (kind.Sign sign.AndAnd)) = Some Operator
operate (Word (kind.Sign sign.Less)) = Some Operator
operate (Word (kind.Sign sign.LessEqual)) = Some Operator
operate (Word (kind.Sign sign.Greater)) = Some Operator
operate (Word (kind.Sign sign.GreaterEqual)) = Some Operator
operate (Word (kind.Sign sign.EqualEqual)) = Some Operator
operate (Word (kind.Sign sign.NotEqual)) = Some Operator
operate (Word (kind.Sign sign.In)) = Some Operator
operate (Word (kind.Sign sign.Plus)) = Some Operator
operate (Word (kind.Sign sign.Minus)) = Some Operator
operate (Word (kind.Sign sign.Star)) = Some Operator
operate (Word (kind.Sign sign.Slash)) = Some Operator
operate (Word (kind.Sign sign.Percent)) = Some Operator
operate _ = None

abbrev pub rest : Piece → Option Before
rest Blank = Some Start
rest _ = None

abbrev pub step : Before → Piece → Option Before
step Start p = begin (λ n. nat_lt n (2 ^ 63)) p
step Minus p = begin (λ n. nat_le n (2 ^ 63)) p
step Operand p = follow p
step Dot p = select p
step Gap p = operate p
step Operator p = rest p

abbrev pub steps_from : Option Before → List Piece → Option Before
steps_from None ps = None
steps_from (Some x) [] = Some x
steps_from (Some x) (p ∷ ps) = steps_from (step x p) ps

abbrev pub steps : Before → List Piece → Option Before
steps x ps = steps_from (Some x) ps

-- each piece may stand where it stands, and the last ends an operand
abbrev pub Separate : List Piece → Type 0
Separate ps = steps Start ps ≡ Some Operand
