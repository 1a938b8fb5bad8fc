-- The cut of a text into tokens, in the words of the language's definition.
use Rattle.std.specs.Prelude.{◌≡◌, ◌<◌, ◌-◌, ◌^◌, ℕ, Bool, true, false, ◌&&◌, ◌||◌, ◌==◌, nat_le, nat_lt, List, [], ◌∷◌, length, drop, slice_index, Result, Ok, Err}
use Rattle.std.specs.Str.{byte as ascii}
use Rattle.cel_tree.specs.declared.token.Sign.TheVariants as sign
use Rattle.cel_tree.specs.declared.token.TokenKind.{TokenKind}
use Rattle.cel_tree.specs.declared.token.TokenKind.TheVariants as kind
use Rattle.cel_tree.specs.declared.token.Token.{Token}
use Rattle.cel_lexeme.specs.declared.lexeme.Lexeme.TheVariants as lexeme
use Rattle.cel_lexeme.specs.Lexeme.{IsLongest, HasNone}
use Rattle.cel_lexer.specs.declared.seen.Seen.{Seen}
use Rattle.cel_lexer.specs.declared.seen.Seen.TheVariants.{Opening, UnaryMinus, Operand}
use Rattle.cel_lexer.specs.declared.stop.CutFault.{CutFault}
use Rattle.cel_lexer.specs.declared.stop.CutFault.TheVariants.{BadToken, ReservedWord}
use Rattle.cel_lexer.specs.declared.stop.Stop.{Stop}
use Rattle.cel_lexer.specs.declared.stop.Stop.TheVariants.{Fault, OutOfMemory}

-- space, tab, line feed, form feed, carriage return
abbrev pub is_blank : ℕ → Bool
is_blank b = b == ascii " " || b == ascii "\t" || b == ascii "\n" || b == ascii "\u{c}" || b == ascii "\r"

abbrev pub is_line_end : ℕ → Bool
is_line_end b = b == ascii "\n" || b == ascii "\r"

abbrev pub slash : ℕ
slash = ascii "/"

abbrev pub begins_comment : List ℕ → Bool
begins_comment z = slice_index z 0 == slash && slice_index z 1 == slash

-- from the one text on, where it says whether it begins in a comment, the other begins with the first byte that is in no blank and in
-- no comment. A comment ends before a line feed or a carriage return.
pub data Past : Bool → List ℕ → List ℕ → Type 0 where
  end : {in_comment : Bool} → Past in_comment [] []
  blank : {b : ℕ} {z here : List ℕ} → is_blank b ≡ true → Past false z here → Past false (b ∷ z) here
  comment : {z here : List ℕ} → Past true z here → Past false (slash ∷ slash ∷ z) here
  in_comment : {b : ℕ} {z here : List ℕ} → is_line_end b ≡ false → Past true z here → Past true (b ∷ z) here
  line_end : {b : ℕ} {z here : List ℕ} → is_line_end b ≡ true → Past false (b ∷ z) here → Past true (b ∷ z) here
  byte : {b : ℕ} {z : List ℕ} → is_blank b ≡ false → begins_comment (b ∷ z) ≡ false → Past false (b ∷ z) (b ∷ z)

-- a `-` is unary unless the token before it is an identifier, a number, a string, `true`, `false`, `)` or `]`
abbrev pub after_minus : Seen → Seen
after_minus Operand = Opening
after_minus Opening = UnaryMinus
after_minus UnaryMinus = UnaryMinus

abbrev pub after : Seen → TokenKind → Seen
after seen (kind.Sign sign.Minus) = after_minus seen
after seen (kind.Sign sign.CloseParenthesis) = Operand
after seen (kind.Sign sign.CloseBracket) = Operand
after seen (kind.Sign s) = Opening
after seen (kind.Truth b) = Operand
after seen (kind.Number n) = Operand
after seen (kind.Str text) = Operand
after seen (kind.Name name) = Operand

-- a number is at most 2 ^ 63 - 1, and behind a unary `-` at most 2 ^ 63
abbrev pub is_within : Seen → ℕ → Bool
is_within UnaryMinus n = nat_le n (2 ^ 63)
is_within Opening n = nat_lt n (2 ^ 63)
is_within Operand n = nat_lt n (2 ^ 63)

abbrev pub may_stand : Seen → TokenKind → Bool
may_stand seen (kind.Number n) = is_within seen n
may_stand seen (kind.Sign s) = true
may_stand seen (kind.Truth b) = true
may_stand seen (kind.Str text) = true
may_stand seen (kind.Name name) = true

-- in a text of n bytes, the token of the first len bytes of its end `here`
abbrev pub token_at : ℕ → List ℕ → ℕ → TokenKind → Token
token_at n here len k = record { span = record { from = n - length here; to = n - length (drop len here) }; kind = k }

abbrev pub with_token : Token → Result (List Token) CutFault → Result (List Token) CutFault
with_token t (Ok ts) = Ok (t ∷ ts)
with_token t (Err fault) = Err fault

-- the end z of a text of n bytes, before which `seen` stands, is cut into these tokens, or has this fault as its first
pub data Cut : ℕ → Seen → List ℕ → Result (List Token) CutFault → Type 0 where
  -- the end
  ended : {n : ℕ} {seen : Seen} {z : List ℕ} → Past false z [] → Cut n seen z (Ok [])
  -- the longest token, and then the rest
  token : {n len : ℕ} {seen : Seen} {z here : List ℕ} {k : TokenKind} {more : Result (List Token) CutFault} → Past false z here
      → IsLongest here (lexeme.Token k) len → may_stand seen k ≡ true → Cut n (after seen k) (drop len here) more
      → Cut n seen z (with_token (token_at n here len k) more)
  -- a number that is too large there
  large : {n len : ℕ} {seen : Seen} {z here : List ℕ} {k : TokenKind} → Past false z here
      → IsLongest here (lexeme.Token k) len → may_stand seen k ≡ false → Cut n seen z (Err (BadToken (n - length here)))
  -- a reserved word
  reserved : {n len : ℕ} {seen : Seen} {z here : List ℕ} → Past false z here → IsLongest here lexeme.Reserved len
      → Cut n seen z (Err (ReservedWord (n - length here)))
  -- a number that is too large anywhere, or a string with an escape that is no Unicode scalar value
  bad : {n len : ℕ} {seen : Seen} {z here : List ℕ} → Past false z here → IsLongest here lexeme.Bad len
      → Cut n seen z (Err (BadToken (n - length here)))
  -- nothing that is a token
  none : {n : ℕ} {seen : Seen} {z here : List ℕ} → Past false z here → 0 < length here → HasNone here
      → Cut n seen z (Err (BadToken (n - length here)))

-- the text is cut into these tokens, or has this fault as its first
abbrev pub CutInto : List ℕ → Result (List Token) CutFault → Type 0
CutInto text cut = Cut (length text) Opening text cut

-- the answer is the cut of the text; want of memory is free
abbrev pub Cuts : List ℕ → Result (List Token) Stop → Type 0
Cuts text (Ok tokens) = CutInto text (Ok tokens)
Cuts text (Err (Fault fault)) = CutInto text (Err fault)
Cuts text (Err OutOfMemory) = Unit {0}

-- a token stands at the front, or a fault is there
abbrev pub Reads : Seen → List ℕ → ℕ → Result (TokenKind × ℕ) Stop → Type 0
Reads seen here from (Ok t) = IsLongest here (lexeme.Token t.0) t.1 × (may_stand seen t.0 ≡ true)
Reads seen here from (Err (Fault fault)) = (n : ℕ) (z : List ℕ) → n - length here ≡ from → Past false z here → Cut n seen z (Err fault)
Reads seen here from (Err OutOfMemory) = Unit {0}
