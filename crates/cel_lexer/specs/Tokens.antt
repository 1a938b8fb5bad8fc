-- The cut of a text into tokens, as it is computed.
use Rattle.std.specs.Prelude.{ℕ, zero, suc, ◌-◌, ◌+◌, false, if◌then◌else◌, List, [], ◌∷◌, length, drop, Option, Some, None, Result, Ok, Err}
use Rattle.cel_tree.specs.declared.token.Token.{Token}
use Rattle.cel_lexeme.specs.declared.lexeme.Lexeme.{Lexeme}
use Rattle.cel_lexeme.specs.declared.lexeme.Lexeme.TheVariants as lexeme
use Rattle.cel_lexeme.specs.Front.{lexeme_at}
use Rattle.cel_lexer.specs.declared.seen.Seen.{Seen}
use Rattle.cel_lexer.specs.declared.seen.Seen.TheVariants.{Opening}
use Rattle.cel_lexer.specs.declared.stop.CutFault.{CutFault}
use Rattle.cel_lexer.specs.declared.stop.CutFault.TheVariants.{BadToken, ReservedWord}
use Rattle.cel_lexer.specs.Cut.{after, may_stand, token_at, with_token}
use Rattle.cel_lexer.specs.Past.{past}

-- what cuts the end of a text, before which `seen` stands
abbrev pub Cutting : Type 0
Cutting = Seen → List ℕ → Result (List Token) CutFault

-- at the longest lexeme of the end `here` of a text of n bytes, where `go` cuts what is behind it
abbrev pub cut_lexeme : Cutting → ℕ → Seen → List ℕ → Option (Lexeme × ℕ) → Result (List Token) CutFault
cut_lexeme go n seen here None = Err (BadToken (n - length here))
cut_lexeme go n seen here (Some (lexeme.Reserved, len)) = Err (ReservedWord (n - length here))
cut_lexeme go n seen here (Some (lexeme.Bad, len)) = Err (BadToken (n - length here))
cut_lexeme go n seen here (Some (lexeme.Token k, len)) =
    if may_stand seen k then with_token (token_at n here len k) (go (after seen k) (drop len here)) else Err (BadToken (n - length here))

-- behind blanks and comments
abbrev pub cut_front : Cutting → ℕ → Seen → List ℕ → Result (List Token) CutFault
cut_front go n seen [] = Ok []
cut_front go n seen (b ∷ z) = cut_lexeme go n seen (b ∷ z) (lexeme_at (b ∷ z))

-- in a text of n bytes, where the first number is larger than the bytes that are left, and so never runs out
unfoldable pub cut_from : ℕ → ℕ → Seen → List ℕ → Result (List Token) CutFault
cut_from zero n seen z = Ok []
cut_from (suc k) n seen z = cut_front (cut_from k n) n seen (past false z)

-- the tokens of a text, or its first fault
unfoldable pub cut_of : List ℕ → Result (List Token) CutFault
cut_of text = cut_from (length text + 1) (length text) Opening text
