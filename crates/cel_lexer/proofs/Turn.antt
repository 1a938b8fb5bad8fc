-- One turn of cutting.
use Rattle.std.proofs.Common.{◌≡◌, ℕ, ◌-◌, List, [], ◌∷◌, ◌++◌, length, drop, Result, Ok, Err, true, false, refl, sym, ap, subst, append_assoc, append-nil, arith}
use Rattle.cel_tree.specs.declared.token.TokenKind.{TokenKind}
use Rattle.cel_tree.specs.declared.token.Token.{Token}
use Rattle.cel_lexeme.specs.declared.lexeme.Lexeme.TheVariants as lexeme
use Rattle.cel_lexeme.specs.Lexeme.{IsLongest}
use Rattle.cel_lexer.specs.declared.seen.Seen.{Seen}
use Rattle.cel_lexer.specs.declared.seen.Seen.TheVariants.{Opening}
use Rattle.cel_lexer.specs.declared.stop.CutFault.{CutFault}
use Rattle.cel_lexer.specs.declared.stop.Stop.{Stop}
use Rattle.cel_lexer.specs.declared.stop.Stop.TheVariants.{Fault, OutOfMemory}
use Rattle.cel_lexer.specs.Cut.{Cut, Cuts, Reads, Past, after, may_stand, token_at, with_token}
use Rattle.cel_lexer.specs.Cut as spec
use Rattle.cel_lexer.specs.Past.{past}
use Rattle.std.specs.Result.{IsErrAnd}
use Rattle.cel_lexer.proofs.Passed.{past_is}

abbrev pub joined : List Token → Result (List Token) CutFault → Result (List Token) CutFault
joined found (Ok tokens) = Ok (found ++ tokens)
joined found (Err fault) = Err fault

-- with these tokens before it, a cut of the rest is the cut of the whole
pub record IsSoFar (text : List ℕ) (found : List Token) (seen : Seen) (rest : List ℕ) : Type 0 where
  pub whole : (more : Result (List Token) CutFault) → Cut (length text) seen rest more → Cut (length text) Opening text (joined found more)

pub start : (text : List ℕ) → IsSoFar text [] Opening text
start text = record { whole = λ more c. subst (Cut (length text) Opening text) (same more) c }
  where
    same : (more : Result (List Token) CutFault) → more ≡ joined [] more
    same (Ok tokens) = refl
    same (Err fault) = refl

pub finish : (text : List ℕ) (found : List Token) (seen : Seen) (rest : List ℕ) → IsSoFar text found seen rest → Past false rest [] → Cut (length text) Opening text (Ok found)
finish text found seen rest s p = subst (λ ts. Cut (length text) Opening text (Ok ts)) (append-nil found) (s.whole (Ok []) (spec.ended p))

with_joined : (found : List Token) (t : Token) (more : Result (List Token) CutFault) → joined found (with_token t more) ≡ joined (found ++ t ∷ []) more
with_joined found t (Ok ts) = ap Ok (sym (append_assoc found (t ∷ []) ts))
with_joined found t (Err fault) = refl

pub turn : (text : List ℕ) (found : List Token) (seen : Seen) (rest front : List ℕ) (k : TokenKind) (len : ℕ) → IsSoFar text found seen rest → Past false rest front
    → IsLongest front (lexeme.Token k) len → may_stand seen k ≡ true → IsSoFar text (found ++ token_at (length text) front len k ∷ []) (after seen k) (drop len front)
turn text found seen rest front k len s p h m = record {
  whole = λ more c. subst (Cut (length text) Opening text) (with_joined found (token_at (length text) front len k) more)
      (s.whole (with_token (token_at (length text) front len k) more) (spec.token p h m c));
}

pub past_at : (z front : List ℕ) → front ≡ past false z → Past false z front
past_at z front e = subst (Past false z) (sym e) (past_is false z)

pub past_none : (z front : List ℕ) → front ≡ past false z → length front ≡ 0 → Past false z []
past_none z [] e l = past_at z [] e
past_none z (b ∷ y) e l = absurd (omega (arith, l))

stopped : (text : List ℕ) (found : List Token) (seen : Seen) (rest front : List ℕ) (stop : Stop) → IsSoFar text found seen rest → Past false rest front
    → Reads seen front (length text - length front) (Err stop) → Cuts text (Err stop)
stopped text found seen rest front (Fault fault) s p h = s.whole (Err fault) (h (length text) rest refl p)
stopped text found seen rest front OutOfMemory s p h = tt

pub stop_is : (text : List ℕ) (found : List Token) (seen : Seen) (rest front : List ℕ) (n : ℕ) (stop : Stop) (r : Result (List Token) Stop) → IsSoFar text found seen rest
    → Past false rest front → n ≡ length text → Reads seen front (n - length front) (Err stop) → IsErrAnd r (λ e. e ≡ stop) → Cuts text r
stop_is text found seen rest front n stop (Ok ts) s p e h k = absurd k
stop_is text found seen rest front n stop (Err t) s p e h k =
    subst (λ (u : Stop). Cuts text (Err u)) (sym k) (stopped text found seen rest front stop s p (subst (λ m. Reads seen front (m - length front) (Err stop)) e h))
