-- A text has one cut, which is the one that is computed.
use Rattle.std.proofs.Common.{◌≡◌, ℕ, zero, suc, ◌+◌, ◌-◌, ◌<◌, ◌≤◌, Bool, true, false, cond, List, [], ◌∷◌, length, length-drop, drop, Option, Some, None, Result, Err, refl, sym, ap, ◌∙◌, subst, arith}
use Rattle.cel_tree.specs.declared.token.Token.{Token}
use Rattle.cel_tree.specs.declared.token.TokenKind.{TokenKind}
use Rattle.cel_lexeme.specs.declared.lexeme.Lexeme.{Lexeme}
use Rattle.cel_lexeme.specs.declared.lexeme.Lexeme.TheVariants as lexeme
use Rattle.cel_lexeme.specs.Lexeme.{IsLongest}
use Rattle.cel_lexeme.specs.Front.{lexeme_at}
use Rattle.cel_lexeme.proofs.Proper.{longest_is, is_read, none_is, is_none}
use Rattle.cel_lexer.specs.declared.seen.Seen.{Seen}
use Rattle.cel_lexer.specs.declared.seen.Seen.TheVariants.{Opening}
use Rattle.cel_lexer.specs.declared.stop.CutFault.{CutFault}
use Rattle.cel_lexer.specs.declared.stop.CutFault.TheVariants.{BadToken}
use Rattle.cel_lexer.specs.Cut.{Cut, CutInto, Past, after, may_stand, token_at, with_token}
use Rattle.cel_lexer.specs.Cut as spec
use Rattle.cel_lexer.specs.Past.{past}
use Rattle.cel_lexer.specs.Tokens.{Cutting, cut_lexeme, cut_front, cut_from, cut_of}
use Rattle.cel_lexer.proofs.Passed.{past_is, is_past}

at_some : (go : Cutting) (n : ℕ) (seen : Seen) (z : List ℕ) (o : Option (Lexeme × ℕ)) → 0 < length z → lexeme_at z ≡ o → cut_front go n seen z ≡ cut_lexeme go n seen z o
at_some go n seen [] o l e = absurd (omega (arith, l))
at_some go n seen (b ∷ z) o l e = ap (cut_lexeme go n seen (b ∷ z)) e

step : (k n : ℕ) (seen : Seen) (z front : List ℕ) (o : Option (Lexeme × ℕ)) → Past false z front → 0 < length front → lexeme_at front ≡ o
    → cut_from (suc k) n seen z ≡ cut_lexeme (cut_from k n) n seen front o
unfolding cut_from
step k n seen z front o p l e = ap (cut_front (cut_from k n) n seen) (is_past p) ∙ at_some (cut_from k n) n seen front o l e

pub past_len : {in_comment : Bool} {z front : List ℕ} → Past in_comment z front → length front ≤ length z
past_len spec.end = omega arith
past_len (spec.blank h p) = omega (arith, past_len p)
past_len (spec.comment p) = omega (arith, past_len p)
past_len (spec.in_comment h p) = omega (arith, past_len p)
past_len (spec.line_end h p) = past_len p
past_len (spec.byte h k) = omega arith

some_of : {z : List ℕ} {l : Lexeme} {len : ℕ} → IsLongest z l len → 0 < length z
some_of h = omega (arith, h.some, h.within)

computed : {n : ℕ} {seen : Seen} {z : List ℕ} {r : Result (List Token) CutFault} → Cut n seen z r → (k : ℕ) → length z < k → cut_from k n seen z ≡ r
unfolding cut_from
computed c zero l = absurd (omega (arith, l))
computed (spec.ended {n = n} {seen = seen} p) (suc k) l = ap (cut_front (cut_from k n) n seen) (is_past p)
computed (spec.token {n = n} {len = len} {seen = seen} {z = z} {here = front} {k = kind} {more = more} p h m c) (suc k) l =
    let fits : length (drop len front) < k = omega (arith, length-drop len front, past_len p, h.some, h.within) in
    step k n seen z front _ p (some_of h) (is_read front (lexeme.Token kind, len) h)
    ∙ ap (λ t. cond t (with_token (token_at n front len kind) (cut_from k n (after seen kind) (drop len front))) (Err (BadToken (n - length front)))) m
    ∙ ap (with_token (token_at n front len kind)) (computed {n = n} {seen = after seen kind} {z = drop len front} {r = more} c k fits)
computed (spec.large {n = n} {len = len} {seen = seen} {z = z} {here = front} {k = kind} p h m) (suc k) l =
    step k n seen z front _ p (some_of h) (is_read front (lexeme.Token kind, len) h)
    ∙ ap (λ t. cond t (with_token (token_at n front len kind) (cut_from k n (after seen kind) (drop len front))) (Err (BadToken (n - length front)))) m
computed (spec.reserved {n = n} {len = len} {seen = seen} {z = z} {here = front} p h) (suc k) l =
    step k n seen z front _ p (some_of h) (is_read front (lexeme.Reserved, len) h)
computed (spec.bad {n = n} {len = len} {seen = seen} {z = z} {here = front} p h) (suc k) l =
    step k n seen z front _ p (some_of h) (is_read front (lexeme.Bad, len) h)
computed (spec.none {n = n} {seen = seen} {z = z} {here = front} p s h) (suc k) l =
    step k n seen z front _ p s (is_none front h)

pub only : (n : ℕ) (seen : Seen) (z : List ℕ) (one other : Result (List Token) CutFault) → Cut n seen z one → Cut n seen z other → one ≡ other
only n seen z one other c d =
    let l : length z < length z + 1 = omega arith in
    sym (computed c (length z + 1) l) ∙ computed d (length z + 1) l

-- and the other way round: what is computed is a cut
token_is : {n len : ℕ} {seen : Seen} {z here : List ℕ} {kind : TokenKind} {more : Result (List Token) CutFault} → Past false z here
    → IsLongest here (lexeme.Token kind) len → Cut n (after seen kind) (drop len here) more → (b : Bool) → may_stand seen kind ≡ b
    → Cut n seen z (cond b (with_token (token_at n here len kind) more) (Err (BadToken (n - length here))))
token_is p h c true m = spec.token p h m c
token_is p h c false m = spec.large p h m

lexeme_is : (n k : ℕ) (seen : Seen) (z here : List ℕ) → Past false z here → 0 < length here
    → ((seen : Seen) (rest : List ℕ) → length rest < length here → Cut n seen rest (cut_from k n seen rest))
    → (o : Option (Lexeme × ℕ)) → lexeme_at here ≡ o → Cut n seen z (cut_lexeme (cut_from k n) n seen here o)
lexeme_is n k seen z here p s more None e = spec.none p s (none_is here e)
lexeme_is n k seen z here p s more (Some (lexeme.Reserved, len)) e = spec.reserved p (longest_is here (lexeme.Reserved, len) e)
lexeme_is n k seen z here p s more (Some (lexeme.Bad, len)) e = spec.bad p (longest_is here (lexeme.Bad, len) e)
lexeme_is n k seen z here p s more (Some (lexeme.Token kind, len)) e =
    let h = longest_is here (lexeme.Token kind, len) e in
    let rest = more (after seen kind) (drop len here) (omega (arith, length-drop len here, h.some, h.within)) in
    token_is p h rest (may_stand seen kind) refl

front_is : (n k : ℕ) (seen : Seen) (z here : List ℕ) → Past false z here
    → ((seen : Seen) (rest : List ℕ) → length rest < length here → Cut n seen rest (cut_from k n seen rest))
    → Cut n seen z (cut_front (cut_from k n) n seen here)
front_is n k seen z [] p more = spec.ended p
front_is n k seen z (b ∷ y) p more = lexeme_is n k seen z (b ∷ y) p (omega arith) more (lexeme_at (b ∷ y)) refl

cut_is : (k n : ℕ) (seen : Seen) (z : List ℕ) → length z < k → Cut n seen z (cut_from k n seen z)
unfolding cut_from
cut_is zero n seen z l = absurd (omega (arith, l))
cut_is (suc k) n seen z l =
    let p = past_is false z in
    front_is n k seen z (past false z) p (λ seen rest h. cut_is k n seen rest (omega (arith, h, l, past_len p)))

pub is_cut : (text : List ℕ) (cut : Result (List Token) CutFault) → cut_of text ≡ cut → CutInto text cut
unfolding cut_of
is_cut text cut e = subst (CutInto text) e (cut_is (length text + 1) (length text) Opening text (omega arith))

pub cut_is_of : (text : List ℕ) (cut : Result (List Token) CutFault) → CutInto text cut → cut_of text ≡ cut
unfolding cut_of
cut_is_of text cut c = computed c (length text + 1) (omega arith)
