-- What is printed is cut into the tokens that were printed.
use Rattle.std.proofs.Common.{◌≡◌, ℕ, ◌<◌, ◌^◌, Bool, true, false, List, [], ◌∷◌, ◌++◌, length, drop, Option, Some, None, Ok, Result, refl, sym, ap, subst, arith}
use Rattle.std.specs.Prelude.{◌==◌, ◌&&◌, not, nat_le, nat_lt, slice_index}
use Rattle.std.specs.Char.{is_digit}
use Rattle.std.specs.Fmt.{decimal}
use Rattle.std.proofs.lemmas.Bool.{and_parts, ltb-true, leb-true}
use Rattle.std.proofs.Math.Seq.{drop-append_seam}
use Rattle.cel_tree.specs.declared.token.Sign.TheVariants as sign
use Rattle.cel_tree.specs.declared.token.TokenKind.{TokenKind}
use Rattle.cel_tree.specs.declared.token.TokenKind.TheVariants as kind
use Rattle.cel_tree.specs.declared.token.Token.{Token}
use Rattle.cel_tree.specs.Spelling.{is_letter, is_word, is_name, is_reserved, is_grammar_word}
use Rattle.cel_lexeme.specs.declared.lexeme.Lexeme.TheVariants as lexeme
use Rattle.cel_lexeme.proofs.Proper.{longest_is}
use Rattle.cel_lexer.specs.declared.seen.Seen.{Seen}
use Rattle.cel_lexer.specs.declared.stop.CutFault.{CutFault}
use Rattle.cel_lexer.specs.Cut.{Cut, after, token_at}
use Rattle.cel_lexer.specs.Cut as cut
use Rattle.cel_shown.specs.Shown.{Piece, Blank, Word, tokens_of, kinds_of}
use Rattle.cel_shown.specs.Spelled.{spelled, bytes_of}
use Rattle.cel_shown.specs.Separate.{Before, Start, Minus, Operand, Dot, Gap, Operator, only_if, step, steps, steps_from, Separate}
use Rattle.cel_shown.specs.CutAgain.{IsCut}
use Rattle.cel_shown.proofs.CutFronts.{IsDecimal, decimal_is, digit_is, letter_is, is_end}
use Rattle.cel_shown.proofs.CutSteps.{may_follow, seen_of, stepped}

only_true : (b : Bool) (x : Before) (ps : List Piece) → steps_from (only_if b x) ps ≡ Some Operand → b ≡ true
only_true true x ps e = refl
only_true false x ps e = cc

some_is : {A : Type 0} {x y : A} → Some x ≡ Some y → x ≡ y
some_is e = cc

-- the first byte of an operand is no `=`
name_first : (name z : List ℕ) → is_name name ≡ true → not (slice_index (name ++ z) 0 == 61) ≡ true
unfolding is_name
name_first [] z h = cc
name_first (b ∷ bs) z h =
    let p = and_parts (is_word (b ∷ bs) && not (is_grammar_word (b ∷ bs))) (not (is_reserved (b ∷ bs))) h in
    let q = and_parts (is_word (b ∷ bs)) (not (is_grammar_word (b ∷ bs))) p.0 in
    (letter_is b (and_parts (is_letter b) _ q.0).0).equal

number_first : (n : ℕ) (z : List ℕ) → n < 2 ^ 64 → not (slice_index (decimal n ++ z) 0 == 61) ≡ true
number_first n z l = go (decimal n) (decimal_is n l)
  where
    go : (ds : List ℕ) → IsDecimal n ds → not (slice_index (ds ++ z) 0 == 61) ≡ true
    go [] k = absurd (omega (arith, k.some))
    go (d ∷ ds) k = (digit_is d (and_parts (is_digit d 10) _ k.all).0).equal

start_follows : (k : TokenKind) (ps : List Piece) → steps Start (Word k ∷ ps) ≡ Some Operand → not (slice_index (bytes_of (Word k ∷ ps)) 0 == 61) ≡ true
start_follows (kind.Truth true) ps e = refl
start_follows (kind.Truth false) ps e = refl
start_follows (kind.Number n) ps e = number_first n (bytes_of ps) (let l = ltb-true n (2 ^ 63) (only_true (nat_lt n (2 ^ 63)) Operand ps e) in omega (arith, l))
start_follows (kind.Str text) ps e = refl
start_follows (kind.Name name) ps e = name_first name (bytes_of ps) (only_true (is_name name) Operand ps e)
start_follows (kind.Sign sign.OpenParenthesis) ps e = refl
start_follows (kind.Sign sign.OpenBracket) ps e = refl
start_follows (kind.Sign sign.Bang) ps e = refl
start_follows (kind.Sign sign.Minus) ps e = refl
start_follows (kind.Sign sign.CloseParenthesis) ps e = refl
start_follows (kind.Sign sign.CloseBracket) ps e = refl
start_follows (kind.Sign _) ps e = cc

minus_follows : (k : TokenKind) (ps : List Piece) → steps Minus (Word k ∷ ps) ≡ Some Operand → not (slice_index (bytes_of (Word k ∷ ps)) 0 == 61) ≡ true
minus_follows (kind.Truth true) ps e = refl
minus_follows (kind.Truth false) ps e = refl
minus_follows (kind.Number n) ps e = number_first n (bytes_of ps) (let l = leb-true n (2 ^ 63) (only_true (nat_le n (2 ^ 63)) Operand ps e) in omega (arith, l))
minus_follows (kind.Str text) ps e = refl
minus_follows (kind.Name name) ps e = name_first name (bytes_of ps) (only_true (is_name name) Operand ps e)
minus_follows (kind.Sign sign.OpenParenthesis) ps e = refl
minus_follows (kind.Sign sign.OpenBracket) ps e = refl
minus_follows (kind.Sign sign.Bang) ps e = refl
minus_follows (kind.Sign sign.Minus) ps e = refl
minus_follows (kind.Sign sign.CloseParenthesis) ps e = refl
minus_follows (kind.Sign sign.CloseBracket) ps e = refl
minus_follows (kind.Sign _) ps e = cc

operand_follows : (k : TokenKind) (ps : List Piece) → steps Operand (Word k ∷ ps) ≡ Some Operand → is_end (slice_index (bytes_of (Word k ∷ ps)) 0) ≡ true
operand_follows (kind.Truth b) ps e = cc
operand_follows (kind.Number n) ps e = cc
operand_follows (kind.Str text) ps e = cc
operand_follows (kind.Name name) ps e = cc
operand_follows (kind.Sign sign.Dot) ps e = refl
operand_follows (kind.Sign sign.OpenParenthesis) ps e = refl
operand_follows (kind.Sign sign.CloseParenthesis) ps e = refl
operand_follows (kind.Sign sign.CloseBracket) ps e = refl
operand_follows (kind.Sign sign.Comma) ps e = refl
operand_follows (kind.Sign _) ps e = cc

follows : (y : Before) (ps : List Piece) → steps y ps ≡ Some Operand → may_follow y (slice_index (bytes_of ps) 0) ≡ true
follows Dot ps e = refl
follows Gap ps e = refl
follows Start [] e = cc
follows Start (Blank ∷ ps) e = cc
follows Start (Word k ∷ ps) e = start_follows k ps e
follows Minus [] e = cc
follows Minus (Blank ∷ ps) e = cc
follows Minus (Word k ∷ ps) e = minus_follows k ps e
follows Operand [] e = refl
follows Operand (Blank ∷ ps) e = refl
follows Operand (Word k ∷ ps) e = operand_follows k ps e
follows Operator [] e = cc
follows Operator (Blank ∷ ps) e = refl
follows Operator (Word k ∷ ps) e = cc

-- the cut of the pieces from a place on
record IsCutFrom (n : ℕ) (x : Before) (ps : List Piece) : Type 0 where
  tokens : List Token
  cut : Cut n (seen_of x) (bytes_of ps) (Ok tokens)
  same : kinds_of tokens ≡ tokens_of ps

blanked : {n : ℕ} {seen : Seen} {z : List ℕ} {r : Result (List Token) CutFault} → Cut n seen z r → Cut n seen (32 ∷ z) r
blanked (cut.ended p) = cut.ended (cut.blank refl p)
blanked (cut.token p h m c) = cut.token (cut.blank refl p) h m c
blanked (cut.large p h m) = cut.large (cut.blank refl p) h m
blanked (cut.reserved p h) = cut.reserved (cut.blank refl p) h
blanked (cut.bad p h) = cut.bad (cut.blank refl p) h
blanked (cut.none p s h) = cut.none (cut.blank refl p) s h

blank_seen : (x y : Before) → step x Blank ≡ Some y → seen_of y ≡ seen_of x
blank_seen Start y e = cc
blank_seen Minus y e = cc
blank_seen Operand y e = ap seen_of (sym (some_is e))
blank_seen Dot y e = cc
blank_seen Gap y e = cc
blank_seen Operator y e = ap seen_of (sym (some_is e))

worded : (n : ℕ) (x y : Before) (k : TokenKind) (ps : List Piece) → step x (Word k) ≡ Some y → steps y ps ≡ Some Operand → IsCutFrom n y ps → IsCutFrom n x (Word k ∷ ps)
worded n x y k ps e s c =
    let z = spelled k ++ bytes_of ps in
    let p = stepped x k (bytes_of ps) y e in
    let ready = p.ready (follows y ps s) in
    let longest = longest_is z (lexeme.Token k, length (spelled k)) ready.read in
    let rest : Cut n (after (seen_of x) k) (drop (length (spelled k)) z) (Ok c.tokens)
    = subst (λ (y : List ℕ). Cut n (after (seen_of x) k) y (Ok c.tokens)) (sym (drop-append_seam (spelled k) (bytes_of ps)))
    (subst (λ (t : Seen). Cut n t (bytes_of ps) (Ok c.tokens)) (sym p.after) c.cut) in
    record {
      tokens = token_at n z (length (spelled k)) k ∷ c.tokens;
      cut = cut.token ready.past longest p.stands rest;
      same = ap (λ (ks : List TokenKind). k ∷ ks) c.same;
    }

by_step : (n : ℕ) (x : Before) (p : Piece) (ps : List Piece) (o : Option Before) → step x p ≡ o → steps_from o ps ≡ Some Operand
    → ((y : Before) → steps y ps ≡ Some Operand → IsCutFrom n y ps) → IsCutFrom n x (p ∷ ps)
by_step n x p ps None e s go = cc
by_step n x Blank ps (Some y) e s go =
    let c = go y s in
    record { tokens = c.tokens; cut = blanked (subst (λ (t : Seen). Cut n t (bytes_of ps) (Ok c.tokens)) (blank_seen x y e) c.cut); same = c.same }
by_step n x (Word k) ps (Some y) e s go = worded n x y k ps e s (go y s)

cut_from : (n : ℕ) (ps : List Piece) (x : Before) → steps x ps ≡ Some Operand → IsCutFrom n x ps
cut_from n [] x e = record { tokens = []; cut = subst (λ (y : Before). Cut n (seen_of y) [] (Ok [])) (sym (some_is e)) (cut.ended cut.end); same = refl }
cut_from n (p ∷ ps) x e = by_step n x p ps (step x p) refl e (λ y s. cut_from n ps y s)

pub printed : (ps : List Piece) → Separate ps → IsCut ps
printed ps s = let c = cut_from (length (bytes_of ps)) ps Start s in record { tokens = c.tokens; cut = c.cut; same = c.same }
