-- Signs, and what stands behind each piece.
use Rattle.std.proofs.Common.{◌≡◌, ℕ, ◌^◌, Bool, true, false, List, [], ◌∷◌, ◌++◌, length, Some, refl, sym, subst, arith}
use Rattle.std.specs.Prelude.{◌==◌, not, nat_le, nat_lt, slice_index}
use Rattle.std.proofs.lemmas.Bool.{not-true, ltb-true, leb-true}
use Rattle.std.proofs.lemmas.Bool.Decides.{nat_tests}
use Rattle.cel_tree.specs.declared.token.Sign.{Sign}
use Rattle.cel_tree.specs.declared.token.Sign.TheVariants as sign
use Rattle.cel_tree.specs.declared.token.TokenKind.{TokenKind}
use Rattle.cel_tree.specs.declared.token.TokenKind.TheVariants as kind
use Rattle.cel_tree.specs.Spelling.{spelling, is_name}
use Rattle.cel_lexeme.specs.declared.lexeme.Lexeme.TheVariants.{Token}
use Rattle.cel_lexeme.specs.Front.{lexeme_at, sign_at}
use Rattle.cel_lexer.specs.declared.seen.Seen.{Seen}
use Rattle.cel_lexer.specs.declared.seen.Seen.TheVariants as seen
use Rattle.cel_lexer.specs.Cut.{Past, after, may_stand}
use Rattle.cel_lexer.specs.Cut as cut
use Rattle.cel_shown.specs.Shown.{Word}
use Rattle.cel_shown.specs.Separate.{Before, Start, Minus, Operand, Dot, Gap, Operator, only_if, step}
use Rattle.cel_shown.proofs.CutFronts.{is_end}
use Rattle.cel_shown.proofs.CutWords.{IsReady, not_past, name_ready, truth_ready, in_ready, number_ready, text_ready}

some_is : {A : Type 0} {x y : A} → Some x ≡ Some y → x ≡ y
some_is e = cc

-- the first byte behind what stands before a place
abbrev pub may_follow : Before → ℕ → Bool
may_follow Start c = not (c == 61)
may_follow Minus c = not (c == 61)
may_follow Operand c = is_end c
may_follow Dot c = true
may_follow Gap c = true
may_follow Operator c = c == 32

-- what the cut has seen there
abbrev pub seen_of : Before → Seen
seen_of Start = seen.Opening
seen_of Minus = seen.UnaryMinus
seen_of Operand = seen.Operand
seen_of Dot = seen.Opening
seen_of Gap = seen.Operand
seen_of Operator = seen.Opening

-- signs
module _ (r : List ℕ) where
  one_sign : (b : ℕ) (s : Sign) → spelling s ≡ b ∷ [] → lexeme_at (b ∷ r) ≡ Some (Token (kind.Sign s), 1) → Past false (b ∷ r) (b ∷ r) → IsReady (kind.Sign s) r
  one_sign b s e read past = record {
    read = subst (λ (z : List ℕ). lexeme_at (z ++ r) ≡ Some (Token (kind.Sign s), length z)) (sym e) read;
    past = subst (λ (z : List ℕ). Past false (z ++ r) (z ++ r)) (sym e) past;
  }

  question_ready : IsReady (kind.Sign sign.Question) r
  unfolding lexeme_at sign_at
  question_ready = record { read = refl; past = not_past 63 r refl refl }

  colon_ready : IsReady (kind.Sign sign.Colon) r
  unfolding lexeme_at sign_at
  colon_ready = record { read = refl; past = not_past 58 r refl refl }

  plus_ready : IsReady (kind.Sign sign.Plus) r
  unfolding lexeme_at sign_at
  plus_ready = record { read = refl; past = not_past 43 r refl refl }

  minus_ready : IsReady (kind.Sign sign.Minus) r
  unfolding lexeme_at sign_at
  minus_ready = record { read = refl; past = not_past 45 r refl refl }

  star_ready : IsReady (kind.Sign sign.Star) r
  unfolding lexeme_at sign_at
  star_ready = record { read = refl; past = not_past 42 r refl refl }

  percent_ready : IsReady (kind.Sign sign.Percent) r
  unfolding lexeme_at sign_at
  percent_ready = record { read = refl; past = not_past 37 r refl refl }

  dot_ready : IsReady (kind.Sign sign.Dot) r
  unfolding lexeme_at sign_at
  dot_ready = record { read = refl; past = not_past 46 r refl refl }

  comma_ready : IsReady (kind.Sign sign.Comma) r
  unfolding lexeme_at sign_at
  comma_ready = record { read = refl; past = not_past 44 r refl refl }

  openparenthesis_ready : IsReady (kind.Sign sign.OpenParenthesis) r
  unfolding lexeme_at sign_at
  openparenthesis_ready = record { read = refl; past = not_past 40 r refl refl }

  closeparenthesis_ready : IsReady (kind.Sign sign.CloseParenthesis) r
  unfolding lexeme_at sign_at
  closeparenthesis_ready = record { read = refl; past = not_past 41 r refl refl }

  openbracket_ready : IsReady (kind.Sign sign.OpenBracket) r
  unfolding lexeme_at sign_at
  openbracket_ready = record { read = refl; past = not_past 91 r refl refl }

  closebracket_ready : IsReady (kind.Sign sign.CloseBracket) r
  unfolding lexeme_at sign_at
  closebracket_ready = record { read = refl; past = not_past 93 r refl refl }

  oror_ready : IsReady (kind.Sign sign.OrOr) r
  unfolding lexeme_at sign_at
  oror_ready = record { read = refl; past = not_past 124 (124 ∷ r) refl refl }

  andand_ready : IsReady (kind.Sign sign.AndAnd) r
  unfolding lexeme_at sign_at
  andand_ready = record { read = refl; past = not_past 38 (38 ∷ r) refl refl }

  lessequal_ready : IsReady (kind.Sign sign.LessEqual) r
  unfolding lexeme_at sign_at
  lessequal_ready = record { read = refl; past = not_past 60 (61 ∷ r) refl refl }

  greaterequal_ready : IsReady (kind.Sign sign.GreaterEqual) r
  unfolding lexeme_at sign_at
  greaterequal_ready = record { read = refl; past = not_past 62 (61 ∷ r) refl refl }

  equalequal_ready : IsReady (kind.Sign sign.EqualEqual) r
  unfolding lexeme_at sign_at
  equalequal_ready = record { read = refl; past = not_past 61 (61 ∷ r) refl refl }

  notequal_ready : IsReady (kind.Sign sign.NotEqual) r
  unfolding lexeme_at sign_at
  notequal_ready = record { read = refl; past = not_past 33 (61 ∷ r) refl refl }

  less_ready : (slice_index r 0 == 61) ≡ false → IsReady (kind.Sign sign.Less) r
  unfolding lexeme_at sign_at
  less_ready h = record { read = rw h refl; past = not_past 60 r refl refl }

  greater_ready : (slice_index r 0 == 61) ≡ false → IsReady (kind.Sign sign.Greater) r
  unfolding lexeme_at sign_at
  greater_ready h = record { read = rw h refl; past = not_past 62 r refl refl }

  bang_ready : (slice_index r 0 == 61) ≡ false → IsReady (kind.Sign sign.Bang) r
  unfolding lexeme_at sign_at
  bang_ready h = record { read = rw h refl; past = not_past 33 r refl refl }

  slash_ready : (slice_index r 0 == 47) ≡ false → IsReady (kind.Sign sign.Slash) r
  unfolding lexeme_at sign_at
  slash_ready h = record { read = refl; past = cut.byte refl h }

blank_no_equal : (c : ℕ) → (c == 32) ≡ true → (c == 61) ≡ false
blank_no_equal c h = grind (arith, nat_tests)

blank_no_slash : (c : ℕ) → (c == 32) ≡ true → (c == 47) ≡ false
blank_no_slash c h = grind (arith, nat_tests)

blank_is_end : (c : ℕ) → (c == 32) ≡ true → is_end c ≡ true
blank_is_end c h = grind (arith, nat_tests)

-- a token may stand here, is read where it stands, and leads on
pub record IsStep (x : Before) (k : TokenKind) (r : List ℕ) (y : Before) : Type 0 where
  pub ready : may_follow y (slice_index r 0) ≡ true → IsReady k r
  pub stands : may_stand (seen_of x) k ≡ true
  pub after : after (seen_of x) k ≡ seen_of y

start_sign : (s : Sign) (r : List ℕ) (y : Before) → step Start (Word (kind.Sign s)) ≡ Some y → IsStep Start (kind.Sign s) r y
start_sign sign.OpenParenthesis r y e = subst (IsStep Start (kind.Sign sign.OpenParenthesis) r) (some_is e) (record { ready = λ h. openparenthesis_ready r; stands = refl; after = refl })
start_sign sign.OpenBracket r y e = subst (IsStep Start (kind.Sign sign.OpenBracket) r) (some_is e) (record { ready = λ h. openbracket_ready r; stands = refl; after = refl })
start_sign sign.Minus r y e = subst (IsStep Start (kind.Sign sign.Minus) r) (some_is e) (record { ready = λ h. minus_ready r; stands = refl; after = refl })
start_sign sign.CloseParenthesis r y e = subst (IsStep Start (kind.Sign sign.CloseParenthesis) r) (some_is e) (record { ready = λ h. closeparenthesis_ready r; stands = refl; after = refl })
start_sign sign.CloseBracket r y e = subst (IsStep Start (kind.Sign sign.CloseBracket) r) (some_is e) (record { ready = λ h. closebracket_ready r; stands = refl; after = refl })
start_sign sign.Bang r y e = subst (IsStep Start (kind.Sign sign.Bang) r) (some_is e) (record { ready = λ h. bang_ready r (not-true _ h); stands = refl; after = refl })
start_sign _ r y e = cc

minus_sign : (s : Sign) (r : List ℕ) (y : Before) → step Minus (Word (kind.Sign s)) ≡ Some y → IsStep Minus (kind.Sign s) r y
minus_sign sign.OpenParenthesis r y e = subst (IsStep Minus (kind.Sign sign.OpenParenthesis) r) (some_is e) (record { ready = λ h. openparenthesis_ready r; stands = refl; after = refl })
minus_sign sign.OpenBracket r y e = subst (IsStep Minus (kind.Sign sign.OpenBracket) r) (some_is e) (record { ready = λ h. openbracket_ready r; stands = refl; after = refl })
minus_sign sign.Minus r y e = subst (IsStep Minus (kind.Sign sign.Minus) r) (some_is e) (record { ready = λ h. minus_ready r; stands = refl; after = refl })
minus_sign sign.CloseParenthesis r y e = subst (IsStep Minus (kind.Sign sign.CloseParenthesis) r) (some_is e) (record { ready = λ h. closeparenthesis_ready r; stands = refl; after = refl })
minus_sign sign.CloseBracket r y e = subst (IsStep Minus (kind.Sign sign.CloseBracket) r) (some_is e) (record { ready = λ h. closebracket_ready r; stands = refl; after = refl })
minus_sign sign.Bang r y e = subst (IsStep Minus (kind.Sign sign.Bang) r) (some_is e) (record { ready = λ h. bang_ready r (not-true _ h); stands = refl; after = refl })
minus_sign _ r y e = cc

operand_sign : (s : Sign) (r : List ℕ) (y : Before) → step Operand (Word (kind.Sign s)) ≡ Some y → IsStep Operand (kind.Sign s) r y
operand_sign sign.Dot r y e = subst (IsStep Operand (kind.Sign sign.Dot) r) (some_is e) (record { ready = λ h. dot_ready r; stands = refl; after = refl })
operand_sign sign.OpenParenthesis r y e = subst (IsStep Operand (kind.Sign sign.OpenParenthesis) r) (some_is e) (record { ready = λ h. openparenthesis_ready r; stands = refl; after = refl })
operand_sign sign.CloseParenthesis r y e = subst (IsStep Operand (kind.Sign sign.CloseParenthesis) r) (some_is e) (record { ready = λ h. closeparenthesis_ready r; stands = refl; after = refl })
operand_sign sign.CloseBracket r y e = subst (IsStep Operand (kind.Sign sign.CloseBracket) r) (some_is e) (record { ready = λ h. closebracket_ready r; stands = refl; after = refl })
operand_sign sign.Comma r y e = subst (IsStep Operand (kind.Sign sign.Comma) r) (some_is e) (record { ready = λ h. comma_ready r; stands = refl; after = refl })
operand_sign _ r y e = cc

gap_sign : (s : Sign) (r : List ℕ) (y : Before) → step Gap (Word (kind.Sign s)) ≡ Some y → IsStep Gap (kind.Sign s) r y
gap_sign sign.Question r y e = subst (IsStep Gap (kind.Sign sign.Question) r) (some_is e) (record { ready = λ h. question_ready r; stands = refl; after = refl })
gap_sign sign.Colon r y e = subst (IsStep Gap (kind.Sign sign.Colon) r) (some_is e) (record { ready = λ h. colon_ready r; stands = refl; after = refl })
gap_sign sign.OrOr r y e = subst (IsStep Gap (kind.Sign sign.OrOr) r) (some_is e) (record { ready = λ h. oror_ready r; stands = refl; after = refl })
gap_sign sign.AndAnd r y e = subst (IsStep Gap (kind.Sign sign.AndAnd) r) (some_is e) (record { ready = λ h. andand_ready r; stands = refl; after = refl })
gap_sign sign.LessEqual r y e = subst (IsStep Gap (kind.Sign sign.LessEqual) r) (some_is e) (record { ready = λ h. lessequal_ready r; stands = refl; after = refl })
gap_sign sign.GreaterEqual r y e = subst (IsStep Gap (kind.Sign sign.GreaterEqual) r) (some_is e) (record { ready = λ h. greaterequal_ready r; stands = refl; after = refl })
gap_sign sign.EqualEqual r y e = subst (IsStep Gap (kind.Sign sign.EqualEqual) r) (some_is e) (record { ready = λ h. equalequal_ready r; stands = refl; after = refl })
gap_sign sign.NotEqual r y e = subst (IsStep Gap (kind.Sign sign.NotEqual) r) (some_is e) (record { ready = λ h. notequal_ready r; stands = refl; after = refl })
gap_sign sign.Plus r y e = subst (IsStep Gap (kind.Sign sign.Plus) r) (some_is e) (record { ready = λ h. plus_ready r; stands = refl; after = refl })
gap_sign sign.Minus r y e = subst (IsStep Gap (kind.Sign sign.Minus) r) (some_is e) (record { ready = λ h. minus_ready r; stands = refl; after = refl })
gap_sign sign.Star r y e = subst (IsStep Gap (kind.Sign sign.Star) r) (some_is e) (record { ready = λ h. star_ready r; stands = refl; after = refl })
gap_sign sign.Percent r y e = subst (IsStep Gap (kind.Sign sign.Percent) r) (some_is e) (record { ready = λ h. percent_ready r; stands = refl; after = refl })
gap_sign sign.Less r y e = subst (IsStep Gap (kind.Sign sign.Less) r) (some_is e) (record { ready = λ h. less_ready r (blank_no_equal _ h); stands = refl; after = refl })
gap_sign sign.Greater r y e = subst (IsStep Gap (kind.Sign sign.Greater) r) (some_is e) (record { ready = λ h. greater_ready r (blank_no_equal _ h); stands = refl; after = refl })
gap_sign sign.Slash r y e = subst (IsStep Gap (kind.Sign sign.Slash) r) (some_is e) (record { ready = λ h. slash_ready r (blank_no_slash _ h); stands = refl; after = refl })
gap_sign sign.In r y e = subst (IsStep Gap (kind.Sign sign.In) r) (some_is e) (record { ready = λ h. in_ready r (blank_is_end _ h); stands = refl; after = refl })
gap_sign _ r y e = cc

-- names and numbers stand only where they may
only : (b : Bool) (x y : Before) → only_if b x ≡ Some y → (b ≡ true) × (x ≡ y)
only true x y e = (refl, some_is e)
only false x y e = cc

name_step : (x : Before) (name r : List ℕ) (y : Before) → only_if (is_name name) Operand ≡ Some y → IsStep x (kind.Name name) r y
name_step x name r y e =
    let h = only (is_name name) Operand y e in
    subst (IsStep x (kind.Name name) r) h.1 (record { ready = λ k. name_ready name r h.0 k; stands = refl; after = refl })

start_number : (n : ℕ) (r : List ℕ) (y : Before) → only_if (nat_lt n (2 ^ 63)) Operand ≡ Some y → IsStep Start (kind.Number n) r y
start_number n r y e =
    let h = only (nat_lt n (2 ^ 63)) Operand y e in
    let l = ltb-true n (2 ^ 63) h.0 in
    subst (IsStep Start (kind.Number n) r) h.1 (record { ready = λ k. number_ready n r (omega (arith, l)) k; stands = h.0; after = refl })

minus_number : (n : ℕ) (r : List ℕ) (y : Before) → only_if (nat_le n (2 ^ 63)) Operand ≡ Some y → IsStep Minus (kind.Number n) r y
minus_number n r y e =
    let h = only (nat_le n (2 ^ 63)) Operand y e in
    let l = leb-true n (2 ^ 63) h.0 in
    subst (IsStep Minus (kind.Number n) r) h.1 (record { ready = λ k. number_ready n r l k; stands = h.0; after = refl })

pub stepped : (x : Before) (k : TokenKind) (r : List ℕ) (y : Before) → step x (Word k) ≡ Some y → IsStep x k r y
stepped Start (kind.Sign s) r y e = start_sign s r y e
stepped Start (kind.Truth b) r y e = subst (IsStep Start (kind.Truth b) r) (some_is e) (record { ready = λ h. truth_ready b r h; stands = refl; after = refl })
stepped Start (kind.Number n) r y e = start_number n r y e
stepped Start (kind.Str text) r y e = subst (IsStep Start (kind.Str text) r) (some_is e) (record { ready = λ h. text_ready text r h; stands = refl; after = refl })
stepped Start (kind.Name name) r y e = name_step Start name r y e
stepped Minus (kind.Sign s) r y e = minus_sign s r y e
stepped Minus (kind.Truth b) r y e = subst (IsStep Minus (kind.Truth b) r) (some_is e) (record { ready = λ h. truth_ready b r h; stands = refl; after = refl })
stepped Minus (kind.Number n) r y e = minus_number n r y e
stepped Minus (kind.Str text) r y e = subst (IsStep Minus (kind.Str text) r) (some_is e) (record { ready = λ h. text_ready text r h; stands = refl; after = refl })
stepped Minus (kind.Name name) r y e = name_step Minus name r y e
stepped Operand (kind.Sign s) r y e = operand_sign s r y e
stepped Operand (kind.Truth b) r y e = cc
stepped Operand (kind.Number n) r y e = cc
stepped Operand (kind.Str text) r y e = cc
stepped Operand (kind.Name name) r y e = cc
stepped Dot (kind.Name name) r y e = name_step Dot name r y e
stepped Dot (kind.Sign s) r y e = cc
stepped Dot (kind.Truth b) r y e = cc
stepped Dot (kind.Number n) r y e = cc
stepped Dot (kind.Str text) r y e = cc
stepped Gap (kind.Sign s) r y e = gap_sign s r y e
stepped Gap (kind.Truth b) r y e = cc
stepped Gap (kind.Number n) r y e = cc
stepped Gap (kind.Str text) r y e = cc
stepped Gap (kind.Name name) r y e = cc
stepped Operator k r y e = cc
