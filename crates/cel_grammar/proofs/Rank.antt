-- Which tokens can't go on with what was derived.
use Rattle.std.proofs.Common.{◌≡◌, ◌≢◌, ℕ, suc, ◌<◌, List, [], ◌∷◌, length, Option, Some, None, Bool, true, false, cond, refl, sym, ap, ◌∙◌, arith, lit<}
use Rattle.cel_tree.specs.declared.tree.Op.{Op}
use Rattle.cel_tree.specs.declared.tree.Expr.{Expr}
use Rattle.cel_tree.specs.declared.token.Sign.{Sign}
use Rattle.cel_tree.specs.declared.token.Sign.TheVariants as sign
use Rattle.cel_tree.specs.declared.token.Token.{Token}
use Rattle.cel_tree.specs.declared.token.TokenKind.{TokenKind}
use Rattle.cel_tree.specs.declared.token.TokenKind.TheVariants as kind
use Rattle.cel_grammar.specs.declared.level.Level.{Level}
use Rattle.cel_grammar.specs.declared.level.Level.TheVariants.{Or, And, Rel, Add, Mul}
use Rattle.cel_grammar.specs.Position.{Position, Takes, TakesFirst, is_number, starts_with_number, sees_number}
use Rattle.cel_grammar.specs.Grammar as g
use Rattle.cel_grammar.specs.Grammar.{Sort, Whole, Binary, Unary, Nots, Negs, Member, Primary, operand, op_of, Derives, Arguments, Listed, Elements, Row}
use Rattle.cel_grammar.specs.Reader.{Parser, same_sign, is_sign, sees_in, sees, sees_negation, after_negation, next_in, next, first_in, first, after, op_in, op_at}
use Rattle.cel_grammar.proofs.Steps.{some_is, is_same, seen}

-- the higher, the less a token goes on with
abbrev pub sign_rank : Sign → ℕ
sign_rank sign.OpenParenthesis = 1
sign_rank sign.Dot = 2
sign_rank sign.Star = 3
sign_rank sign.Slash = 3
sign_rank sign.Percent = 3
sign_rank sign.Plus = 4
sign_rank sign.Minus = 4
sign_rank sign.Less = 5
sign_rank sign.LessEqual = 5
sign_rank sign.Greater = 5
sign_rank sign.GreaterEqual = 5
sign_rank sign.EqualEqual = 5
sign_rank sign.NotEqual = 5
sign_rank sign.In = 5
sign_rank sign.AndAnd = 6
sign_rank sign.OrOr = 7
sign_rank sign.Question = 8
sign_rank _ = 9

abbrev pub kind_rank : TokenKind → ℕ
kind_rank (kind.Sign x) = sign_rank x
kind_rank _ = 9

abbrev pub rank_in : List Token → ℕ
rank_in [] = 9
rank_in (t ∷ rest) = kind_rank t.kind

abbrev pub rank : Position → ℕ
rank i = rank_in i.rest

abbrev pub sort_rank : Sort → ℕ
sort_rank Whole = 8
sort_rank (Binary Or) = 7
sort_rank (Binary And) = 6
sort_rank (Binary Rel) = 5
sort_rank (Binary Add) = 4
sort_rank (Binary Mul) = 3
sort_rank Unary = 2
sort_rank Nots = 2
sort_rank Negs = 2
sort_rank Member = 2
sort_rank Primary = 1

-- the token at j can't go on with what is derived from s
pub record Stops (s : Sort) (j : Position) : Type 0 where
  pub above : sort_rank s < rank j

pub operand_rank : (l : Level) → sort_rank (operand l) < sort_rank (Binary l)
operand_rank Or = lit< tt
operand_rank And = lit< tt
operand_rank Rel = lit< tt
operand_rank Add = lit< tt
operand_rank Mul = lit< tt

-- one token

next_from : (k : TokenKind) (last : ℕ) (rest : List Token) (j : Position) → TakesFirst k rest j → (next_in last rest ≡ j) × (first_in rest ≡ Some k) × (length rest ≡ suc (length j.rest)) × (rank_in rest ≡ kind_rank k)
next_from k last [] j t = elim t [ ]
next_from k last (u ∷ rest) j t = (sym t.1, ap Some t.0, ap (λ (z : Position). suc (length z.rest)) (sym t.1), ap kind_rank t.0)

pub takes_next : (k : TokenKind) (i j : Position) → Takes k i j → next i ≡ j
takes_next k i j t = (next_from k i.last i.rest j t.taken).0

pub takes_first : (k : TokenKind) (i j : Position) → Takes k i j → first i ≡ Some k
takes_first k i j t = (next_from k i.last i.rest j t.taken).1

pub takes_length : {k : TokenKind} {i j : Position} → Takes k i j → length i.rest ≡ suc (length j.rest)
takes_length {k} {i} {j} t = (next_from k i.last i.rest j t.taken).2

pub takes_rank : {k : TokenKind} {i j : Position} → Takes k i j → rank i ≡ kind_rank k
takes_rank {k} {i} {j} t = (next_from k i.last i.rest j t.taken).3

sees_first : (x : Sign) (rest : List Token) → first_in rest ≡ Some (kind.Sign x) → sees_in x rest ≡ true
sees_first x [] e = cc
sees_first x (t ∷ rest) e = ap (is_sign x) (some_is e) ∙ is_same x

pub after_takes : {A : Type 0} (x : Sign) (p q : Parser A) (i j : Position) → Takes (kind.Sign x) i j → after x p q i ≡ p j
after_takes x p q i j t =
    ap (λ b. cond b (p (next i)) (q i)) (sees_first x i.rest (takes_first (kind.Sign x) i j t)) ∙ ap p (takes_next (kind.Sign x) i j t)

unseen : (x : Sign) (i : Position) (b : Bool) → sees x i ≡ b → rank i ≢ sign_rank x → b ≡ false
unseen x i true e n = absurd (n (takes_rank (seen x i e)))
unseen x i false e n = refl

pub after_skips : {A : Type 0} (x : Sign) (p q : Parser A) (i : Position) → rank i ≢ sign_rank x → after x p q i ≡ q i
after_skips x p q i n = ap (λ b. cond b (p (next i)) (q i)) (unseen x i (sees x i) refl n)

pub after_unseen : {A : Type 0} (x : Sign) (p q : Parser A) (i : Position) → sees x i ≡ false → after x p q i ≡ q i
after_unseen x p q i e = ap (λ b. cond b (p (next i)) (q i)) e

-- a minus, and what follows

number_seen : (n : ℕ) (rest : List Token) (j : Position) → TakesFirst (kind.Number n) rest j → starts_with_number rest ≡ true
number_seen n [] j t = elim t [ ]
number_seen n (u ∷ rest) j t = ap is_number t.0

pub takes_number : (n : ℕ) (i j : Position) → Takes (kind.Number n) i j → sees_number i ≡ true
takes_number n i j t = number_seen n i.rest j t.taken

pub negation_takes : {A : Type 0} (p q : Parser A) (i j : Position) → Takes (kind.Sign sign.Minus) i j → sees_number j ≡ false → after_negation p q i ≡ p j
negation_takes p q i j t n =
    let s = sees_first sign.Minus i.rest (takes_first (kind.Sign sign.Minus) i j t) in
    let e = takes_next (kind.Sign sign.Minus) i j t in
    ap (λ b. cond (cond b (cond (sees_number (next i)) false true) false) (p (next i)) (q i)) s
    ∙ ap (λ (z : Position). cond (cond (sees_number z) false true) (p z) (q i)) e
    ∙ ap (λ b. cond (cond b false true) (p j) (q i)) n

-- no minus but one that is part of a literal
pub record NoNegation (i : Position) : Type 0 where
  pub none : sees_negation i ≡ false

pub no_minus : (i : Position) → sees sign.Minus i ≡ false → NoNegation i
no_minus i e = record { none = ap (λ b. cond b (cond (sees_number (next i)) false true) false) e }

pub literal_minus : (n : ℕ) (i j k : Position) → Takes (kind.Sign sign.Minus) i j → Takes (kind.Number n) j k → NoNegation i
literal_minus n i j k t u = record {
  none = ap (λ (z : Position). cond (sees sign.Minus i) (cond (sees_number z) false true) false) (takes_next (kind.Sign sign.Minus) i j t)
      ∙ ap (λ b. cond (sees sign.Minus i) (cond b false true) false) (takes_number n j k u) ∙ same (sees sign.Minus i);
}
  where
    same : (b : Bool) → cond b false false ≡ false
    same true = refl
    same false = refl

pub negation_skips : {A : Type 0} (p q : Parser A) (i : Position) → NoNegation i → after_negation p q i ≡ q i
negation_skips p q i e = ap (λ b. cond b (p (next i)) (q i)) e.none

-- operators

pub op_rank : (l : Level) (x : Sign) (o : Op) → op_of l x ≡ Some o → sign_rank x ≡ sort_rank (Binary l)
op_rank Or sign.OrOr o e = refl
op_rank And sign.AndAnd o e = refl
op_rank Rel sign.Less o e = refl
op_rank Rel sign.LessEqual o e = refl
op_rank Rel sign.Greater o e = refl
op_rank Rel sign.GreaterEqual o e = refl
op_rank Rel sign.EqualEqual o e = refl
op_rank Rel sign.NotEqual o e = refl
op_rank Rel sign.In o e = refl
op_rank Add sign.Plus o e = refl
op_rank Add sign.Minus o e = refl
op_rank Mul sign.Star o e = refl
op_rank Mul sign.Slash o e = refl
op_rank Mul sign.Percent o e = refl
op_rank _ _ o e = cc

op_in_none : (l : Level) (rest : List Token) (r : Option Op) → op_in l (first_in rest) ≡ r → rank_in rest ≢ sort_rank (Binary l) → r ≡ None
op_in_none l rest None e n = refl
op_in_none l rest (Some o) e n = absurd (n (held l rest o e))
  where
    held_by : (l : Level) (k : TokenKind) (o : Op) → op_in l (Some k) ≡ Some o → kind_rank k ≡ sort_rank (Binary l)
    held_by l (kind.Sign x) o e = op_rank l x o e
    held_by l _ o e = cc

    held : (l : Level) (rest : List Token) (o : Op) → op_in l (first_in rest) ≡ Some o → rank_in rest ≡ sort_rank (Binary l)
    held l [] o e = cc
    held l (t ∷ rest) o e = held_by l t.kind o e

pub op_none : (l : Level) (i : Position) → rank i ≢ sort_rank (Binary l) → op_at l i ≡ None
op_none l i n = op_in_none l i.rest (op_at l i) refl n

pub op_some : (l : Level) (x : Sign) (o : Op) (i j : Position) → Takes (kind.Sign x) i j → op_of l x ≡ Some o → op_at l i ≡ Some o
op_some l x o i j t e = ap (op_in l) (takes_first (kind.Sign x) i j t) ∙ e

-- what is derived has a token

mutual
  pub shrinks : {s : Sort} {i j : Position} {a : Expr} → Derives s i j a → length j.rest < length i.rest
  shrinks (g.whole d) = shrinks d
  shrinks (g.pick d t e u f) = omega (arith, shrinks d, takes_length t, shrinks e, takes_length u, shrinks f)
  shrinks (g.alone d) = shrinks d
  shrinks (g.two d t o e) = omega (arith, shrinks d, takes_length t, shrinks e)
  shrinks (g.unary d) = shrinks d
  shrinks (g.unary_neg t n d) = omega (arith, takes_length t, shrinks d)
  shrinks (g.not t d) = omega (arith, takes_length t, shrinks d)
  shrinks (g.not_end d) = shrinks d
  shrinks (g.neg t n d) = omega (arith, takes_length t, shrinks d)
  shrinks (g.neg_end d) = shrinks d
  shrinks (g.primary d) = shrinks d
  shrinks (g.select d t u) = omega (arith, shrinks d, takes_length t, takes_length u)
  shrinks (g.method d t u v r) = omega (arith, shrinks d, takes_length t, takes_length u, takes_length v, arguments_shrink r)
  shrinks (g.name t) = omega (arith, takes_length t)
  shrinks (g.call t u r) = omega (arith, takes_length t, takes_length u, arguments_shrink r)
  shrinks (g.group t d u) = omega (arith, takes_length t, shrinks d, takes_length u)
  shrinks (g.list t r) = omega (arith, takes_length t, elements_shrink r)
  shrinks (g.truth t) = omega (arith, takes_length t)
  shrinks (g.number t h) = omega (arith, takes_length t)
  shrinks (g.negative t u h) = omega (arith, takes_length t, takes_length u)
  shrinks (g.text t) = omega (arith, takes_length t)

  pub arguments_shrink : {i j : Position} {es : List Expr} → Arguments i j es → length j.rest < length i.rest
  arguments_shrink (g.no_arguments t) = omega (arith, takes_length t)
  arguments_shrink (g.arguments r) = listed_shrink r

  pub listed_shrink : {i j : Position} {es : List Expr} → Listed i j es → length j.rest < length i.rest
  listed_shrink (g.last d t) = omega (arith, shrinks d, takes_length t)
  listed_shrink (g.more d t r) = omega (arith, shrinks d, takes_length t, listed_shrink r)

  pub elements_shrink : {i j : Position} {es : List Expr} → Elements i j es → length j.rest < length i.rest
  elements_shrink (g.no_elements t) = omega (arith, takes_length t)
  elements_shrink (g.elements r) = row_shrink r

  pub row_shrink : {i j : Position} {es : List Expr} → Row i j es → length j.rest < length i.rest
  row_shrink (g.row_last d t) = omega (arith, shrinks d, takes_length t)
  row_shrink (g.row_comma d t u) = omega (arith, shrinks d, takes_length t, takes_length u)
  row_shrink (g.row_more d t r) = omega (arith, shrinks d, takes_length t, row_shrink r)

-- what a member begins with is no unary operator

unlike : (x : Sign) (k : TokenKind) (i j : Position) → Takes k i j → is_sign x k ≡ false → sees x i ≡ false
unlike x k i j t e = sees_as x i.rest k (takes_first k i j t) ∙ e
  where
    sees_as : (x : Sign) (rest : List Token) (k : TokenKind) → first_in rest ≡ Some k → sees_in x rest ≡ is_sign x k
    sees_as x [] k e = cc
    sees_as x (t ∷ rest) k e = ap (is_sign x) (some_is e)

abbrev BeginsAt : Sort → Position → Type 0
BeginsAt Member i = (sees sign.Bang i ≡ false) × NoNegation i
BeginsAt Primary i = (sees sign.Bang i ≡ false) × NoNegation i
BeginsAt Nots i = NoNegation i
BeginsAt _ i = Unit {0}

plain : (k : TokenKind) (i j : Position) → Takes k i j → is_sign sign.Bang k ≡ false → is_sign sign.Minus k ≡ false → (sees sign.Bang i ≡ false) × NoNegation i
plain k i j t b m = (unlike sign.Bang k i j t b, no_minus i (unlike sign.Minus k i j t m))

pub begins : {s : Sort} {i j : Position} {a : Expr} → Derives s i j a → BeginsAt s i
unfolding same_sign
begins (g.primary d) = begins d
begins (g.select d t u) = begins d
begins (g.method d t u v r) = begins d
begins (g.name t) = plain _ _ _ t refl refl
begins (g.call t u r) = plain _ _ _ t refl refl
begins (g.group t d u) = plain _ _ _ t refl refl
begins (g.list t r) = plain _ _ _ t refl refl
begins (g.truth t) = plain _ _ _ t refl refl
begins (g.number t h) = plain _ _ _ t refl refl
begins (g.negative t u h) = (unlike sign.Bang _ _ _ t refl, literal_minus _ _ _ _ t u)
begins (g.text t) = plain _ _ _ t refl refl
begins (g.not t d) = no_minus _ (unlike sign.Minus _ _ _ t refl)
begins (g.not_end d) = (begins d).1
begins _ = tt

-- nor a closing parenthesis
pub opens : {s : Sort} {i j : Position} {a : Expr} → Derives s i j a → sees sign.CloseParenthesis i ≡ false
unfolding same_sign
opens (g.whole d) = opens d
opens (g.pick d t e u f) = opens d
opens (g.alone d) = opens d
opens (g.two d t o e) = opens d
opens (g.unary d) = opens d
opens (g.unary_neg t n d) = unlike sign.CloseParenthesis _ _ _ t refl
opens (g.not t d) = unlike sign.CloseParenthesis _ _ _ t refl
opens (g.not_end d) = opens d
opens (g.neg t n d) = unlike sign.CloseParenthesis _ _ _ t refl
opens (g.neg_end d) = opens d
opens (g.primary d) = opens d
opens (g.select d t u) = opens d
opens (g.method d t u v r) = opens d
opens (g.name t) = unlike sign.CloseParenthesis _ _ _ t refl
opens (g.call t u r) = unlike sign.CloseParenthesis _ _ _ t refl
opens (g.group t d u) = unlike sign.CloseParenthesis _ _ _ t refl
opens (g.list t r) = unlike sign.CloseParenthesis _ _ _ t refl
opens (g.truth t) = unlike sign.CloseParenthesis _ _ _ t refl
opens (g.number t h) = unlike sign.CloseParenthesis _ _ _ t refl
opens (g.negative t u h) = unlike sign.CloseParenthesis _ _ _ t refl
opens (g.text t) = unlike sign.CloseParenthesis _ _ _ t refl

pub listed_opens : {i j : Position} {es : List Expr} → Listed i j es → sees sign.CloseParenthesis i ≡ false
listed_opens (g.last d t) = opens d
listed_opens (g.more d t r) = opens d

-- nor a closing bracket
pub starts : {s : Sort} {i j : Position} {a : Expr} → Derives s i j a → sees sign.CloseBracket i ≡ false
unfolding same_sign
starts (g.whole d) = starts d
starts (g.pick d t e u f) = starts d
starts (g.alone d) = starts d
starts (g.two d t o e) = starts d
starts (g.unary d) = starts d
starts (g.unary_neg t n d) = unlike sign.CloseBracket _ _ _ t refl
starts (g.not t d) = unlike sign.CloseBracket _ _ _ t refl
starts (g.not_end d) = starts d
starts (g.neg t n d) = unlike sign.CloseBracket _ _ _ t refl
starts (g.neg_end d) = starts d
starts (g.primary d) = starts d
starts (g.select d t u) = starts d
starts (g.method d t u v r) = starts d
starts (g.name t) = unlike sign.CloseBracket _ _ _ t refl
starts (g.call t u r) = unlike sign.CloseBracket _ _ _ t refl
starts (g.group t d u) = unlike sign.CloseBracket _ _ _ t refl
starts (g.list t r) = unlike sign.CloseBracket _ _ _ t refl
starts (g.truth t) = unlike sign.CloseBracket _ _ _ t refl
starts (g.number t h) = unlike sign.CloseBracket _ _ _ t refl
starts (g.negative t u h) = unlike sign.CloseBracket _ _ _ t refl
starts (g.text t) = unlike sign.CloseBracket _ _ _ t refl

pub row_starts : {i j : Position} {es : List Expr} → Row i j es → sees sign.CloseBracket i ≡ false
row_starts (g.row_last d t) = starts d
row_starts (g.row_comma d t u) = starts d
row_starts (g.row_more d t r) = starts d

pub not_comma : (i j : Position) → Takes (kind.Sign sign.CloseParenthesis) i j → sees sign.Comma i ≡ false
unfolding same_sign
not_comma i j t = unlike sign.Comma _ i j t refl

pub bracket_not_comma : (i j : Position) → Takes (kind.Sign sign.CloseBracket) i j → sees sign.Comma i ≡ false
unfolding same_sign
bracket_not_comma i j t = unlike sign.Comma _ i j t refl
