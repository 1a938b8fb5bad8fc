-- What the reader's functions compute.
use Rattle.std.specs.Prelude.{◌≡◌, ℕ, zero, suc, ◌+◌, ◌^◌, nat_lt, nat_le, ℤ, pos, neg_ℤ, Bool, true, false, if◌then◌else◌, List, [], ◌∷◌, ◌++◌, length, Option, Some, None, Result, Ok, Err}
use denote.Enum.Bare.{sameb}
use Rattle.cel_tree.specs.declared.tree.Op.{Op}
use Rattle.cel_tree.specs.declared.tree.Expr.{Expr}
use Rattle.cel_tree.specs.declared.tree.Expr.TheVariants as tree
use Rattle.cel_tree.specs.declared.token.Sign.{Sign}
use Rattle.cel_tree.specs.declared.token.Sign.TheVariants as sign
use Rattle.cel_tree.specs.contracts.token.Sign.{the_type}
use Rattle.cel_tree.specs.declared.token.Token.{Token}
use Rattle.cel_tree.specs.declared.token.TokenKind.{TokenKind}
use Rattle.cel_tree.specs.declared.token.TokenKind.TheVariants as kind
use Rattle.cel_grammar.specs.declared.level.Level.{Level}
use Rattle.cel_grammar.specs.declared.level.Level.TheVariants.{Or, And, Rel, Add, Mul}
use Rattle.cel_grammar.specs.declared.stop.Stop.{Stop}
use Rattle.cel_grammar.specs.declared.stop.Stop.TheVariants.{OutOfMemory, NotAnExpression}
use Rattle.cel_grammar.specs.Position.{Position, start_of, from, span, sees_number}
use Rattle.cel_grammar.specs.Grammar.{method_tree, op_of}

abbrev pub Parser : Type 0 → Type 0
Parser A = Position → Option (A × Position)

abbrev pub and_then : {A B : Type 0} → Option (A × Position) → (A → Parser B) → Option (B × Position)
and_then None f = None
and_then (Some p) f = f p.0 p.1

infixl 10 ◌>>=◌
abbrev pub ◌>>=◌ : {A B : Type 0} → Parser A → (A → Parser B) → Parser B
p >>= f = λ i. and_then (p i) f

abbrev pub pure : {A : Type 0} → A → Parser A
pure a = λ i. Some (a, i)

abbrev pub fail : {A : Type 0} → Parser A
fail = λ i. None

-- `==` on signs
unfoldable pub same_sign : Sign → Sign → Bool
same_sign = sameb the_type

abbrev pub is_sign : Sign → TokenKind → Bool
is_sign x (kind.Sign y) = same_sign y x
is_sign x _ = false

abbrev pub sees_in : Sign → List Token → Bool
sees_in x [] = false
sees_in x (t ∷ rest) = is_sign x t.kind

abbrev pub sees : Sign → Position → Bool
sees x i = sees_in x i.rest

abbrev pub next_in : ℕ → List Token → Position
next_in last [] = record { last = last; rest = [] }
next_in last (t ∷ rest) = record { last = t.span.to; rest = rest }

abbrev pub next : Position → Position
next i = next_in i.last i.rest

abbrev pub first_in : List Token → Option TokenKind
first_in [] = None
first_in (t ∷ rest) = Some t.kind

abbrev pub first : Position → Option TokenKind
first i = first_in i.rest

abbrev pub op_in : Level → Option TokenKind → Option Op
op_in l None = None
op_in l (Some (kind.Sign x)) = op_of l x
op_in l (Some _) = None

abbrev pub op_at : Level → Position → Option Op
op_at l i = op_in l (first i)

-- the first behind the sign, or the second where another token stands
abbrev pub after : {A : Type 0} → Sign → Parser A → Parser A → Parser A
after x p q = λ i. if sees x i then p (next i) else q i

-- the next token is a minus that is no part of a literal
abbrev pub sees_negation : Position → Bool
sees_negation i = if sees sign.Minus i then (if sees_number (next i) then false else true) else false

abbrev pub after_negation : {A : Type 0} → Parser A → Parser A → Parser A
after_negation p q = λ i. if sees_negation i then p (next i) else q i

abbrev pub eaten : Sign → Position → Position
eaten x i = if sees x i then next i else i

abbrev pub expect : Sign → Parser (Unit {0})
expect x = after x (pure tt) fail

abbrev pub name_in : Option TokenKind → Parser (List ℕ)
name_in (Some (kind.Name x)) = λ i. Some (x, next i)
name_in _ = fail

abbrev pub name : Parser (List ℕ)
name = λ i. name_in (first i) i

abbrev pub with_op : Option Op → (Op → Parser Expr) → Parser Expr → Parser Expr
with_op (Some o) p q = λ i. p o (next i)
with_op None p q = q

-- the number of a literal, where it has one
abbrev pub positive : ℕ → Option ℤ
positive n = if nat_lt n (2 ^ 63) then Some (pos n) else None

abbrev pub negated : ℕ → Option ℤ
negated n = if nat_le n (2 ^ 63) then Some (neg_ℤ (pos n)) else None

abbrev pub literal : ℕ → Option ℤ → Parser Expr
literal start None = fail
literal start (Some n) = λ j. Some (tree.Int (record { from = start; to = j.last }) n, j)

abbrev pub negative_by : ℕ → Option TokenKind → Parser Expr
negative_by start (Some (kind.Number n)) = λ j. literal start (negated n) (next j)
negative_by start _ = fail

-- behind a minus that is part of a literal
unfoldable pub negative : ℕ → Parser Expr
negative start = λ j. negative_by start (first j) j

module _ (w : Parser Expr) where
  unfoldable pub args_from : ℕ → List Expr → Parser (List Expr)
  args_from zero es = fail
  args_from (suc n) es = w >>= (λ a. after sign.Comma (args_from n (es ++ a ∷ [])) (after sign.CloseParenthesis (pure (es ++ a ∷ [])) fail))

  unfoldable pub args : Parser (List Expr)
  args = λ i. after sign.CloseParenthesis (pure []) (args_from (length i.rest) []) i

  unfoldable pub called : Position → List ℕ → Parser Expr
  called i x = after sign.OpenParenthesis (args >>= (λ es m. Some (tree.Call (span i m) x es, m))) (λ j. Some (tree.Name (span i j) x, j))

  unfoldable pub grouped : Parser Expr
  grouped = w >>= (λ a. after sign.CloseParenthesis (pure a) fail)

  unfoldable pub row_from : ℕ → List Expr → Parser (List Expr)
  row_from zero es = fail
  row_from (suc n) es =
      w >>= (λ a. after sign.Comma (after sign.CloseBracket (pure (es ++ a ∷ [])) (row_from n (es ++ a ∷ []))) (after sign.CloseBracket (pure (es ++ a ∷ [])) fail))

  unfoldable pub row : Parser (List Expr)
  row = λ i. after sign.CloseBracket (pure []) (row_from (length i.rest) []) i

  unfoldable pub listed : Position → Parser Expr
  listed i = row >>= (λ es m. Some (tree.Many (span i m) es, m))

  abbrev pub primary_by : Position → Option TokenKind → Parser Expr
  primary_by i (Some (kind.Name x)) = called i x
  primary_by i (Some (kind.Sign sign.OpenParenthesis)) = grouped
  primary_by i (Some (kind.Sign sign.OpenBracket)) = listed i
  primary_by i (Some (kind.Truth b)) = λ j. Some (tree.Bool (span i j) b, j)
  primary_by i (Some (kind.Sign sign.Minus)) = negative (from i)
  primary_by i (Some (kind.Number n)) = literal (from i) (positive n)
  primary_by i (Some (kind.Str x)) = λ j. Some (tree.Str (span i j) x, j)
  primary_by i _ = fail

  unfoldable pub primary : Parser Expr
  primary = λ i. primary_by i (first i) (next i)

  -- behind the name: the tree of what stands before it, and of it
  unfoldable pub selected : ℕ → Expr → List ℕ → Parser Expr
  selected start a x =
      after sign.OpenParenthesis (args >>= (λ es m. Some (method_tree (record { from = start; to = m.last }) a x es, m))) (λ m. Some (tree.Select (record { from = start; to = m.last }) a x, m))

  unfoldable pub member_from : ℕ → ℕ → Expr → Parser Expr
  member_from zero start a = pure a
  member_from (suc n) start a =
      after sign.Dot (name >>= (λ x. selected start a x >>= (λ b. member_from n start b))) (pure a)

  unfoldable pub member : Parser Expr
  member = λ i. (primary >>= member_from (length i.rest) (from i)) i

  unfoldable pub nots : ℕ → Parser Expr
  nots zero = member
  nots (suc n) = λ i. after sign.Bang (nots n >>= (λ a m. Some (tree.Not (span i m) a, m))) member i

  unfoldable pub negs : ℕ → Parser Expr
  negs zero = member
  negs (suc n) = λ i. after_negation (negs n >>= (λ a m. Some (tree.Neg (span i m) a, m))) member i

  unfoldable pub unary : Parser Expr
  unary = λ i. after_negation (negs (length i.rest) >>= (λ a m. Some (tree.Neg (span i m) a, m))) (nots (length i.rest)) i

  unfoldable pub chain_from : Level → Parser Expr → ℕ → ℕ → Expr → Parser Expr
  chain_from l p zero start a = pure a
  chain_from l p (suc n) start a =
      λ i. with_op (op_at l i) (λ o. p >>= (λ b m. chain_from l p n start (tree.Two (record { from = start; to = m.last }) o a b) m)) (pure a) i

  unfoldable pub chained : Level → Parser Expr → Parser Expr
  chained l p = λ i. (p >>= chain_from l p (length i.rest) (from i)) i

  abbrev pub side : Level → Parser Expr
  side Mul = unary
  side Add = chained Mul unary
  side Rel = chained Add (chained Mul unary)
  side And = chained Rel (chained Add (chained Mul unary))
  side Or = chained And (chained Rel (chained Add (chained Mul unary)))

  abbrev pub chain : Level → Parser Expr
  chain l = chained l (side l)

  unfoldable pub picked : Position → Expr → Parser Expr
  picked i c = after sign.Question (chain Or >>= (λ a. after sign.Colon (w >>= (λ b n. Some (tree.Pick (span i n) c a b, n))) fail)) (pure c)

  unfoldable pub whole_of : Parser Expr
  whole_of = λ i. (chain Or >>= picked i) i

unfoldable pub whole_at : ℕ → Parser Expr
whole_at zero = fail
whole_at (suc n) = whole_of (whole_at n)

abbrev pub finished : Expr → List Token → Option Expr
finished a [] = Some a
finished a (t ∷ rest) = None

abbrev pub done : Option (Expr × Position) → Option Expr
done None = None
done (Some p) = finished p.0 p.1.rest

-- The tree of the tokens, where they have one. Each bracket and each `?` takes a token, so no depth is too small.
unfoldable pub tree_in : List Token → Option Expr
tree_in tokens = done (whole_at (length tokens + 1) (start_of tokens))

-- What a reading function returned is what reading gives, unless memory ran out.
abbrev pub Reads : {A : Type 0} → Option (A × Position) → Result A Stop → Position → Type 0
Reads read (Ok a) j = read ≡ Some (a, j)
Reads read (Err NotAnExpression) j = read ≡ None
Reads read (Err OutOfMemory) j = Unit {0}
