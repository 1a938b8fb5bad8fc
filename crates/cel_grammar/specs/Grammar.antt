-- The grammar of expressions. `Derives s i j e`: what stands between the positions i and j is derived from s, and e is its tree.
-- The span of a node runs from the first to the last byte of its own derivation: brackets round it are not in it.
use Rattle.std.specs.Prelude.{◌≡◌, ◌<◌, ◌≤◌, ◌^◌, ℕ, pos, neg_ℤ, Bool, false, List, [], ◌∷◌, Option, Some, None}
use Rattle.cel_tree.specs.declared.tree.Op.{Op}
use Rattle.cel_tree.specs.declared.tree.Op.TheVariants as op
use Rattle.cel_tree.specs.declared.tree.Expr.{Expr}
use Rattle.cel_tree.specs.declared.tree.Expr.TheVariants as tree
use Rattle.cel_tree.specs.declared.tree.Span.{Span}
use Rattle.cel_tree.specs.declared.token.Sign.{Sign}
use Rattle.cel_tree.specs.declared.token.Sign.TheVariants as sign
use Rattle.cel_tree.specs.declared.token.Token.{Token}
use Rattle.cel_tree.specs.declared.token.TokenKind.{TokenKind}
use Rattle.cel_tree.specs.declared.token.TokenKind.TheVariants as kind
pub use Rattle.cel_grammar.specs.declared.level.Sort.{Sort}
pub use Rattle.cel_grammar.specs.declared.level.Sort.TheVariants.{Whole, Binary, Unary, Nots, Negs, Member, Primary}
use Rattle.cel_grammar.specs.declared.level.Level.{Level}
use Rattle.cel_grammar.specs.declared.level.Level.TheVariants.{Or, And, Rel, Add, Mul}
use Rattle.cel_grammar.specs.Position.{Position, span, Takes, sees_number, start_of}

-- what stands beside an operator of the level
abbrev pub operand : Level → Sort
operand Or = Binary And
operand And = Binary Rel
operand Rel = Binary Add
operand Add = Binary Mul
operand Mul = Unary

abbrev pub op_of : Level → Sign → Option Op
op_of Or sign.OrOr = Some op.Or
op_of And sign.AndAnd = Some op.And
op_of Rel sign.Less = Some op.Lt
op_of Rel sign.LessEqual = Some op.Le
op_of Rel sign.Greater = Some op.Gt
op_of Rel sign.GreaterEqual = Some op.Ge
op_of Rel sign.EqualEqual = Some op.Eq
op_of Rel sign.NotEqual = Some op.Ne
op_of Rel sign.In = Some op.In
op_of Add sign.Plus = Some op.Add
op_of Add sign.Minus = Some op.Sub
op_of Mul sign.Star = Some op.Mul
op_of Mul sign.Slash = Some op.Div
op_of Mul sign.Percent = Some op.Rem
op_of _ _ = None

-- the tree of a method: what stands before the name, the name, and the arguments
abbrev pub method_tree : Span → Expr → List ℕ → List Expr → Expr
method_tree span a x es = tree.Method span a x es

mutual
  pub data Derives : Sort → Position → Position → Expr → Type 0 where
    -- Expr = Or [ "?" Or ":" Expr ]
    whole : {i j : Position} {a : Expr} → Derives (Binary Or) i j a → Derives Whole i j a
    pick : {i j k l m n : Position} {c a b : Expr} → Derives (Binary Or) i j c → Takes (kind.Sign sign.Question) j k
        → Derives (Binary Or) k l a → Takes (kind.Sign sign.Colon) l m → Derives Whole m n b
        → Derives Whole i n (tree.Pick (span i n) c a b)
    -- Level = [ Level operator ] Operand
    alone : {l : Level} {i j : Position} {a : Expr} → Derives (operand l) i j a → Derives (Binary l) i j a
    two : {l : Level} {i j k m : Position} {x : Sign} {o : Op} {a b : Expr} → Derives (Binary l) i j a → Takes (kind.Sign x) j k
        → op_of l x ≡ Some o → Derives (operand l) k m b → Derives (Binary l) i m (tree.Two (span i m) o a b)
    -- Unary = Member | "!" { "!" } Member | "-" { "-" } Member, where a number directly behind a "-" is part of a literal with it
    unary : {i j : Position} {a : Expr} → Derives Nots i j a → Derives Unary i j a
    unary_neg : {i j k : Position} {a : Expr} → Takes (kind.Sign sign.Minus) i j → sees_number j ≡ false → Derives Negs j k a
        → Derives Unary i k (tree.Neg (span i k) a)
    not : {i j k : Position} {a : Expr} → Takes (kind.Sign sign.Bang) i j → Derives Nots j k a → Derives Nots i k (tree.Not (span i k) a)
    not_end : {i j : Position} {a : Expr} → Derives Member i j a → Derives Nots i j a
    neg : {i j k : Position} {a : Expr} → Takes (kind.Sign sign.Minus) i j → sees_number j ≡ false → Derives Negs j k a
        → Derives Negs i k (tree.Neg (span i k) a)
    neg_end : {i j : Position} {a : Expr} → Derives Member i j a → Derives Negs i j a
    -- Member = Primary | Member "." IDENT [ "(" [ Args ] ")" ]
    primary : {i j : Position} {a : Expr} → Derives Primary i j a → Derives Member i j a
    select : {i j k m : Position} {a : Expr} {x : List ℕ} → Derives Member i j a → Takes (kind.Sign sign.Dot) j k → Takes (kind.Name x) k m
        → Derives Member i m (tree.Select (span i m) a x)
    method : {i j k l m n : Position} {a : Expr} {x : List ℕ} {es : List Expr} → Derives Member i j a → Takes (kind.Sign sign.Dot) j k
        → Takes (kind.Name x) k l → Takes (kind.Sign sign.OpenParenthesis) l m → Arguments m n es → Derives Member i n (method_tree (span i n) a x es)
    -- Primary = IDENT [ "(" [ Args ] ")" ] | "(" Expr ")" | "[" [ Args [ "," ] ] "]" | LITERAL
    name : {i j : Position} {x : List ℕ} → Takes (kind.Name x) i j → Derives Primary i j (tree.Name (span i j) x)
    call : {i j k m : Position} {x : List ℕ} {es : List Expr} → Takes (kind.Name x) i j → Takes (kind.Sign sign.OpenParenthesis) j k → Arguments k m es
        → Derives Primary i m (tree.Call (span i m) x es)
    group : {i j k m : Position} {a : Expr} → Takes (kind.Sign sign.OpenParenthesis) i j → Derives Whole j k a → Takes (kind.Sign sign.CloseParenthesis) k m
        → Derives Primary i m a
    list : {i j k : Position} {es : List Expr} → Takes (kind.Sign sign.OpenBracket) i j → Elements j k es → Derives Primary i k (tree.Many (span i k) es)
    truth : {i j : Position} {b : Bool} → Takes (kind.Truth b) i j → Derives Primary i j (tree.Bool (span i j) b)
    number : {i j : Position} {n : ℕ} → Takes (kind.Number n) i j → n < 2 ^ 63 → Derives Primary i j (tree.Int (span i j) (pos n))
    negative : {i j k : Position} {n : ℕ} → Takes (kind.Sign sign.Minus) i j → Takes (kind.Number n) j k → n ≤ 2 ^ 63
        → Derives Primary i k (tree.Int (span i k) (neg_ℤ (pos n)))
    text : {i j : Position} {x : List ℕ} → Takes (kind.Str x) i j → Derives Primary i j (tree.Str (span i j) x)

  -- [ Args ] ")"
  pub data Arguments : Position → Position → List Expr → Type 0 where
    no_arguments : {i j : Position} → Takes (kind.Sign sign.CloseParenthesis) i j → Arguments i j []
    arguments : {i j : Position} {es : List Expr} → Listed i j es → Arguments i j es

  -- Args ")"
  pub data Listed : Position → Position → List Expr → Type 0 where
    last : {i j k : Position} {a : Expr} → Derives Whole i j a → Takes (kind.Sign sign.CloseParenthesis) j k → Listed i k (a ∷ [])
    more : {i j k m : Position} {a : Expr} {es : List Expr} → Derives Whole i j a → Takes (kind.Sign sign.Comma) j k → Listed k m es
        → Listed i m (a ∷ es)

  -- [ Args [ "," ] ] "]"
  pub data Elements : Position → Position → List Expr → Type 0 where
    no_elements : {i j : Position} → Takes (kind.Sign sign.CloseBracket) i j → Elements i j []
    elements : {i j : Position} {es : List Expr} → Row i j es → Elements i j es

  -- Args [ "," ] "]"
  pub data Row : Position → Position → List Expr → Type 0 where
    row_last : {i j k : Position} {a : Expr} → Derives Whole i j a → Takes (kind.Sign sign.CloseBracket) j k → Row i k (a ∷ [])
    row_comma : {i j k m : Position} {a : Expr} → Derives Whole i j a → Takes (kind.Sign sign.Comma) j k → Takes (kind.Sign sign.CloseBracket) k m
        → Row i m (a ∷ [])
    row_more : {i j k m : Position} {a : Expr} {es : List Expr} → Derives Whole i j a → Takes (kind.Sign sign.Comma) j k → Row k m es
        → Row i m (a ∷ es)

-- e is the tree of the tokens
abbrev pub IsExpr : List Token → Expr → Type 0
IsExpr tokens a = (j : Position) × (j.rest ≡ []) × Derives Whole (start_of tokens) j a
