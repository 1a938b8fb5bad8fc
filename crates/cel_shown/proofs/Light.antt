-- What is written is no larger than what it was read from.
use Rattle.std.proofs.Common.{◌≡◌, ℕ, zero, suc, pos, neg_ℤ, ◌+◌, ◌-◌, ◌≤◌, Bool, true, false, cond, Some, List, [], ◌∷◌, map, length, refl, sym, ap, ◌∙◌, subst, arith}
use Rattle.cel_tree.specs.declared.tree.Op.{Op}
use Rattle.cel_tree.specs.declared.tree.Expr.{Expr}
use Rattle.cel_tree.specs.declared.tree.Expr.TheVariants as tree
use Rattle.cel_tree.specs.declared.token.Sign.{Sign}
use Rattle.cel_tree.specs.declared.token.Sign.TheVariants as sign
use Rattle.cel_tree.specs.declared.token.Token.{Token}
use Rattle.cel_tree.specs.declared.token.TokenKind.{TokenKind}
use Rattle.cel_tree.specs.declared.token.TokenKind.TheVariants as kind
use Rattle.cel_grammar.specs.declared.level.Level.{Level}
use Rattle.cel_grammar.specs.declared.level.Level.TheVariants.{Or, And, Rel, Add, Mul}
use Rattle.cel_grammar.specs.declared.level.Sort.{Sort}
use Rattle.cel_grammar.specs.declared.level.Sort.TheVariants.{Whole, Binary, Unary, Nots, Negs, Member, Primary}
use Rattle.cel_grammar.specs.Position.{Position, Takes, TakesFirst, span, sees_number}
use Rattle.cel_grammar.specs.Grammar as g
use Rattle.cel_grammar.specs.Grammar.{operand, Derives, Arguments, Listed, Elements, Row}
use Rattle.cel_grammar.specs.Depth.{opened, deepest}
use Rattle.cel_shown.specs.Shown.{within, level_of, shown, tokens_of, kinds_of}
use Rattle.cel_shown.specs.Shorter.{NoLarger}
use Rattle.cel_shown.proofs.Layers.{fold_bool, fold_int, fold_str, fold_name, fold_select, fold_call, fold_method, fold_many, fold_not, fold_neg, fold_two, fold_pick}
use Rattle.cel_grammar.proofs.Steps.{some_is}
use Rattle.cel_shown.proofs.Stand.{begins_with}
use Rattle.cel_shown.proofs.Cost.{Cost, beside, plus, in_brackets, flat, Costing, number_cost, separated_cost, layer_cost, cost, NoMore, Wider, costs, whole_is_wider, level_is_wider, nots_are_wider, negs_are_wider, unary_is_wider, member_is_wider}
use Rattle.cel_shown.proofs.Shape.{measured}

-- between the positions stand at least so many tokens, with brackets at least so deep, and as many open behind them as before
record Covers (c : Cost) (i j : Position) : Type 0 where
  tokens : c.tokens + length j.rest ≤ length i.rest
  height : (n : ℕ) → n + c.height ≤ deepest n i.rest
  onward : (n : ℕ) → deepest n j.rest ≤ deepest n i.rest

-- a token, and how many brackets are open behind it
record Step (k : TokenKind) (i j : Position) : Type 0 where
  tokens : length i.rest ≡ suc (length j.rest)
  height : (n : ℕ) → n ≤ deepest n i.rest
  onward : (n : ℕ) → deepest (opened n k) j.rest ≤ deepest n i.rest

step_first : (k : TokenKind) (rest : List Token) (j : Position) → TakesFirst k rest j → (length rest ≡ suc (length j.rest)) × ((n : ℕ) → n ≤ deepest n rest) × ((n : ℕ) → deepest (opened n k) j.rest ≤ deepest n rest)
step_first k [] j t = elim t [ ]
step_first k (u ∷ rest) j t = (
  ap (λ (z : Position). suc (length z.rest)) (sym t.1),
  λ n. omega arith,
  λ n. let e = ap (λ z. deepest (opened n z) rest) t.0 in let f = ap (λ (z : Position). deepest (opened n k) z.rest) t.1 in omega (arith, e, f),
)

step : (k : TokenKind) (i j : Position) → Takes k i j → Step k i j
step k i j t = let s = step_first k i.rest j t.taken in record { tokens = s.0; height = s.1; onward = s.2 }

less : (c d : Cost) (i j : Position) → NoMore c d → Covers d i j → Covers c i j
less c d i j m v = record {
  tokens = let e = m.tokens in let f = v.tokens in omega (arith, e, f);
  height = λ n. let e = m.height in let f = v.height n in omega (arith, e, f);
  onward = v.onward;
}

-- one token that is no bracket
one : (k : TokenKind) (i j : Position) → ((n : ℕ) → opened n k ≡ n) → Takes k i j → Covers (flat 1) i j
one k i j l t = let s = step k i j t in record {
  tokens = let e = s.tokens in omega (arith, e);
  height = λ n. let e = s.height n in omega (arith, e);
  onward = λ n. let e = s.onward n in let f = ap (λ m. deepest m j.rest) (l n) in omega (arith, e, f);
}

beside_covers : (c d : Cost) (i j k : Position) → Covers c i j → Covers d j k → Covers (beside c d) i k
beside_covers c d i j k v w = record {
  tokens = let e = v.tokens in let f = w.tokens in omega (arith, e, f);
  height = λ n. let e = v.height n in let f = w.height n in let h = v.onward n in omega (arith, e, f, h);
  onward = λ n. let e = v.onward n in let f = w.onward n in omega (arith, e, f);
}

token_before : (k : TokenKind) (c : Cost) (i j m : Position) → ((n : ℕ) → opened n k ≡ n) → Takes k i j → Covers c j m → Covers (plus 1 c) i m
token_before k c i j m l t v =
    less (plus 1 c) (beside (flat 1) c) i m (record { tokens = omega arith; height = omega arith }) (beside_covers (flat 1) c i j m (one k i j l t) v)

token_after : (k : TokenKind) (c : Cost) (i j m : Position) → ((n : ℕ) → opened n k ≡ n) → Covers c i j → Takes k j m → Covers (plus 1 c) i m
token_after k c i j m l v t =
    less (plus 1 c) (beside c (flat 1)) i m (record { tokens = omega arith; height = omega arith }) (beside_covers c (flat 1) i j m v (one k j m l t))

round : (c : Cost) (i j k m : Position) → Takes (kind.Sign sign.OpenParenthesis) i j → Covers c j k → Takes (kind.Sign sign.CloseParenthesis) k m → Covers (in_brackets c) i m
round c i j k m t v u =
    let s = step _ i j t in
    let r = step _ k m u in
    record {
      tokens = let e = s.tokens in let f = v.tokens in let h = r.tokens in omega (arith, e, f, h);
      height = λ n. let e = s.onward n in let f = v.height (n + 1) in omega (arith, e, f);
      onward = λ n. let e = s.onward n in let f = v.onward (n + 1) in let h = r.onward (n + 1) in let back : (n + 1) - 1 ≡ n = omega arith in let b = ap (λ z. deepest z m.rest) back in omega (arith, e, f, h, b);
    }

-- what follows an opening bracket, up to its closing one
record Closes (c : Cost) (i j : Position) : Type 0 where
  tokens : c.tokens + suc (length j.rest) ≤ length i.rest
  height : (n : ℕ) → n + c.height ≤ deepest n i.rest
  onward : (n : ℕ) → deepest n j.rest ≤ deepest (n + 1) i.rest

closing : (x : Sign) (i j : Position) → ((n : ℕ) → opened n (kind.Sign x) ≡ n - 1) → Takes (kind.Sign x) i j → Closes (flat 0) i j
closing x i j l t = let s = step _ i j t in record {
  tokens = let e = s.tokens in omega (arith, e);
  height = λ n. let e = s.height n in omega (arith, e);
  onward = λ n. let e = s.onward (n + 1) in let back : (n + 1) - 1 ≡ n = omega arith in let f = ap (λ z. deepest z j.rest) (l (n + 1) ∙ back) in omega (arith, e, f);
}

before_closing : (c d : Cost) (i j k : Position) → Covers c i j → Closes d j k → Closes (beside c d) i k
before_closing c d i j k v w = record {
  tokens = let e = v.tokens in let f = w.tokens in omega (arith, e, f);
  height = λ n. let e = v.height n in let f = w.height n in let h = v.onward n in omega (arith, e, f, h);
  onward = λ n. let e = v.onward (n + 1) in let f = w.onward n in omega (arith, e, f);
}

less_closes : (c d : Cost) (i j : Position) → NoMore c d → Closes d i j → Closes c i j
less_closes c d i j m v = record {
  tokens = let e = m.tokens in let f = v.tokens in omega (arith, e, f);
  height = λ n. let e = m.height in let f = v.height n in omega (arith, e, f);
  onward = v.onward;
}

opening : (x : Sign) (c : Cost) (i j k : Position) → ((n : ℕ) → opened n (kind.Sign x) ≡ n + 1) → Takes (kind.Sign x) i j → Closes c j k → Covers (in_brackets c) i k
opening x c i j k l t v =
    let s = step _ i j t in
    record {
      tokens = let e = s.tokens in let f = v.tokens in omega (arith, e, f);
      height = λ n. let e = s.onward n in let f = v.height (n + 1) in let h = ap (λ z. deepest z j.rest) (l n) in omega (arith, e, f, h);
      onward = λ n. let e = s.onward n in let f = v.onward n in let h = ap (λ z. deepest z j.rest) (l n) in omega (arith, e, f, h);
    }

by_layer : (a : Expr) (w : Costing) (s : Sort) (m : Bool) (i j : Position) → cost a ≡ w → Covers (w s m) i j → Covers (cost a s m) i j
by_layer a w s m i j is v = subst (λ (f : Costing). Covers (f s m) i j) (sym is) v

wider : (a : Expr) (s s' : Sort) (m : Bool) (i j : Position) → Wider s s' → Covers (cost a s m) i j → Covers (cost a s' m) i j
wider a s s' m i j w v = less (cost a s' m) (cost a s m) i j ((costs a).snug.wider s s' w m) v

-- where a minus may stand directly before it
abbrev Allowed : Bool → Position → Type 0
Allowed false i = Unit {0}
Allowed true i = sees_number i ≡ false

pick_covers : (i j k l m n : Position) (c a b : Expr) (v : Bool) → Covers (cost c (Binary Or) false) i j → Takes (kind.Sign sign.Question) j k → Covers (cost a (Binary Or) false) k l
    → Takes (kind.Sign sign.Colon) l m → Covers (cost b Whole false) m n → Covers (cost (tree.Pick (span i n) c a b) Whole v) i n
pick_covers i j k l m n c a b v rc t ra u rb =
    by_layer (tree.Pick (span i n) c a b) _ Whole v i n (fold_pick layer_cost (span i n) c a b)
    (beside_covers (plus 1 (cost c (Binary Or) false)) (beside (plus 1 (cost a (Binary Or) false)) (cost b Whole false)) i k n (token_after (kind.Sign sign.Question) _ i j k (λ n. refl) rc t)
    (beside_covers (plus 1 (cost a (Binary Or) false)) (cost b Whole false) k m n (token_after (kind.Sign sign.Colon) _ k l m (λ n. refl) ra u) rb))

operator_level : (l : Level) (x : Sign) (o : Op) → g.op_of l x ≡ Some o → (level_of o ≡ l) × ((n : ℕ) → opened n (kind.Sign x) ≡ n)
operator_level Or sign.OrOr o e = (ap level_of (sym (some_is e)), λ n. refl)
operator_level And sign.AndAnd o e = (ap level_of (sym (some_is e)), λ n. refl)
operator_level Rel sign.Less o e = (ap level_of (sym (some_is e)), λ n. refl)
operator_level Rel sign.LessEqual o e = (ap level_of (sym (some_is e)), λ n. refl)
operator_level Rel sign.Greater o e = (ap level_of (sym (some_is e)), λ n. refl)
operator_level Rel sign.GreaterEqual o e = (ap level_of (sym (some_is e)), λ n. refl)
operator_level Rel sign.EqualEqual o e = (ap level_of (sym (some_is e)), λ n. refl)
operator_level Rel sign.NotEqual o e = (ap level_of (sym (some_is e)), λ n. refl)
operator_level Rel sign.In o e = (ap level_of (sym (some_is e)), λ n. refl)
operator_level Add sign.Plus o e = (ap level_of (sym (some_is e)), λ n. refl)
operator_level Add sign.Minus o e = (ap level_of (sym (some_is e)), λ n. refl)
operator_level Mul sign.Star o e = (ap level_of (sym (some_is e)), λ n. refl)
operator_level Mul sign.Slash o e = (ap level_of (sym (some_is e)), λ n. refl)
operator_level Mul sign.Percent o e = (ap level_of (sym (some_is e)), λ n. refl)
operator_level _ _ o e = cc

two_covers : (l : Level) (i j k m : Position) (x : Sign) (o : Op) (a b : Expr) (v : Bool) → Covers (cost a (Binary l) false) i j → Takes (kind.Sign x) j k → g.op_of l x ≡ Some o
    → Covers (cost b (operand l) false) k m → Covers (cost (tree.Two (span i m) o a b) (Binary l) v) i m
two_covers l i j k m x o a b v ra t f rb =
    let e = operator_level l x o f in
    let w = beside_covers (plus 1 (cost a (Binary l) false)) (cost b (operand l) false) i k m (token_after (kind.Sign x) (cost a (Binary l) false) i j k e.1 ra t) rb in
    by_layer (tree.Two (span i m) o a b) _ (Binary l) v i m (fold_two layer_cost (span i m) o a b)
    (subst (λ b'. Covers (cond b' (inner (level_of o)) (in_brackets (inner (level_of o)))) i m) (sym (ap (λ z. within (Binary z) (Binary l)) e.0 ∙ own_fits l))
    (subst (λ z. Covers (inner z) i m) (sym e.0) w))
  where
    inner : Level → Cost
    inner z = beside (plus 1 (cost a (Binary z) false)) (cost b (operand z) false)

    own_fits : (l : Level) → within (Binary l) (Binary l) ≡ true
    own_fits Or = refl
    own_fits And = refl
    own_fits Rel = refl
    own_fits Add = refl
    own_fits Mul = refl

not_covers : (i j k : Position) (a : Expr) (v : Bool) → Takes (kind.Sign sign.Bang) i j → Covers (cost a Nots false) j k → Covers (cost (tree.Not (span i k) a) Nots v) i k
not_covers i j k a v t r =
    by_layer (tree.Not (span i k) a) _ Nots v i k (fold_not layer_cost (span i k) a) (token_before (kind.Sign sign.Bang) (cost a Nots false) i j k (λ n. refl) t r)

unary_neg_covers : (i j k : Position) (a : Expr) (v : Bool) → Takes (kind.Sign sign.Minus) i j → Covers (cost a Negs true) j k → Covers (cost (tree.Neg (span i k) a) Unary v) i k
unary_neg_covers i j k a v t r =
    by_layer (tree.Neg (span i k) a) _ Unary v i k (fold_neg layer_cost (span i k) a) (token_before (kind.Sign sign.Minus) (cost a Negs true) i j k (λ n. refl) t r)

neg_covers : (i j k : Position) (a : Expr) (v : Bool) → Takes (kind.Sign sign.Minus) i j → Covers (cost a Negs true) j k → Covers (cost (tree.Neg (span i k) a) Negs v) i k
neg_covers i j k a v t r =
    by_layer (tree.Neg (span i k) a) _ Negs v i k (fold_neg layer_cost (span i k) a) (token_before (kind.Sign sign.Minus) (cost a Negs true) i j k (λ n. refl) t r)

select_covers : (i j k m : Position) (a : Expr) (x : List ℕ) (v : Bool) → Covers (cost a Member v) i j → Takes (kind.Sign sign.Dot) j k → Takes (kind.Name x) k m
    → Covers (cost (tree.Select (span i m) a x) Member v) i m
select_covers i j k m a x v r t u =
    by_layer (tree.Select (span i m) a x) _ Member v i m (fold_select layer_cost (span i m) a x)
    (less (plus 2 (cost a Member v)) (plus 1 (plus 1 (cost a Member v))) i m (record { tokens = omega arith; height = omega arith })
    (token_after (kind.Name x) (plus 1 (cost a Member v)) i k m (λ n. refl) (token_after (kind.Sign sign.Dot) (cost a Member v) i j k (λ n. refl) r t) u))

method_covers : (i j k l m n : Position) (a : Expr) (x : List ℕ) (es : List Expr) (v : Bool) → Covers (cost a Member v) i j → Takes (kind.Sign sign.Dot) j k → Takes (kind.Name x) k l
    → Takes (kind.Sign sign.OpenParenthesis) l m → Closes (separated_cost (map cost es)) m n → Covers (cost (tree.Method (span i n) a x es) Member v) i n
method_covers i j k l m n a x es v r t u p q =
    by_layer (tree.Method (span i n) a x es) _ Member v i n (fold_method layer_cost (span i n) a x es)
    (beside_covers (plus 2 (cost a Member v)) (in_brackets (separated_cost (map cost es))) i l n
    (less (plus 2 (cost a Member v)) (plus 1 (plus 1 (cost a Member v))) i l (record { tokens = omega arith; height = omega arith })
    (token_after (kind.Name x) (plus 1 (cost a Member v)) i k l (λ n. refl) (token_after (kind.Sign sign.Dot) (cost a Member v) i j k (λ n. refl) r t) u))
    (opening sign.OpenParenthesis (separated_cost (map cost es)) l m n (λ n. refl) p q))

call_covers : (i j k m : Position) (x : List ℕ) (es : List Expr) (v : Bool) → Takes (kind.Name x) i j → Takes (kind.Sign sign.OpenParenthesis) j k → Closes (separated_cost (map cost es)) k m
    → Covers (cost (tree.Call (span i m) x es) Primary v) i m
call_covers i j k m x es v t u q =
    by_layer (tree.Call (span i m) x es) _ Primary v i m (fold_call layer_cost (span i m) x es)
    (token_before (kind.Name x) (in_brackets (separated_cost (map cost es))) i j m (λ n. refl) t (opening sign.OpenParenthesis (separated_cost (map cost es)) j k m (λ n. refl) u q))

many_covers : (i j k : Position) (es : List Expr) (v : Bool) → Takes (kind.Sign sign.OpenBracket) i j → Closes (separated_cost (map cost es)) j k → Covers (cost (tree.Many (span i k) es) Primary v) i k
many_covers i j k es v t q =
    by_layer (tree.Many (span i k) es) _ Primary v i k (fold_many layer_cost (span i k) es) (opening sign.OpenBracket (separated_cost (map cost es)) i j k (λ n. refl) t q)

number_covers : (i j : Position) (n : ℕ) (v : Bool) → Takes (kind.Number n) i j → Allowed v i → Covers (cost (tree.Int (span i j) (pos n)) Primary v) i j
number_covers i j n false t h = by_layer (tree.Int (span i j) (pos n)) _ Primary false i j (fold_int layer_cost (span i j) (pos n)) (one (kind.Number n) i j (λ n. refl) t)
number_covers i j n true t h = absurd (apart (sees_number i) h (begins_with t))
  where
    apart : (b : Bool) → b ≡ false → b ≡ true → ⊥
    apart b p q = cc

minus_number : (i j k : Position) (n : ℕ) → Takes (kind.Sign sign.Minus) i j → Takes (kind.Number n) j k → Covers (flat 2) i k
minus_number i j k n t u =
    less (flat 2) (plus 1 (flat 1)) i k (record { tokens = omega arith; height = omega arith }) (token_before (kind.Sign sign.Minus) (flat 1) i j k (λ n. refl) t (one (kind.Number n) j k (λ n. refl) u))

negative_covers : (i j k : Position) (n : ℕ) (v : Bool) → Takes (kind.Sign sign.Minus) i j → Takes (kind.Number n) j k → Covers (cost (tree.Int (span i k) (neg_ℤ (pos n))) Primary v) i k
negative_covers i j k n v t u =
    by_layer (tree.Int (span i k) (neg_ℤ (pos n))) _ Primary v i k (fold_int layer_cost (span i k) (neg_ℤ (pos n))) (go n v (minus_number i j k n t u))
  where
    go : (n : ℕ) (v : Bool) → Covers (flat 2) i k → Covers (number_cost (neg_ℤ (pos n)) v) i k
    go zero false w = less (flat 1) (flat 2) i k (record { tokens = omega arith; height = omega arith }) w
    go zero true w = w
    go (suc n) v w = w

last_closes_at : (c : Cost) (x : Sign) (i j k : Position) → ((n : ℕ) → opened n (kind.Sign x) ≡ n - 1) → Covers c i j → Takes (kind.Sign x) j k → Closes c i k
last_closes_at c x i j k l v t =
    less_closes c (beside c (flat 0)) i k (record { tokens = omega arith; height = omega arith }) (before_closing c (flat 0) i j k v (closing x j k l t))

last_closes : (a : Expr) (x : Sign) (i j k : Position) → ((n : ℕ) → opened n (kind.Sign x) ≡ n - 1) → Covers (cost a Whole false) i j → Takes (kind.Sign x) j k
    → Closes (separated_cost (map cost (a ∷ []))) i k
last_closes a x i j k l v t = last_closes_at (cost a Whole false) x i j k l v t

more_closes : (a : Expr) (es : List Expr) (i j k m : Position) → Covers (cost a Whole false) i j → Takes (kind.Sign sign.Comma) j k → Closes (separated_cost (map cost es)) k m
    → Closes (separated_cost (map cost (a ∷ es))) i m
more_closes a [] i j k m v t w =
    less_closes (cost a Whole false) (beside (plus 1 (cost a Whole false)) (flat 0)) i m (record { tokens = omega arith; height = omega arith })
    (before_closing (plus 1 (cost a Whole false)) (flat 0) i k m (token_after (kind.Sign sign.Comma) (cost a Whole false) i j k (λ n. refl) v t) w)
more_closes a (b ∷ es) i j k m v t w =
    let rest = separated_cost (map cost (b ∷ es)) in
    less_closes (beside (cost a Whole false) (plus 1 rest)) (beside (plus 1 (cost a Whole false)) rest) i m (record { tokens = omega arith; height = omega arith })
    (before_closing (plus 1 (cost a Whole false)) rest i k m (token_after (kind.Sign sign.Comma) (cost a Whole false) i j k (λ n. refl) v t) w)

mutual
  covers : {s : Sort} {i j : Position} {a : Expr} → Derives s i j a → (v : Bool) → Allowed v i → Covers (cost a s v) i j
  covers (g.whole {i = i} {j = j} {a = a} d) v h = wider a (Binary Or) Whole v i j whole_is_wider (covers d v h)
  covers (g.pick {i = i} {j = j} {k = k} {l = l} {m = m} {n = n} {c = c} {a = a} {b = b} d t e u f) v h = pick_covers i j k l m n c a b v (covers d false tt) t (covers e false tt) u (covers f false tt)
  covers (g.alone {l = l} {i = i} {j = j} {a = a} d) v h = wider a (operand l) (Binary l) v i j (level_is_wider l) (covers d v h)
  covers (g.two {l = l} {i = i} {j = j} {k = k} {m = m} {x = x} {o = o} {a = a} {b = b} d t e f) v h = two_covers l i j k m x o a b v (covers d false tt) t e (covers f false tt)
  covers (g.unary {i = i} {j = j} {a = a} d) v h = wider a Nots Unary v i j unary_is_wider (covers d v h)
  covers (g.unary_neg {i = i} {j = j} {k = k} {a = a} t n d) v h = unary_neg_covers i j k a v t (covers d true n)
  covers (g.not {i = i} {j = j} {k = k} {a = a} t d) v h = not_covers i j k a v t (covers d false tt)
  covers (g.not_end {i = i} {j = j} {a = a} d) v h = wider a Member Nots v i j nots_are_wider (covers d v h)
  covers (g.neg {i = i} {j = j} {k = k} {a = a} t n d) v h = neg_covers i j k a v t (covers d true n)
  covers (g.neg_end {i = i} {j = j} {a = a} d) v h = wider a Member Negs v i j negs_are_wider (covers d v h)
  covers (g.primary {i = i} {j = j} {a = a} d) v h = wider a Primary Member v i j member_is_wider (covers d v h)
  covers (g.select {i = i} {j = j} {k = k} {m = m} {a = a} {x = x} d t u) v h = select_covers i j k m a x v (covers d v h) t u
  covers (g.method {i = i} {j = j} {k = k} {l = l} {m = m} {n = n} {a = a} {x = x} {es = es} d t u p r) v h = method_covers i j k l m n a x es v (covers d v h) t u p (covers_arguments r)
  covers (g.name {i = i} {j = j} {x = x} t) v h = by_layer (tree.Name (span i j) x) _ Primary v i j (fold_name layer_cost (span i j) x) (one (kind.Name x) i j (λ n. refl) t)
  covers (g.call {i = i} {j = j} {k = k} {m = m} {x = x} {es = es} t u r) v h = call_covers i j k m x es v t u (covers_arguments r)
  covers (g.group {i = i} {j = j} {k = k} {m = m} {a = a} t d u) v h =
      less (cost a Primary v) (in_brackets (cost a Whole false)) i m ((costs a).snug.inside Primary v) (round (cost a Whole false) i j k m t (covers d false tt) u)
  covers (g.list {i = i} {j = j} {k = k} {es = es} t r) v h = many_covers i j k es v t (covers_elements r)
  covers (g.truth {i = i} {j = j} {b = b} t) v h = by_layer (tree.Bool (span i j) b) _ Primary v i j (fold_bool layer_cost (span i j) b) (one (kind.Truth b) i j (λ n. refl) t)
  covers (g.number {i = i} {j = j} {n = n} t u) v h = number_covers i j n v t h
  covers (g.negative {i = i} {j = j} {k = k} {n = n} t u x) v h = negative_covers i j k n v t u
  covers (g.text {i = i} {j = j} {x = x} t) v h = by_layer (tree.Str (span i j) x) _ Primary v i j (fold_str layer_cost (span i j) x) (one (kind.Str x) i j (λ n. refl) t)

  covers_arguments : {i j : Position} {es : List Expr} → Arguments i j es → Closes (separated_cost (map cost es)) i j
  covers_arguments (g.no_arguments {i = i} {j = j} t) = closing sign.CloseParenthesis i j (λ n. refl) t
  covers_arguments (g.arguments r) = covers_listed r

  covers_listed : {i j : Position} {es : List Expr} → Listed i j es → Closes (separated_cost (map cost es)) i j
  covers_listed (g.last {i = i} {j = j} {k = k} {a = a} d t) = last_closes a sign.CloseParenthesis i j k (λ n. refl) (covers d false tt) t
  covers_listed (g.more {i = i} {j = j} {k = k} {m = m} {a = a} {es = es} d t r) = more_closes a es i j k m (covers d false tt) t (covers_listed r)

  covers_elements : {i j : Position} {es : List Expr} → Elements i j es → Closes (separated_cost (map cost es)) i j
  covers_elements (g.no_elements {i = i} {j = j} t) = closing sign.CloseBracket i j (λ n. refl) t
  covers_elements (g.elements r) = covers_row r

  covers_row : {i j : Position} {es : List Expr} → Row i j es → Closes (separated_cost (map cost es)) i j
  covers_row (g.row_last {i = i} {j = j} {k = k} {a = a} d t) = last_closes a sign.CloseBracket i j k (λ n. refl) (covers d false tt) t
  covers_row (g.row_comma {i = i} {j = j} {k = k} {m = m} {a = a} d t u) =
      less_closes (cost a Whole false) (plus 1 (cost a Whole false)) i m (record { tokens = omega arith; height = omega arith })
      (last_closes_at (plus 1 (cost a Whole false)) sign.CloseBracket i k m (λ n. refl) (token_after (kind.Sign sign.Comma) (cost a Whole false) i j k (λ n. refl) (covers d false tt) t) u)
  covers_row (g.row_more {i = i} {j = j} {k = k} {m = m} {a = a} {es = es} d t r) = more_closes a es i j k m (covers d false tt) t (covers_row r)

-- what is written by itself is no larger than the tokens that it was read from
pub lighter : (i j : Position) (a : Expr) (ts : List Token) → Derives Whole i j a → kinds_of ts ≡ tokens_of (shown a Whole false) → NoLarger ts i.rest
lighter i j a ts d e =
    let m = measured a Whole false ts e in
    let c = covers d false tt in
    record {
      shorter = let h = m.tokens in let f = c.tokens in omega (arith, h, f);
      shallower = let h = m.height in let f = c.height 0 in omega (arith, h, f);
    }
