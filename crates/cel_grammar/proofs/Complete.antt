-- What is derived is what the reader gives.
use Rattle.std.proofs.Common.{◌≡◌, ◌≢◌, ℕ, zero, suc, ◌+◌, ◌<◌, ◌≤◌, pos, neg_ℤ, ◌^◌, cond, List, [], ◌∷◌, ◌++◌, length, Some, None, false, refl, ap, ◌∙◌, rules, arith, append_assoc, lit<}
use Rattle.std.proofs.lemmas.Bool.{lt-ltb, le-leb}
use Rattle.cel_tree.specs.declared.tree.Op.{Op}
use Rattle.cel_tree.specs.declared.tree.Expr.{Expr}
use Rattle.cel_tree.specs.declared.tree.Expr.TheVariants as tree
use Rattle.cel_tree.specs.declared.token.Sign.{Sign}
use Rattle.cel_tree.specs.declared.token.Sign.TheVariants as sign
use Rattle.cel_tree.specs.declared.token.TokenKind.{TokenKind}
use Rattle.cel_tree.specs.declared.token.TokenKind.TheVariants as kind
use Rattle.cel_grammar.specs.declared.level.Level.{Level}
use Rattle.cel_grammar.specs.declared.level.Level.TheVariants.{Or, And, Rel, Add, Mul}
use Rattle.cel_grammar.specs.Position.{Position, from, span, Takes, sees_number}
use Rattle.cel_grammar.specs.Grammar as g
use Rattle.cel_grammar.specs.Grammar.{Sort, Whole, Binary, Unary, Nots, Negs, Member, Primary, operand, op_of, method_tree, Derives, Arguments, Listed, Elements, Row}
use Rattle.cel_grammar.specs.Reader.{Parser, and_then, pure, fail, next, after, negated, literal, negative_by, negative, sees, name_in, name, with_op, args_from, args, called, grouped, row_from, row, listed, primary_by, primary, selected, member_from, member, nots, negs, unary, chain_from, chained, side, chain, picked, whole_of, whole_at}
use Rattle.cel_grammar.proofs.Rank.{sign_rank, rank, sort_rank, Stops, operand_rank, takes_next, takes_first, takes_length, takes_rank, after_takes, after_skips, after_unseen, NoNegation, negation_takes, negation_skips, begins, listed_opens, row_starts, not_comma, bracket_not_comma, op_rank, op_none, op_some, shrinks, arguments_shrink}

-- what the reader of s gives at i is e, and goes on at j
abbrev Gives : Sort → Parser Expr → Position → Expr → Position → Type 0
Gives Whole w i e j = whole_of w i ≡ Some (e, j)
Gives (Binary l) w i e j = chain w l i ≡ Some (e, j)
Gives Unary w i e j = unary w i ≡ Some (e, j)
Gives Nots w i e j = (k : ℕ) → length i.rest ≤ k → nots w k i ≡ Some (e, j)
Gives Negs w i e j = (k : ℕ) → length i.rest ≤ k → negs w k i ≡ Some (e, j)
Gives Member w i e j = member w i ≡ Some (e, j)
Gives Primary w i e j = primary w i ≡ Some (e, j)

record Good (s : Sort) (i j : Position) (e : Expr) : Type 0 where
  at : (n : ℕ) → length i.rest ≤ n → Stops s j → Gives s (whole_at n) i e j

-- the reader of a level has come from i to j, and goes on from there
record Climbs (n : ℕ) (l : Level) (i j : Position) (e : Expr) : Type 0 where
  turns : ℕ
  enough : length j.rest ≤ turns
  climbs : chain (whole_at n) l i ≡ chain_from (whole_at n) l (side (whole_at n) l) turns (from i) e j

record Walks (n : ℕ) (i j : Position) (e : Expr) : Type 0 where
  turns : ℕ
  enough : length j.rest ≤ turns
  walks : member (whole_at n) i ≡ member_from (whole_at n) turns (from i) e j

abbrev StrongAt : Sort → Position → Position → Expr → Type 0
StrongAt (Binary l) i j e = (n : ℕ) → length i.rest ≤ n → Stops (operand l) j → Climbs n l i j e
StrongAt Member i j e = (n : ℕ) → length i.rest ≤ n → Stops Primary j → Walks n i j e
StrongAt s i j e = Good s i j e

record Strong (s : Sort) (i j : Position) (e : Expr) : Type 0 where
  at : StrongAt s i j e

record GoodListed (i j : Position) (es : List Expr) : Type 0 where
  at : (n : ℕ) → length i.rest < n → (k : ℕ) → length i.rest ≤ k → (before : List Expr) → args_from (whole_at n) k before i ≡ Some (before ++ es, j)

record GoodArguments (i j : Position) (es : List Expr) : Type 0 where
  at : (n : ℕ) → length i.rest < n → args (whole_at n) i ≡ Some (es, j)

-- from the strong form to the plain one

chain_stops : (w : Parser Expr) (l : Level) (p : Parser Expr) (k start : ℕ) (e : Expr) (j : Position) → Stops (Binary l) j → chain_from w l p k start e j ≡ Some (e, j)
unfolding chain_from
chain_stops w l p zero start e j s = refl
chain_stops w l p (suc k) start e j s =
    let no : rank j ≢ sort_rank (Binary l) = omega (arith, s.above) in
    ap (λ o. with_op o (λ o. λ i. and_then (p i) (λ b m. chain_from w l p k start (tree.Two (record { from = start; to = m.last }) o e b) m)) (pure e) j) (op_none l j no)

member_stops : (w : Parser Expr) (k start : ℕ) (e : Expr) (j : Position) → Stops Member j → member_from w k start e j ≡ Some (e, j)
unfolding member_from
member_stops w zero start e j s = refl
member_stops w (suc k) start e j s =
    after_skips sign.Dot (λ i. and_then (name i) (λ x. λ m. and_then (selected w start e x m) (λ b. member_from w k start b))) (pure e) j (omega (arith, s.above))

below_level : (l : Level) (j : Position) → Stops (Binary l) j → Stops (operand l) j
below_level l j s = record { above = omega (arith, operand_rank l, s.above) }

good : (s : Sort) (i j : Position) (e : Expr) → Strong s i j e → Good s i j e
good (Binary l) i j e r = record {
  at = λ n h s.
      let c = r.at n h (below_level l j s) in c.climbs ∙ chain_stops (whole_at n) l (side (whole_at n) l) c.turns (from i) e j s;
}
good Member i j e r = record {
  at = λ n h s.
      let c = r.at n h (record { above = omega (arith, s.above) }) in c.walks ∙ member_stops (whole_at n) c.turns (from i) e j s;
}
good Whole i j e r = r.at
good Unary i j e r = r.at
good Nots i j e r = r.at
good Negs i j e r = r.at
good Primary i j e r = r.at

whole_gives : (i j : Position) (e : Expr) → Good Whole i j e → (n : ℕ) → length i.rest < n → Stops Whole j → whole_at n i ≡ Some (e, j)
unfolding whole_at
whole_gives i j e r zero h s = absurd (omega (arith, h))
whole_gives i j e r (suc n) h s = r.at n (omega (arith, h)) s

side_gives : (l : Level) (w : Parser Expr) (i j : Position) (e : Expr) → Gives (operand l) w i e j → side w l i ≡ Some (e, j)
side_gives Or w i j e r = r
side_gives And w i j e r = r
side_gives Rel w i j e r = r
side_gives Add w i j e r = r
side_gives Mul w i j e r = r

-- the rules

-- behind this sign nothing goes on
closed : (s : Sort) (x : Sign) (i j : Position) → Takes (kind.Sign x) i j → sort_rank s < sign_rank x → Stops s i
closed s x i j t h = record { above = omega (arith, takes_rank t, h) }

whole_rule : (i j : Position) (e : Expr) → Good (Binary Or) i j e → Good Whole i j e
unfolding whole_of picked
whole_rule i j e r = record {
  at = λ n h s.
      ap (λ z. and_then z (picked (whole_at n) i)) (r.at n h (record { above = omega (arith, s.above) }))
      ∙ after_skips sign.Question (λ k. and_then (chain (whole_at n) Or k) (λ a. after sign.Colon (λ m. and_then (whole_at n m) (λ b n. Some (tree.Pick (span i n) e a b, n))) fail)) (pure e) j (omega (arith, s.above));
}

pick_rule : (i j k l m v : Position) (c a b : Expr) → Good (Binary Or) i j c → Takes (kind.Sign sign.Question) j k → Good (Binary Or) k l a → Takes (kind.Sign sign.Colon) l m → Good Whole m v b
    → length j.rest < length i.rest → length l.rest < length k.rest → Good Whole i v (tree.Pick (span i v) c a b)
unfolding whole_of picked
pick_rule i j k l m v c a b r t q u f x y = record {
  at = λ n h s.
      ap (λ z. and_then z (picked (whole_at n) i)) (r.at n h (closed _ _ j k t (lit< tt)))
      ∙ after_takes sign.Question (λ k. and_then (chain (whole_at n) Or k) (λ a. after sign.Colon (λ m. and_then (whole_at n m) (λ b n. Some (tree.Pick (span i n) c a b, n))) fail)) (pure c) j k t
      ∙ ap (λ z. and_then z (λ a. after sign.Colon (λ m. and_then (whole_at n m) (λ b n. Some (tree.Pick (span i n) c a b, n))) fail)) (q.at n (omega (arith, takes_length t, h, x)) (closed _ _ l m u (lit< tt)))
      ∙ after_takes sign.Colon (λ m. and_then (whole_at n m) (λ b n. Some (tree.Pick (span i n) c a b, n))) fail l m u
      ∙ ap (λ z. and_then z (λ b n. Some (tree.Pick (span i n) c a b, n))) (whole_gives m v b f n (omega (arith, takes_length t, takes_length u, h, x, y)) s);
}

alone_rule : (l : Level) (i j : Position) (e : Expr) → Good (operand l) i j e → length j.rest < length i.rest → Strong (Binary l) i j e
unfolding chained
alone_rule l i j e r x = record {
  at = λ n h s. record {
    turns = length i.rest;
    enough = omega (arith, x);
    climbs = ap (λ z. and_then z (chain_from (whole_at n) l (side (whole_at n) l) (length i.rest) (from i))) (side_gives l (whole_at n) i j e (r.at n h s));
  };
}

two_step : (n : ℕ) (l : Level) (i j k m : Position) (x : Sign) (o : Op) (a b : Expr) → Takes (kind.Sign x) j k → op_of l x ≡ Some o → length m.rest < length k.rest → (c : ℕ) → length j.rest ≤ c
    → chain (whole_at n) l i ≡ chain_from (whole_at n) l (side (whole_at n) l) c (from i) a j → side (whole_at n) l k ≡ Some (b, m) → Climbs n l i m (tree.Two (span i m) o a b)
unfolding chain_from
two_step n l i j k m x o a b t f y zero h e q = absurd (omega (arith, takes_length t, h))
two_step n l i j k m x o a b t f y (suc c) h e q =
    let w = whole_at n in
    let go = λ (o : Op) (i' : Position). and_then (side w l i') (λ b m. chain_from w l (side w l) c (from i) (tree.Two (record { from = from i; to = m.last }) o a b) m) in
    record {
      turns = c;
      enough = omega (arith, takes_length t, h, y);
      climbs = e ∙ ap (λ o. with_op o (λ o. λ i'. and_then (side w l i') (λ b m. chain_from w l (side w l) c (from i) (tree.Two (record { from = from i; to = m.last }) o a b) m)) (pure a) j) (op_some l x o j k t f)
          ∙ ap (go o) (takes_next (kind.Sign x) j k t)
          ∙ ap (λ z. and_then z (λ b m. chain_from w l (side w l) c (from i) (tree.Two (record { from = from i; to = m.last }) o a b) m)) q;
    }

two_rule : (l : Level) (i j k m : Position) (x : Sign) (o : Op) (a b : Expr) → Strong (Binary l) i j a → Takes (kind.Sign x) j k → op_of l x ≡ Some o → Good (operand l) k m b
    → length j.rest < length i.rest → length m.rest < length k.rest → Strong (Binary l) i m (tree.Two (span i m) o a b)
two_rule l i j k m x o a b r t f q y z = record {
  at = λ n h s.
      let st : Stops (operand l) j = record { above = omega (arith, takes_rank t, op_rank l x o f, operand_rank l) } in
      let c = r.at n h st in
      two_step n l i j k m x o a b t f z c.turns c.enough c.climbs (side_gives l (whole_at n) k m b (q.at n (omega (arith, takes_length t, h, y)) s));
}

nots_turn : (w : Parser Expr) (i j k : Position) (a : Expr) → Takes (kind.Sign sign.Bang) i j → (c : ℕ) → length i.rest ≤ c → ((c : ℕ) → length j.rest ≤ c → nots w c j ≡ Some (a, k)) → nots w c i ≡ Some (tree.Not (span i k) a, k)
unfolding nots
nots_turn w i j k a t zero x r = absurd (omega (arith, takes_length t, x))
nots_turn w i j k a t (suc c) x r =
    after_takes sign.Bang (λ z. and_then (nots w c z) (λ a m. Some (tree.Not (span i m) a, m))) (member w) i j t
    ∙ ap (λ z. and_then z (λ a m. Some (tree.Not (span i m) a, m))) (r c (omega (arith, takes_length t, x)))

not_rule : (i j k : Position) (a : Expr) → Takes (kind.Sign sign.Bang) i j → Good Nots j k a → Good Nots i k (tree.Not (span i k) a)
not_rule i j k a t r = record { at = λ n h s c x. nots_turn (whole_at n) i j k a t c x (r.at n (omega (arith, takes_length t, h)) s) }

negs_turn : (w : Parser Expr) (i j k : Position) (a : Expr) → Takes (kind.Sign sign.Minus) i j → sees_number j ≡ false → (c : ℕ) → length i.rest ≤ c → ((c : ℕ) → length j.rest ≤ c → negs w c j ≡ Some (a, k)) → negs w c i ≡ Some (tree.Neg (span i k) a, k)
unfolding negs
negs_turn w i j k a t v zero x r = absurd (omega (arith, takes_length t, x))
negs_turn w i j k a t v (suc c) x r =
    negation_takes (λ z. and_then (negs w c z) (λ a m. Some (tree.Neg (span i m) a, m))) (member w) i j t v
    ∙ ap (λ z. and_then z (λ a m. Some (tree.Neg (span i m) a, m))) (r c (omega (arith, takes_length t, x)))

neg_rule : (i j k : Position) (a : Expr) → Takes (kind.Sign sign.Minus) i j → sees_number j ≡ false → Good Negs j k a → Good Negs i k (tree.Neg (span i k) a)
neg_rule i j k a t v r = record { at = λ n h s c x. negs_turn (whole_at n) i j k a t v c x (r.at n (omega (arith, takes_length t, h)) s) }

unary_neg_rule : (i j k : Position) (a : Expr) → Takes (kind.Sign sign.Minus) i j → sees_number j ≡ false → Good Negs j k a → Good Unary i k (tree.Neg (span i k) a)
unfolding unary
unary_neg_rule i j k a t v r = record {
  at = λ n h s.
      negation_takes (λ z. and_then (negs (whole_at n) (length i.rest) z) (λ a m. Some (tree.Neg (span i m) a, m))) (nots (whole_at n) (length i.rest)) i j t v
      ∙ ap (λ z. and_then z (λ a m. Some (tree.Neg (span i m) a, m))) (r.at n (omega (arith, takes_length t, h)) (record { above = s.above }) (length i.rest) (omega (arith, takes_length t)));
}

-- where no sign of a unary operator stands

unary_rule : (i j : Position) (a : Expr) → NoNegation i → Good Nots i j a → Good Unary i j a
unfolding unary
unary_rule i j a m r = record {
  at = λ n h s.
      negation_skips (λ z. and_then (negs (whole_at n) (length i.rest) z) (λ a m. Some (tree.Neg (span i m) a, m))) (nots (whole_at n) (length i.rest)) i m
      ∙ r.at n h (record { above = s.above }) (length i.rest) (omega arith);
}

nots_end : (w : Parser Expr) (i j : Position) (a : Expr) → sees sign.Bang i ≡ false → member w i ≡ Some (a, j) → (c : ℕ) → length i.rest ≤ c → nots w c i ≡ Some (a, j)
unfolding nots
nots_end w i j a m r zero x = r
nots_end w i j a m r (suc c) x = after_unseen sign.Bang (λ z. and_then (nots w c z) (λ a m. Some (tree.Not (span i m) a, m))) (member w) i m ∙ r

not_end_rule : (i j : Position) (a : Expr) → sees sign.Bang i ≡ false → Good Member i j a → Good Nots i j a
not_end_rule i j a m r = record { at = λ n h s. nots_end (whole_at n) i j a m (r.at n h (record { above = s.above })) }

negs_end : (w : Parser Expr) (i j : Position) (a : Expr) → NoNegation i → member w i ≡ Some (a, j) → (c : ℕ) → length i.rest ≤ c → negs w c i ≡ Some (a, j)
unfolding negs
negs_end w i j a m r zero x = r
negs_end w i j a m r (suc c) x = negation_skips (λ z. and_then (negs w c z) (λ a m. Some (tree.Neg (span i m) a, m))) (member w) i m ∙ r

neg_end_rule : (i j : Position) (a : Expr) → NoNegation i → Good Member i j a → Good Negs i j a
neg_end_rule i j a m r = record { at = λ n h s. negs_end (whole_at n) i j a m (r.at n h (record { above = s.above })) }

-- members

primary_rule : (i j : Position) (a : Expr) → Good Primary i j a → length j.rest < length i.rest → Strong Member i j a
unfolding member
primary_rule i j a r x = record {
  at = λ n h s. record {
    turns = length i.rest;
    enough = omega (arith, x);
    walks = ap (λ z. and_then z (member_from (whole_at n) (length i.rest) (from i))) (r.at n h s);
  };
}

name_gives : (x : List ℕ) (i j : Position) → Takes (kind.Name x) i j → name i ≡ Some (x, j)
name_gives x i j t = ap (λ o. name_in o i) (takes_first _ i j t) ∙ ap (λ (z : Position). Some (x, z)) (takes_next _ i j t)

dot_step : (w : Parser Expr) (i j k l m : Position) (a b : Expr) (x : List ℕ) (c : ℕ) → Takes (kind.Sign sign.Dot) j k → Takes (kind.Name x) k l → selected w (from i) a x l ≡ Some (b, m)
    → member_from w (suc c) (from i) a j ≡ member_from w c (from i) b m
unfolding member_from
dot_step w i j k l m a b x c t u q =
    after_takes sign.Dot (λ z. and_then (name z) (λ x. λ m. and_then (selected w (from i) a x m) (λ b. member_from w c (from i) b))) (pure a) j k t
    ∙ ap (λ z. and_then z (λ x. λ m. and_then (selected w (from i) a x m) (λ b. member_from w c (from i) b))) (name_gives x k l u)
    ∙ ap (λ z. and_then z (λ b. member_from w c (from i) b)) q

walk_on : (n : ℕ) (i j k l m : Position) (a b : Expr) (x : List ℕ) → Walks n i j a → Takes (kind.Sign sign.Dot) j k → Takes (kind.Name x) k l → length m.rest ≤ length l.rest
    → selected (whole_at n) (from i) a x l ≡ Some (b, m) → Walks n i m b
walk_on n i j k l m a b x r t u h q = go r.turns r.enough r.walks
  where
    go : (c : ℕ) → length j.rest ≤ c → member (whole_at n) i ≡ member_from (whole_at n) c (from i) a j → Walks n i m b
    go zero y e = absurd (omega (arith, takes_length t, y))
    go (suc c) y e = record { turns = c; enough = omega (arith, takes_length t, takes_length u, h, y); walks = e ∙ dot_step (whole_at n) i j k l m a b x c t u q }

selects : (w : Parser Expr) (i m : Position) (a : Expr) (x : List ℕ) → Stops Primary m → selected w (from i) a x m ≡ Some (tree.Select (span i m) a x, m)
unfolding selected
selects w i m a x s = after_skips sign.OpenParenthesis (λ n. and_then (args w n) (λ es m. Some (method_tree (record { from = from i; to = m.last }) a x es, m))) (λ m. Some (tree.Select (record { from = from i; to = m.last }) a x, m)) m (omega (arith, s.above))

calls_method : (w : Parser Expr) (i l m n : Position) (a : Expr) (x : List ℕ) (es : List Expr) → Takes (kind.Sign sign.OpenParenthesis) l m → args w m ≡ Some (es, n)
    → selected w (from i) a x l ≡ Some (method_tree (span i n) a x es, n)
unfolding selected
calls_method w i l m n a x es t q =
    after_takes sign.OpenParenthesis (λ n. and_then (args w n) (λ es m. Some (method_tree (record { from = from i; to = m.last }) a x es, m))) (λ m. Some (tree.Select (record { from = from i; to = m.last }) a x, m)) l m t
    ∙ ap (λ z. and_then z (λ es m. Some (method_tree (record { from = from i; to = m.last }) a x es, m))) q

before_dot : (j k : Position) → Takes (kind.Sign sign.Dot) j k → Stops Primary j
before_dot j k t = closed Primary sign.Dot j k t (lit< tt)

select_rule : (i j k m : Position) (a : Expr) (x : List ℕ) → Strong Member i j a → Takes (kind.Sign sign.Dot) j k → Takes (kind.Name x) k m → Strong Member i m (tree.Select (span i m) a x)
select_rule i j k m a x r t u = record { at = λ n h s. walk_on n i j k m m a _ x (r.at n h (before_dot j k t)) t u (omega arith) (selects (whole_at n) i m a x s) }

method_rule : (i j k l m v : Position) (a : Expr) (x : List ℕ) (es : List Expr) → Strong Member i j a → Takes (kind.Sign sign.Dot) j k → Takes (kind.Name x) k l → Takes (kind.Sign sign.OpenParenthesis) l m → GoodArguments m v es
    → length j.rest < length i.rest → length v.rest < length m.rest → Strong Member i v (method_tree (span i v) a x es)
method_rule i j k l m v a x es r t u p q y z = record {
  at = λ n h s.
      walk_on n i j k l v a _ x (r.at n h (before_dot j k t)) t u (omega (arith, takes_length p, z))
      (calls_method (whole_at n) i l m v a x es p (q.at n (omega (arith, takes_length t, takes_length u, takes_length p, h, y))));
}

-- primaries

primary_of : (w : Parser Expr) (k : TokenKind) (i j : Position) → Takes k i j → primary w i ≡ primary_by w i (Some k) j
unfolding primary
primary_of w k i j t = ap (λ o. primary_by w i o (next i)) (takes_first k i j t) ∙ ap (primary_by w i (Some k)) (takes_next k i j t)

name_rule : (i j : Position) (x : List ℕ) → Takes (kind.Name x) i j → Good Primary i j (tree.Name (span i j) x)
unfolding called
name_rule i j x t = record {
  at = λ n h s.
      primary_of (whole_at n) _ i j t
      ∙ after_skips sign.OpenParenthesis (λ k. and_then (args (whole_at n) k) (λ es m. Some (tree.Call (span i m) x es, m))) (λ j. Some (tree.Name (span i j) x, j)) j (omega (arith, s.above));
}

call_rule : (i j k m : Position) (x : List ℕ) (es : List Expr) → Takes (kind.Name x) i j → Takes (kind.Sign sign.OpenParenthesis) j k → GoodArguments k m es → Good Primary i m (tree.Call (span i m) x es)
unfolding called
call_rule i j k m x es t u q = record {
  at = λ n h s.
      primary_of (whole_at n) _ i j t
      ∙ after_takes sign.OpenParenthesis (λ k. and_then (args (whole_at n) k) (λ es m. Some (tree.Call (span i m) x es, m))) (λ j. Some (tree.Name (span i j) x, j)) j k u
      ∙ ap (λ z. and_then z (λ es m. Some (tree.Call (span i m) x es, m))) (q.at n (omega (arith, takes_length t, takes_length u, h)));
}

group_rule : (i j k m : Position) (a : Expr) → Takes (kind.Sign sign.OpenParenthesis) i j → Good Whole j k a → Takes (kind.Sign sign.CloseParenthesis) k m → Good Primary i m a
unfolding grouped
group_rule i j k m a t r u = record {
  at = λ n h s.
      primary_of (whole_at n) _ i j t
      ∙ ap (λ z. and_then z (λ a. after sign.CloseParenthesis (pure a) fail)) (whole_gives j k a r n (omega (arith, takes_length t, h)) (closed _ _ k m u (lit< tt)))
      ∙ after_takes sign.CloseParenthesis (pure a) fail k m u;
}

number_rule : (i j : Position) (v : ℕ) → Takes (kind.Number v) i j → v < 2 ^ 63 → Good Primary i j (tree.Int (span i j) (pos v))
number_rule i j v t u = record {
  at = λ n h s.
      primary_of (whole_at n) (kind.Number v) i j t
      ∙ ap (λ b. literal (from i) (cond b (Some (pos v)) None) j) (lt-ltb v (2 ^ 63) u);
}

negative_gives : (i j k : Position) (v : ℕ) → Takes (kind.Number v) j k → v ≤ 2 ^ 63 → negative (from i) j ≡ Some (tree.Int (span i k) (neg_ℤ (pos v)), k)
unfolding negative
negative_gives i j k v t u =
    ap (λ o. negative_by (from i) o j) (takes_first (kind.Number v) j k t)
    ∙ ap (literal (from i) (negated v)) (takes_next (kind.Number v) j k t)
    ∙ ap (λ b. literal (from i) (cond b (Some (neg_ℤ (pos v))) None) k) (le-leb v (2 ^ 63) u)

negative_rule : (i j k : Position) (v : ℕ) → Takes (kind.Sign sign.Minus) i j → Takes (kind.Number v) j k → v ≤ 2 ^ 63 → Good Primary i k (tree.Int (span i k) (neg_ℤ (pos v)))
negative_rule i j k v t u x = record {
  at = λ n h s. primary_of (whole_at n) (kind.Sign sign.Minus) i j t ∙ negative_gives i j k v u x;
}

-- arguments

args_last : (w : Parser Expr) (i j k : Position) (a : Expr) (before : List Expr) (c : ℕ) → Takes (kind.Sign sign.CloseParenthesis) j k → w i ≡ Some (a, j) → length i.rest ≤ c → length j.rest < length i.rest
    → args_from w c before i ≡ Some (before ++ a ∷ [], k)
unfolding args_from
args_last w i j k a before zero t q x y = absurd (omega (arith, x, y))
args_last w i j k a before (suc c) t q x y =
    ap (λ z. and_then z (λ a. after sign.Comma (args_from w c (before ++ a ∷ [])) (after sign.CloseParenthesis (pure (before ++ a ∷ [])) fail))) q
    ∙ after_unseen sign.Comma (args_from w c (before ++ a ∷ [])) (after sign.CloseParenthesis (pure (before ++ a ∷ [])) fail) j (not_comma j k t)
    ∙ after_takes sign.CloseParenthesis (pure (before ++ a ∷ [])) fail j k t

args_more : (w : Parser Expr) (i j k m : Position) (a : Expr) (es before : List Expr) (c : ℕ) → Takes (kind.Sign sign.Comma) j k → w i ≡ Some (a, j) → length i.rest ≤ c → length j.rest < length i.rest
    → ((c : ℕ) → length k.rest ≤ c → args_from w c (before ++ a ∷ []) k ≡ Some ((before ++ a ∷ []) ++ es, m)) → args_from w c before i ≡ Some (before ++ (a ∷ es), m)
unfolding args_from
args_more w i j k m a es before zero t q x y r = absurd (omega (arith, x, y))
args_more w i j k m a es before (suc c) t q x y r =
    ap (λ z. and_then z (λ a. after sign.Comma (args_from w c (before ++ a ∷ [])) (after sign.CloseParenthesis (pure (before ++ a ∷ [])) fail))) q
    ∙ after_takes sign.Comma (args_from w c (before ++ a ∷ [])) (after sign.CloseParenthesis (pure (before ++ a ∷ [])) fail) j k t
    ∙ r c (omega (arith, takes_length t, x, y))
    ∙ ap (λ (z : List Expr). Some (z, m)) (append_assoc before (a ∷ []) es)

last_rule : (i j k : Position) (a : Expr) → Good Whole i j a → Takes (kind.Sign sign.CloseParenthesis) j k → length j.rest < length i.rest → GoodListed i k (a ∷ [])
last_rule i j k a r t y = record { at = λ n h c x before. args_last (whole_at n) i j k a before c t (whole_gives i j a r n h (closed _ _ j k t (lit< tt))) x y }

more_rule : (i j k m : Position) (a : Expr) (es : List Expr) → Good Whole i j a → Takes (kind.Sign sign.Comma) j k → GoodListed k m es → length j.rest < length i.rest → GoodListed i m (a ∷ es)
more_rule i j k m a es r t q y = record {
  at = λ n h c x before.
      args_more (whole_at n) i j k m a es before c t (whole_gives i j a r n h (closed _ _ j k t (lit< tt))) x y (λ c z. q.at n (omega (arith, takes_length t, h, y)) c z (before ++ a ∷ []));
}

no_arguments_rule : (i j : Position) → Takes (kind.Sign sign.CloseParenthesis) i j → GoodArguments i j []
unfolding args
no_arguments_rule i j t = record { at = λ n h. after_takes sign.CloseParenthesis (pure []) (args_from (whole_at n) (length i.rest) []) i j t }

arguments_rule : (i j : Position) (es : List Expr) → sees sign.CloseParenthesis i ≡ false → GoodListed i j es → GoodArguments i j es
unfolding args
arguments_rule i j es x r = record { at = λ n h. after_unseen sign.CloseParenthesis (pure []) (args_from (whole_at n) (length i.rest) []) i x ∙ r.at n h (length i.rest) (omega arith) [] }

-- lists

record GoodRow (i j : Position) (es : List Expr) : Type 0 where
  at : (n : ℕ) → length i.rest < n → (k : ℕ) → length i.rest ≤ k → (before : List Expr) → row_from (whole_at n) k before i ≡ Some (before ++ es, j)

record GoodElements (i j : Position) (es : List Expr) : Type 0 where
  at : (n : ℕ) → length i.rest < n → row (whole_at n) i ≡ Some (es, j)

row_step : (w : Parser Expr) (i j : Position) (a : Expr) (before : List Expr) (c : ℕ) → w i ≡ Some (a, j)
    → row_from w (suc c) before i ≡ after sign.Comma (after sign.CloseBracket (pure (before ++ a ∷ [])) (row_from w c (before ++ a ∷ []))) (after sign.CloseBracket (pure (before ++ a ∷ [])) fail) j
unfolding row_from
row_step w i j a before c q =
    ap (λ z. and_then z (λ a. after sign.Comma (after sign.CloseBracket (pure (before ++ a ∷ [])) (row_from w c (before ++ a ∷ []))) (after sign.CloseBracket (pure (before ++ a ∷ [])) fail))) q

row_last_at : (w : Parser Expr) (i j k : Position) (a : Expr) (before : List Expr) (c : ℕ) → Takes (kind.Sign sign.CloseBracket) j k → w i ≡ Some (a, j) → length i.rest ≤ c → length j.rest < length i.rest
    → row_from w c before i ≡ Some (before ++ a ∷ [], k)
row_last_at w i j k a before zero t q x y = absurd (omega (arith, x, y))
row_last_at w i j k a before (suc c) t q x y =
    row_step w i j a before c q
    ∙ after_unseen sign.Comma (after sign.CloseBracket (pure (before ++ a ∷ [])) (row_from w c (before ++ a ∷ []))) (after sign.CloseBracket (pure (before ++ a ∷ [])) fail) j (bracket_not_comma j k t)
    ∙ after_takes sign.CloseBracket (pure (before ++ a ∷ [])) fail j k t

row_comma_at : (w : Parser Expr) (i j k m : Position) (a : Expr) (before : List Expr) (c : ℕ) → Takes (kind.Sign sign.Comma) j k → Takes (kind.Sign sign.CloseBracket) k m → w i ≡ Some (a, j) → length i.rest ≤ c → length j.rest < length i.rest
    → row_from w c before i ≡ Some (before ++ a ∷ [], m)
row_comma_at w i j k m a before zero t u q x y = absurd (omega (arith, x, y))
row_comma_at w i j k m a before (suc c) t u q x y =
    row_step w i j a before c q
    ∙ after_takes sign.Comma (after sign.CloseBracket (pure (before ++ a ∷ [])) (row_from w c (before ++ a ∷ []))) (after sign.CloseBracket (pure (before ++ a ∷ [])) fail) j k t
    ∙ after_takes sign.CloseBracket (pure (before ++ a ∷ [])) (row_from w c (before ++ a ∷ [])) k m u

row_more_at : (w : Parser Expr) (i j k m : Position) (a : Expr) (es before : List Expr) (c : ℕ) → Takes (kind.Sign sign.Comma) j k → sees sign.CloseBracket k ≡ false → w i ≡ Some (a, j) → length i.rest ≤ c → length j.rest < length i.rest
    → ((c : ℕ) → length k.rest ≤ c → row_from w c (before ++ a ∷ []) k ≡ Some ((before ++ a ∷ []) ++ es, m)) → row_from w c before i ≡ Some (before ++ (a ∷ es), m)
row_more_at w i j k m a es before zero t s q x y r = absurd (omega (arith, x, y))
row_more_at w i j k m a es before (suc c) t s q x y r =
    row_step w i j a before c q
    ∙ after_takes sign.Comma (after sign.CloseBracket (pure (before ++ a ∷ [])) (row_from w c (before ++ a ∷ []))) (after sign.CloseBracket (pure (before ++ a ∷ [])) fail) j k t
    ∙ after_unseen sign.CloseBracket (pure (before ++ a ∷ [])) (row_from w c (before ++ a ∷ [])) k s
    ∙ r c (omega (arith, takes_length t, x, y))
    ∙ ap (λ (z : List Expr). Some (z, m)) (append_assoc before (a ∷ []) es)

list_rule : (i j k : Position) (es : List Expr) → Takes (kind.Sign sign.OpenBracket) i j → GoodElements j k es → Good Primary i k (tree.Many (span i k) es)
unfolding listed
list_rule i j k es t q = record {
  at = λ n h s.
      primary_of (whole_at n) _ i j t ∙ ap (λ z. and_then z (λ es m. Some (tree.Many (span i m) es, m))) (q.at n (omega (arith, takes_length t, h)));
}

row_more_rule : (i j k m : Position) (a : Expr) (es : List Expr) → Good Whole i j a → Takes (kind.Sign sign.Comma) j k → sees sign.CloseBracket k ≡ false → GoodRow k m es → length j.rest < length i.rest → GoodRow i m (a ∷ es)
row_more_rule i j k m a es r t s q y = record {
  at = λ n h c x before.
      row_more_at (whole_at n) i j k m a es before c t s (whole_gives i j a r n h (closed _ _ j k t (lit< tt))) x y (λ c z. q.at n (omega (arith, takes_length t, h, y)) c z (before ++ a ∷ []));
}

no_elements_rule : (i j : Position) → Takes (kind.Sign sign.CloseBracket) i j → GoodElements i j []
unfolding row
no_elements_rule i j t = record { at = λ n h. after_takes sign.CloseBracket (pure []) (row_from (whole_at n) (length i.rest) []) i j t }

elements_rule : (i j : Position) (es : List Expr) → sees sign.CloseBracket i ≡ false → GoodRow i j es → GoodElements i j es
unfolding row
elements_rule i j es x r = record { at = λ n h. after_unseen sign.CloseBracket (pure []) (row_from (whole_at n) (length i.rest) []) i x ∙ r.at n h (length i.rest) (omega arith) [] }

-- all of them

mutual
  complete : {s : Sort} {i j : Position} {a : Expr} → Derives s i j a → Strong s i j a
  complete (g.whole {i = i} {j = j} {a = a} d) = record { at = whole_rule i j a (good _ _ _ _ (complete d)) }
  complete (g.pick {i = i} {j = j} {k = k} {l = l} {m = m} {n = v} {c = c} {a = a} {b = b} d t e u f) =
      record { at = pick_rule i j k l m v c a b (good _ _ _ _ (complete d)) t (good _ _ _ _ (complete e)) u (good _ _ _ _ (complete f)) (shrinks d) (shrinks e) }
  complete (g.alone {l = l} {i = i} {j = j} {a = a} d) = alone_rule l i j a (good _ _ _ _ (complete d)) (shrinks d)
  complete (g.two {l = l} {i = i} {j = j} {k = k} {m = m} {x = x} {o = o} {a = a} {b = b} d t f e) =
      two_rule l i j k m x o a b (complete d) t f (good _ _ _ _ (complete e)) (shrinks d) (shrinks e)
  complete (g.unary {i = i} {j = j} {a = a} d) = record { at = unary_rule i j a (begins d) (good _ _ _ _ (complete d)) }
  complete (g.unary_neg {i = i} {j = j} {k = k} {a = a} t v d) = record { at = unary_neg_rule i j k a t v (good _ _ _ _ (complete d)) }
  complete (g.not {i = i} {j = j} {k = k} {a = a} t d) = record { at = not_rule i j k a t (good _ _ _ _ (complete d)) }
  complete (g.not_end {i = i} {j = j} {a = a} d) = record { at = not_end_rule i j a (begins d).0 (good _ _ _ _ (complete d)) }
  complete (g.neg {i = i} {j = j} {k = k} {a = a} t v d) = record { at = neg_rule i j k a t v (good _ _ _ _ (complete d)) }
  complete (g.neg_end {i = i} {j = j} {a = a} d) = record { at = neg_end_rule i j a (begins d).1 (good _ _ _ _ (complete d)) }
  complete (g.primary {i = i} {j = j} {a = a} d) = primary_rule i j a (good _ _ _ _ (complete d)) (shrinks d)
  complete (g.select {i = i} {j = j} {k = k} {m = m} {a = a} {x = x} d t u) = select_rule i j k m a x (complete d) t u
  complete (g.method {i = i} {j = j} {k = k} {l = l} {m = m} {n = v} {a = a} {x = x} {es = es} d t u p r) =
      method_rule i j k l m v a x es (complete d) t u p (complete_arguments r) (shrinks d) (arguments_shrink r)
  complete (g.name {i = i} {j = j} {x = x} t) = record { at = name_rule i j x t }
  complete (g.call {i = i} {j = j} {k = k} {m = m} {x = x} {es = es} t u r) = record { at = call_rule i j k m x es t u (complete_arguments r) }
  complete (g.group {i = i} {j = j} {k = k} {m = m} {a = a} t d u) = record { at = group_rule i j k m a t (good _ _ _ _ (complete d)) u }
  complete (g.list {i = i} {j = j} {k = k} {es = es} t r) = record { at = list_rule i j k es t (complete_elements r) }
  complete (g.truth {i = i} {j = j} {b = b} t) = record { at = record { at = λ n h s. primary_of (whole_at n) (kind.Truth b) i j t } }
  complete (g.number {i = i} {j = j} {n = v} t u) = record { at = number_rule i j v t u }
  complete (g.negative {i = i} {j = j} {k = k} {n = v} t u x) = record { at = negative_rule i j k v t u x }
  complete (g.text {i = i} {j = j} {x = x} t) = record { at = record { at = λ n h s. primary_of (whole_at n) (kind.Str x) i j t } }

  complete_arguments : {i j : Position} {es : List Expr} → Arguments i j es → GoodArguments i j es
  complete_arguments (g.no_arguments {i = i} {j = j} t) = no_arguments_rule i j t
  complete_arguments (g.arguments {i = i} {j = j} {es = es} r) = arguments_rule i j es (listed_opens r) (complete_listed r)

  complete_listed : {i j : Position} {es : List Expr} → Listed i j es → GoodListed i j es
  complete_listed (g.last {i = i} {j = j} {k = k} {a = a} d t) = last_rule i j k a (good _ _ _ _ (complete d)) t (shrinks d)
  complete_listed (g.more {i = i} {j = j} {k = k} {m = m} {a = a} {es = es} d t r) = more_rule i j k m a es (good _ _ _ _ (complete d)) t (complete_listed r) (shrinks d)

  complete_elements : {i j : Position} {es : List Expr} → Elements i j es → GoodElements i j es
  complete_elements (g.no_elements {i = i} {j = j} t) = no_elements_rule i j t
  complete_elements (g.elements {i = i} {j = j} {es = es} r) = elements_rule i j es (row_starts r) (complete_row r)

  complete_row : {i j : Position} {es : List Expr} → Row i j es → GoodRow i j es
  complete_row (g.row_last {i = i} {j = j} {k = k} {a = a} d t) = record { at = λ n h c x before. row_last_at (whole_at n) i j k a before c t (whole_gives i j a (good _ _ _ _ (complete d)) n h (closed _ _ j k t (lit< tt))) x (shrinks d) }
  complete_row (g.row_comma {i = i} {j = j} {k = k} {m = m} {a = a} d t u) = record { at = λ n h c x before. row_comma_at (whole_at n) i j k m a before c t u (whole_gives i j a (good _ _ _ _ (complete d)) n h (closed _ _ j k t (lit< tt))) x (shrinks d) }
  complete_row (g.row_more {i = i} {j = j} {k = k} {m = m} {a = a} {es = es} d t r) = row_more_rule i j k m a es (good _ _ _ _ (complete d)) t (row_starts r) (complete_row r) (shrinks d)

-- what is derived to the end of the tokens is given
pub whole_complete : (n : ℕ) (i j : Position) (a : Expr) → Derives Whole i j a → length i.rest < n → j.rest ≡ [] → whole_at n i ≡ Some (a, j)
whole_complete n i j a d h e = whole_gives i j a (good Whole i j a (complete d)) n h (record { above = rw e (lit< tt) })
