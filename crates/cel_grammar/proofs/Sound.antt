-- What the reader gives is derived.
use Rattle.std.proofs.Common.{◌≡◌, ℕ, zero, suc, ◌+◌, pos, neg_ℤ, ◌^◌, nat_lt, nat_le, cond, List, [], ◌∷◌, ◌++◌, length, Option, Some, None, Bool, true, false, ◌⊎◌, inl, inr, refl, sym, ◌∙◌, subst, append_assoc}
use Rattle.std.proofs.lemmas.Bool.{ltb-true, leb-true}
use Rattle.cel_tree.specs.declared.tree.Op.{Op}
use Rattle.cel_tree.specs.declared.tree.Expr.{Expr}
use Rattle.cel_tree.specs.declared.tree.Expr.TheVariants as tree
use Rattle.cel_tree.specs.declared.token.Sign.{Sign}
use Rattle.cel_tree.specs.declared.token.Sign.TheVariants as sign
use Rattle.cel_tree.specs.declared.token.TokenKind.{TokenKind}
use Rattle.cel_tree.specs.declared.token.TokenKind.TheVariants as kind
use Rattle.cel_grammar.specs.declared.level.Level.{Level}
use Rattle.cel_grammar.specs.declared.level.Level.TheVariants.{Or, And, Rel, Add, Mul}
use Rattle.cel_grammar.specs.Position.{Position, from, span, Takes}
use Rattle.cel_grammar.specs.Grammar as g
use Rattle.cel_grammar.specs.Grammar.{Sort, Whole, Binary, Unary, Nots, Negs, Member, Primary, operand, op_of, method_tree, Derives, Arguments, Listed, Elements, Row}
use Rattle.cel_grammar.specs.Reader.{Parser, and_then, pure, fail, next, first, op_in, op_at, after, positive, negated, literal, negative_by, negative, name_in, name, with_op, args_from, args, called, grouped, row_from, row, listed, primary_by, primary, selected, member_from, member, nots, negs, unary, chain_from, chained, side, chain, picked, whole_of, whole_at}
use Rattle.cel_grammar.proofs.Steps.{some_is, bind_ok, after_ok, negation_ok, first_taken}

pub record Sound (s : Sort) (p : Parser Expr) : Type 0 where
  pub at : (i : Position) (y : Expr × Position) → p i ≡ Some y → Derives s i y.1 y.0

-- a tree at a position is what was given
given : (s : Sort) (i : Position) (x y : Expr × Position) → Some x ≡ Some y → Derives s i x.1 x.0 → Derives s i y.1 y.0
given s i x y e d = subst (λ (z : Expr × Position). Derives s i z.1 z.0) (some_is e) d

name_sound : (o : Option TokenKind) (i : Position) (y : List ℕ × Position) → first i ≡ o → name_in o i ≡ Some y → Takes (kind.Name y.0) i y.1
name_sound (Some (kind.Name x)) i y f e =
    subst (λ (z : List ℕ × Position). Takes (kind.Name z.0) i z.1) (some_is e) (first_taken (kind.Name x) i f)
name_sound _ i y f e = cc

op_sound : (l : Level) (o : Option TokenKind) (i : Position) (x : Op) → first i ≡ o → op_in l o ≡ Some x → (s : Sign) × Takes (kind.Sign s) i (next i) × (op_of l s ≡ Some x)
op_sound l (Some (kind.Sign s)) i x f e = (s, first_taken (kind.Sign s) i f, e)
op_sound l _ i x f e = cc

positive_sound : (i j : Position) (n : ℕ) (y : Expr × Position) → Takes (kind.Number n) i j → literal (from i) (positive n) j ≡ Some y → Derives Primary i y.1 y.0
positive_sound i j n y t e = go (nat_lt n (2 ^ 63)) refl e
  where
    go : (b : Bool) → nat_lt n (2 ^ 63) ≡ b → literal (from i) (cond b (Some (pos n)) None) j ≡ Some y → Derives Primary i y.1 y.0
    go true b e = given Primary i _ y e (g.number t (ltb-true n (2 ^ 63) b))
    go false b e = cc

negated_sound : (i j k : Position) (n : ℕ) (y : Expr × Position) → Takes (kind.Sign sign.Minus) i j → Takes (kind.Number n) j k → literal (from i) (negated n) k ≡ Some y → Derives Primary i y.1 y.0
negated_sound i j k n y t u e = go (nat_le n (2 ^ 63)) refl e
  where
    go : (b : Bool) → nat_le n (2 ^ 63) ≡ b → literal (from i) (cond b (Some (neg_ℤ (pos n))) None) k ≡ Some y → Derives Primary i y.1 y.0
    go true b e = given Primary i _ y e (g.negative t u (leb-true n (2 ^ 63) b))
    go false b e = cc

negative_by_sound : (i j : Position) (o : Option TokenKind) (y : Expr × Position) → Takes (kind.Sign sign.Minus) i j → first j ≡ o → negative_by (from i) o j ≡ Some y → Derives Primary i y.1 y.0
negative_by_sound i j (Some (kind.Number n)) y t f e = negated_sound i j (next j) n y t (first_taken _ j f) e
negative_by_sound i j _ y t f e = cc

negative_sound : (i j : Position) (y : Expr × Position) → Takes (kind.Sign sign.Minus) i j → negative (from i) j ≡ Some y → Derives Primary i y.1 y.0
unfolding negative
negative_sound i j y t e = negative_by_sound i j (first j) y t refl e

module _ (w : Parser Expr) (sw : Sound Whole w) where
  args_from_sound : (n : ℕ) (es : List Expr) (i : Position) (y : List Expr × Position) → args_from w n es i ≡ Some y
      → (fs : List Expr) × (y.0 ≡ es ++ fs) × Listed i y.1 fs
  unfolding args_from
  args_from_sound zero es i y e = cc
  args_from_sound (suc n) es i y e =
      let b = bind_ok (w i) (λ a. after sign.Comma (args_from w n (es ++ a ∷ [])) (after sign.CloseParenthesis (pure (es ++ a ∷ [])) fail)) y e in
      let d = sw.at i (b.value, b.at) b.was in
      elim (after_ok sign.Comma (args_from w n (es ++ b.value ∷ [])) (after sign.CloseParenthesis (pure (es ++ b.value ∷ [])) fail) b.at y b.then) [
        | inl h ↦ let r = args_from_sound n (es ++ b.value ∷ []) (next b.at) y h.1 in
            (b.value ∷ r.0, r.1 ∙ append_assoc es (b.value ∷ []) r.0, g.more d h.0 r.2)
        | inr h ↦ elim (after_ok sign.CloseParenthesis (pure (es ++ b.value ∷ [])) fail b.at y h) [
          | inl k ↦ subst (λ (z : List Expr × Position). (fs : List Expr) × (z.0 ≡ es ++ fs) × Listed i z.1 fs) (some_is k.1) (b.value ∷ [], refl, g.last d k.0)
          | inr k ↦ cc
        ]
      ]

  args_sound : (i : Position) (y : List Expr × Position) → args w i ≡ Some y → Arguments i y.1 y.0
  unfolding args
  args_sound i y e =
      elim (after_ok sign.CloseParenthesis (pure []) (args_from w (length i.rest) []) i y e) [
        | inl h ↦ subst (λ (z : List Expr × Position). Arguments i z.1 z.0) (some_is h.1) (g.no_arguments h.0)
        | inr h ↦ let r = args_from_sound (length i.rest) [] i y h in
            subst (λ (z : List Expr). Arguments i y.1 z) (sym r.1) (g.arguments r.2)
      ]

  called_sound : (i j : Position) (x : List ℕ) (y : Expr × Position) → Takes (kind.Name x) i j → called w i x j ≡ Some y → Derives Primary i y.1 y.0
  unfolding called
  called_sound i j x y t e =
      elim (after_ok sign.OpenParenthesis (λ k. and_then (args w k) (λ es m. Some (tree.Call (span i m) x es, m))) (λ j. Some (tree.Name (span i j) x, j)) j y e) [
        | inl h ↦ let b = bind_ok (args w (next j)) (λ es m. Some (tree.Call (span i m) x es, m)) y h.1 in
            given Primary i _ y b.then (g.call t h.0 (args_sound (next j) (b.value, b.at) b.was))
        | inr h ↦ given Primary i _ y h (g.name t)
      ]

  grouped_sound : (i j : Position) (y : Expr × Position) → Takes (kind.Sign sign.OpenParenthesis) i j → grouped w j ≡ Some y → Derives Primary i y.1 y.0
  unfolding grouped
  grouped_sound i j y t e =
      let b = bind_ok (w j) (λ a. after sign.CloseParenthesis (pure a) fail) y e in
      let d = sw.at j (b.value, b.at) b.was in
      elim (after_ok sign.CloseParenthesis (pure b.value) fail b.at y b.then) [
        | inl h ↦ given Primary i _ y h.1 (g.group t d h.0)
        | inr h ↦ cc
      ]

  row_from_sound : (n : ℕ) (es : List Expr) (i : Position) (y : List Expr × Position) → row_from w n es i ≡ Some y → (fs : List Expr) × (y.0 ≡ es ++ fs) × Row i y.1 fs
  unfolding row_from
  row_from_sound zero es i y e = cc
  row_from_sound (suc n) es i y e =
      let b = bind_ok (w i) (λ a. after sign.Comma (after sign.CloseBracket (pure (es ++ a ∷ [])) (row_from w n (es ++ a ∷ []))) (after sign.CloseBracket (pure (es ++ a ∷ [])) fail)) y e in
      let d = sw.at i (b.value, b.at) b.was in
      elim (after_ok sign.Comma (after sign.CloseBracket (pure (es ++ b.value ∷ [])) (row_from w n (es ++ b.value ∷ []))) (after sign.CloseBracket (pure (es ++ b.value ∷ [])) fail) b.at y b.then) [
        | inl h ↦ elim (after_ok sign.CloseBracket (pure (es ++ b.value ∷ [])) (row_from w n (es ++ b.value ∷ [])) (next b.at) y h.1) [
          | inl k ↦ subst (λ (z : List Expr × Position). (fs : List Expr) × (z.0 ≡ es ++ fs) × Row i z.1 fs) (some_is k.1) (b.value ∷ [], refl, g.row_comma d h.0 k.0)
          | inr k ↦ let r = row_from_sound n (es ++ b.value ∷ []) (next b.at) y k in
              (b.value ∷ r.0, r.1 ∙ append_assoc es (b.value ∷ []) r.0, g.row_more d h.0 r.2)
        ]
        | inr h ↦ elim (after_ok sign.CloseBracket (pure (es ++ b.value ∷ [])) fail b.at y h) [
          | inl k ↦ subst (λ (z : List Expr × Position). (fs : List Expr) × (z.0 ≡ es ++ fs) × Row i z.1 fs) (some_is k.1) (b.value ∷ [], refl, g.row_last d k.0)
          | inr k ↦ cc
        ]
      ]

  row_sound : (i : Position) (y : List Expr × Position) → row w i ≡ Some y → Elements i y.1 y.0
  unfolding row
  row_sound i y e =
      elim (after_ok sign.CloseBracket (pure []) (row_from w (length i.rest) []) i y e) [
        | inl h ↦ subst (λ (z : List Expr × Position). Elements i z.1 z.0) (some_is h.1) (g.no_elements h.0)
        | inr h ↦ let r = row_from_sound (length i.rest) [] i y h in subst (λ (z : List Expr). Elements i y.1 z) (sym r.1) (g.elements r.2)
      ]

  listed_sound : (i j : Position) (y : Expr × Position) → Takes (kind.Sign sign.OpenBracket) i j → listed w i j ≡ Some y → Derives Primary i y.1 y.0
  unfolding listed
  listed_sound i j y t e =
      let b = bind_ok (row w j) (λ es m. Some (tree.Many (span i m) es, m)) y e in
      given Primary i _ y b.then (g.list t (row_sound j (b.value, b.at) b.was))

  primary_by_sound : (i : Position) (o : Option TokenKind) (y : Expr × Position) → first i ≡ o → primary_by w i o (next i) ≡ Some y → Derives Primary i y.1 y.0
  primary_by_sound i (Some (kind.Name x)) y f e = called_sound i (next i) x y (first_taken _ i f) e
  primary_by_sound i (Some (kind.Sign sign.OpenParenthesis)) y f e = grouped_sound i (next i) y (first_taken _ i f) e
  primary_by_sound i (Some (kind.Sign sign.OpenBracket)) y f e = listed_sound i (next i) y (first_taken _ i f) e
  primary_by_sound i (Some (kind.Truth b)) y f e = given Primary i _ y e (g.truth (first_taken _ i f))
  primary_by_sound i (Some (kind.Sign sign.Minus)) y f e = negative_sound i (next i) y (first_taken _ i f) e
  primary_by_sound i (Some (kind.Number n)) y f e = positive_sound i (next i) n y (first_taken _ i f) e
  primary_by_sound i (Some (kind.Str x)) y f e = given Primary i _ y e (g.text (first_taken _ i f))
  primary_by_sound i _ y f e = cc

  primary_sound : Sound Primary (primary w)
  unfolding primary
  primary_sound = record { at = λ i y e. primary_by_sound i (first i) y refl e }

  selected_sound : (i k m : Position) (a : Expr) (x : List ℕ) (j : Position) (y : Expr × Position) → Derives Member i j a → Takes (kind.Sign sign.Dot) j k → Takes (kind.Name x) k m
      → selected w (from i) a x m ≡ Some y → Derives Member i y.1 y.0
  unfolding selected
  selected_sound i k m a x j y d t u e =
      elim (after_ok sign.OpenParenthesis (λ n. and_then (args w n) (λ es m. Some (method_tree (record { from = from i; to = m.last }) a x es, m))) (λ m. Some (tree.Select (record { from = from i; to = m.last }) a x, m)) m y e) [
        | inl h ↦ let b = bind_ok (args w (next m)) (λ es m. Some (method_tree (record { from = from i; to = m.last }) a x es, m)) y h.1 in
            given Member i _ y b.then (g.method d t u h.0 (args_sound (next m) (b.value, b.at) b.was))
        | inr h ↦ given Member i _ y h (g.select d t u)
      ]

  member_from_sound : (n : ℕ) (i j : Position) (a : Expr) (y : Expr × Position) → Derives Member i j a → member_from w n (from i) a j ≡ Some y → Derives Member i y.1 y.0
  unfolding member_from
  member_from_sound zero i j a y d e = given Member i _ y e d
  member_from_sound (suc n) i j a y d e =
      elim (after_ok sign.Dot (λ k. and_then (name k) (λ x. λ m. and_then (selected w (from i) a x m) (λ b. member_from w n (from i) b))) (pure a) j y e) [
        | inl h ↦ let b = bind_ok (name (next j)) (λ x. λ m. and_then (selected w (from i) a x m) (λ b. member_from w n (from i) b)) y h.1 in
            let c = bind_ok (selected w (from i) a b.value b.at) (λ b. member_from w n (from i) b) y b.then in
            member_from_sound n i c.at c.value y (selected_sound i (next j) b.at a b.value j (c.value, c.at) d h.0 (name_sound _ (next j) (b.value, b.at) refl b.was) c.was) c.then
        | inr h ↦ given Member i _ y h d
      ]

  member_sound : Sound Member (member w)
  unfolding member
  member_sound = record {
    at = λ i y e.
        let b = bind_ok (primary w i) (member_from w (length i.rest) (from i)) y e in
        member_from_sound (length i.rest) i b.at b.value y (g.primary (primary_sound.at i (b.value, b.at) b.was)) b.then;
  }

  nots_sound : (n : ℕ) (i : Position) (y : Expr × Position) → nots w n i ≡ Some y → Derives Nots i y.1 y.0
  unfolding nots
  nots_sound zero i y e = g.not_end (member_sound.at i y e)
  nots_sound (suc n) i y e =
      elim (after_ok sign.Bang (λ k. and_then (nots w n k) (λ a m. Some (tree.Not (span i m) a, m))) (member w) i y e) [
        | inl h ↦ let b = bind_ok (nots w n (next i)) (λ a m. Some (tree.Not (span i m) a, m)) y h.1 in
            given Nots i _ y b.then (g.not h.0 (nots_sound n (next i) (b.value, b.at) b.was))
        | inr h ↦ g.not_end (member_sound.at i y h)
      ]

  negs_sound : (n : ℕ) (i : Position) (y : Expr × Position) → negs w n i ≡ Some y → Derives Negs i y.1 y.0
  unfolding negs
  negs_sound zero i y e = g.neg_end (member_sound.at i y e)
  negs_sound (suc n) i y e =
      elim (negation_ok (λ k. and_then (negs w n k) (λ a m. Some (tree.Neg (span i m) a, m))) (member w) i y e) [
        | inl h ↦ let b = bind_ok (negs w n (next i)) (λ a m. Some (tree.Neg (span i m) a, m)) y h.2 in
            given Negs i _ y b.then (g.neg h.0 h.1 (negs_sound n (next i) (b.value, b.at) b.was))
        | inr h ↦ g.neg_end (member_sound.at i y h)
      ]

  unary_sound : Sound Unary (unary w)
  unfolding unary
  unary_sound = record {
    at = λ i y e.
        elim (negation_ok (λ k. and_then (negs w (length i.rest) k) (λ a m. Some (tree.Neg (span i m) a, m))) (nots w (length i.rest)) i y e) [
          | inl h ↦ let b = bind_ok (negs w (length i.rest) (next i)) (λ a m. Some (tree.Neg (span i m) a, m)) y h.2 in
              given Unary i _ y b.then (g.unary_neg h.0 h.1 (negs_sound _ (next i) (b.value, b.at) b.was))
          | inr h ↦ g.unary (nots_sound (length i.rest) i y h)
        ];
  }

  with_op_sound : (l : Level) (o : Option Op) (i : Position) (p : Op → Parser Expr) (q : Parser Expr) (y : Expr × Position) → op_at l i ≡ o → with_op o p q i ≡ Some y
      → ((s : Sign) × (x : Op) × Takes (kind.Sign s) i (next i) × (op_of l s ≡ Some x) × (p x (next i) ≡ Some y)) ⊎ (q i ≡ Some y)
  with_op_sound l (Some x) i p q y f e = let s = op_sound l (first i) i x refl f in inl (s.0, x, s.1, s.2, e)
  with_op_sound l None i p q y f e = inr e

  chain_from_sound : (l : Level) (p : Parser Expr) → Sound (operand l) p → (n : ℕ) (i j : Position) (a : Expr) (y : Expr × Position) → Derives (Binary l) i j a
      → chain_from w l p n (from i) a j ≡ Some y → Derives (Binary l) i y.1 y.0
  unfolding chain_from
  chain_from_sound l p sp zero i j a y d e = given (Binary l) i _ y e d
  chain_from_sound l p sp (suc n) i j a y d e =
      elim (with_op_sound l (op_at l j) j _ (pure a) y refl e) [
        | inl h ↦ let b = bind_ok (p (next j)) (λ b m. chain_from w l p n (from i) (tree.Two (record { from = from i; to = m.last }) h.1 a b) m) y h.4 in
            chain_from_sound l p sp n i b.at _ y (g.two d h.2 h.3 (sp.at (next j) (b.value, b.at) b.was)) b.then
        | inr h ↦ given (Binary l) i _ y h d
      ]

  chained_sound : (l : Level) (p : Parser Expr) → Sound (operand l) p → Sound (Binary l) (chained w l p)
  unfolding chained
  chained_sound l p sp = record {
    at = λ i y e.
        let b = bind_ok (p i) (chain_from w l p (length i.rest) (from i)) y e in
        chain_from_sound l p sp (length i.rest) i b.at b.value y (g.alone (sp.at i (b.value, b.at) b.was)) b.then;
  }

  side_sound : (l : Level) → Sound (operand l) (side w l)
  side_sound Mul = unary_sound
  side_sound Add = chained_sound Mul _ unary_sound
  side_sound Rel = chained_sound Add _ (chained_sound Mul _ unary_sound)
  side_sound And = chained_sound Rel _ (chained_sound Add _ (chained_sound Mul _ unary_sound))
  side_sound Or = chained_sound And _ (chained_sound Rel _ (chained_sound Add _ (chained_sound Mul _ unary_sound)))

  chain_sound : (l : Level) → Sound (Binary l) (chain w l)
  chain_sound l = chained_sound l (side w l) (side_sound l)

  colon_sound : (i j k m : Position) (c a : Expr) (y : Expr × Position) → Derives (Binary Or) i j c → Takes (kind.Sign sign.Question) j k → Derives (Binary Or) k m a
      → after sign.Colon (λ n. and_then (w n) (λ z n. Some (tree.Pick (span i n) c a z, n))) fail m ≡ Some y → Derives Whole i y.1 y.0
  colon_sound i j k m c a y d t f e =
      elim (after_ok sign.Colon (λ n. and_then (w n) (λ z n. Some (tree.Pick (span i n) c a z, n))) fail m y e) [
        | inl h ↦ let v = bind_ok (w (next m)) (λ z n. Some (tree.Pick (span i n) c a z, n)) y h.1 in
            given Whole i _ y v.then (g.pick d t f h.0 (sw.at (next m) (v.value, v.at) v.was))
        | inr h ↦ cc
      ]

  picked_sound : (i j : Position) (c : Expr) (y : Expr × Position) → Derives (Binary Or) i j c → picked w i c j ≡ Some y → Derives Whole i y.1 y.0
  unfolding picked
  picked_sound i j c y d e =
      elim (after_ok sign.Question (λ k. and_then (chain w Or k) (λ a. after sign.Colon (λ n. and_then (w n) (λ z n. Some (tree.Pick (span i n) c a z, n))) fail)) (pure c) j y e) [
        | inl h ↦ let v = bind_ok (chain w Or (next j)) (λ a. after sign.Colon (λ n. and_then (w n) (λ z n. Some (tree.Pick (span i n) c a z, n))) fail) y h.1 in
            colon_sound i j (next j) v.at c v.value y d h.0 ((chain_sound Or).at (next j) (v.value, v.at) v.was) v.then
        | inr h ↦ given Whole i _ y h (g.whole d)
      ]

  whole_of_sound : Sound Whole (whole_of w)
  unfolding whole_of
  whole_of_sound = record {
    at = λ i y e.
        let b = bind_ok (chain w Or i) (picked w i) y e in
        picked_sound i b.at b.value y ((chain_sound Or).at i (b.value, b.at) b.was) b.then;
  }

pub whole_sound : (n : ℕ) → Sound Whole (whole_at n)
unfolding whole_at
whole_sound zero = record { at = λ i y e. cc }
whole_sound (suc n) = whole_of_sound (whole_at n) (whole_sound n)
