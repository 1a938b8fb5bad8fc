-- The tokens of what is written, counted.
use Rattle.std.proofs.Common.{◌≡◌, ℕ, zero, suc, ℤ, pos, negsuc, ◌+◌, ◌-◌, ◌≤◌, max, Bool, true, false, cond, List, [], ◌∷◌, ◌++◌, map, length, refl, sym, ap, ◌∙◌, subst, append_assoc, append-nil, arith}
use Rattle.cel_tree.specs.declared.tree.Op.{Op}
use Rattle.cel_tree.specs.declared.tree.Op.TheVariants as op
use Rattle.cel_tree.specs.declared.tree.Expr.{Expr, roll-Expr, ind-Expr, map-Expr}
use Rattle.cel_tree.specs.declared.tree.Expr.TheOpen.{Expr-F}
use Rattle.cel_tree.specs.declared.tree.Expr.TheVariants as tree
use Rattle.cel_tree.specs.declared.tree.Expr.TheVariants.{rolls-Bool, rolls-Int, rolls-Str, rolls-Name, rolls-Select, rolls-Call, rolls-Method, rolls-Many, rolls-Not, rolls-Neg, rolls-Two, rolls-Pick}
use Rattle.cel_tree.specs.declared.token.Sign.{Sign}
use Rattle.cel_tree.specs.declared.token.Sign.TheVariants as sign
use Rattle.cel_tree.specs.declared.token.Token.{Token}
use Rattle.cel_tree.specs.declared.token.TokenKind.{TokenKind}
use Rattle.cel_tree.specs.declared.token.TokenKind.TheVariants as kind
use Rattle.cel_grammar.specs.declared.level.Level.TheVariants.{Or}
use Rattle.cel_grammar.specs.declared.level.Sort.{Sort}
use Rattle.cel_grammar.specs.declared.level.Sort.TheVariants.{Whole, Binary, Nots, Negs, Member}
use Rattle.cel_grammar.specs.Grammar.{operand}
use Rattle.cel_grammar.specs.Depth.{opened, deepest}
use Rattle.cel_shown.specs.Shown.{Piece, Blank, Word, signed, bracketed, within, placed, number, separated, closed_by, spaced, Writing, layer_shown, shown, level_of, sign_of, tokens_of, kinds_of}
use Rattle.cel_shown.proofs.Layers.{fold_bool, fold_int, fold_str, fold_name, fold_select, fold_call, fold_method, fold_many, fold_not, fold_neg, fold_two, fold_pick}
use Rattle.cel_shown.proofs.Cost.{Cost, beside, plus, in_brackets, flat, Costing, placed_cost, number_cost, separated_cost, layer_cost, cost}

-- the most brackets that are open at once, where n are open already
abbrev pub deep : ℕ → List TokenKind → ℕ
deep n [] = n
deep n (k ∷ ks) = max n (deep (opened n k) ks)

at_least : (n : ℕ) (ks : List TokenKind) → n ≤ deep n ks
at_least n [] = omega arith
at_least n (k ∷ ks) = omega arith

-- the pieces have these many tokens, leave as many brackets open as before, and are this deep
pub record Shape (ps : List Piece) (c : Cost) : Type 0 where
  pub tokens : (rest : List Piece) → length (tokens_of (ps ++ rest)) ≡ c.tokens + length (tokens_of rest)
  pub height : (n : ℕ) (rest : List Piece) → deep n (tokens_of (ps ++ rest)) ≡ max (n + c.height) (deep n (tokens_of rest))

empty_shape : Shape [] (flat 0)
empty_shape = record {
  tokens = λ rest. omega arith;
  height = λ n rest. let h = at_least n (tokens_of rest) in omega (arith, h);
}

beside_shape : (ps qs : List Piece) (c d : Cost) → Shape ps c → Shape qs d → Shape (ps ++ qs) (beside c d)
beside_shape ps qs c d s t = record {
  tokens = λ rest. let e = s.tokens (qs ++ rest) in let f = t.tokens rest in let a = ap (λ (z : List Piece). length (tokens_of z)) (append_assoc ps qs rest) in omega (arith, e, f, a);
  height = λ n rest. let e = s.height n (qs ++ rest) in let f = t.height n rest in let a = ap (λ (z : List Piece). deep n (tokens_of z)) (append_assoc ps qs rest) in omega (arith, e, f, a);
}

blank_shape : (ps : List Piece) (c : Cost) → Shape ps c → Shape (Blank ∷ ps) c
blank_shape ps c s = record { tokens = s.tokens; height = s.height }

-- a token that is no bracket
record NoBracket (k : TokenKind) : Type 0 where
  level : (n : ℕ) → opened n k ≡ n

word_shape : (k : TokenKind) (ps : List Piece) (c : Cost) → NoBracket k → Shape ps c → Shape (Word k ∷ ps) (plus 1 c)
word_shape k ps c l s = record {
  tokens = λ rest. let e = s.tokens rest in omega (arith, e);
  height = λ n rest.
      let e = s.height n rest in
      let a = ap (λ m. deep m (tokens_of (ps ++ rest))) (l.level n) in
      omega (arith, e, a);
}

one_shape : (k : TokenKind) → NoBracket k → Shape (Word k ∷ []) (flat 1)
one_shape k l = word_shape k [] (flat 0) l empty_shape

round_shape : (ps : List Piece) (c : Cost) → Shape ps c → Shape (bracketed ps) (in_brackets c)
round_shape ps c s = record {
  tokens = λ rest.
      let a = ap (λ (z : List Piece). length (tokens_of z)) (append_assoc ps (signed sign.CloseParenthesis ∷ []) rest) in
      let e = s.tokens (signed sign.CloseParenthesis ∷ rest) in omega (arith, a, e);
  height = λ n rest.
      let a = ap (λ (z : List Piece). deep (n + 1) (tokens_of z)) (append_assoc ps (signed sign.CloseParenthesis ∷ []) rest) in
      let e = s.height (n + 1) (signed sign.CloseParenthesis ∷ rest) in
      let back : (n + 1) - 1 ≡ n = omega arith in
      let f = ap (λ m. deep m (tokens_of rest)) back in
      let h = at_least n (tokens_of rest) in
      omega (arith, a, e, f, h);
}

square_shape : (ps : List Piece) (c : Cost) → Shape ps c → Shape (signed sign.OpenBracket ∷ (ps ++ signed sign.CloseBracket ∷ [])) (in_brackets c)
square_shape ps c s = record {
  tokens = λ rest.
      let a = ap (λ (z : List Piece). length (tokens_of z)) (append_assoc ps (signed sign.CloseBracket ∷ []) rest) in
      let e = s.tokens (signed sign.CloseBracket ∷ rest) in omega (arith, a, e);
  height = λ n rest.
      let a = ap (λ (z : List Piece). deep (n + 1) (tokens_of z)) (append_assoc ps (signed sign.CloseBracket ∷ []) rest) in
      let e = s.height (n + 1) (signed sign.CloseBracket ∷ rest) in
      let back : (n + 1) - 1 ≡ n = omega arith in
      let f = ap (λ m. deep m (tokens_of rest)) back in
      let h = at_least n (tokens_of rest) in
      omega (arith, a, e, f, h);
}

same_shape : (ps : List Piece) (c d : Cost) → c.tokens ≡ d.tokens → c.height ≡ d.height → Shape ps c → Shape ps d
same_shape ps c d e f s = record {
  tokens = λ rest. let g = s.tokens rest in omega (arith, e, g);
  height = λ n rest. let g = s.height n rest in omega (arith, f, g);
}

operator_level : (o : Op) → NoBracket (kind.Sign (sign_of o))
operator_level op.Or = record { level = λ n. refl }
operator_level op.And = record { level = λ n. refl }
operator_level op.Lt = record { level = λ n. refl }
operator_level op.Le = record { level = λ n. refl }
operator_level op.Gt = record { level = λ n. refl }
operator_level op.Ge = record { level = λ n. refl }
operator_level op.Eq = record { level = λ n. refl }
operator_level op.Ne = record { level = λ n. refl }
operator_level op.In = record { level = λ n. refl }
operator_level op.Add = record { level = λ n. refl }
operator_level op.Sub = record { level = λ n. refl }
operator_level op.Mul = record { level = λ n. refl }
operator_level op.Div = record { level = λ n. refl }
operator_level op.Rem = record { level = λ n. refl }

-- behind an operator with a blank on both sides
spaced_shape : (x : Sign) (ps qs : List Piece) (c d : Cost) → NoBracket (kind.Sign x) → Shape ps c → Shape qs d → Shape (ps ++ spaced x qs) (beside (plus 1 c) d)
spaced_shape x ps qs c d l s t =
    same_shape (ps ++ spaced x qs) (beside c (plus 1 d)) (beside (plus 1 c) d) (omega arith) refl
    (beside_shape ps (spaced x qs) c (plus 1 d) s (blank_shape (signed x ∷ Blank ∷ qs) (plus 1 d) (word_shape (kind.Sign x) (Blank ∷ qs) d l (blank_shape qs d t))))

pub record Shaped (a : Expr) : Type 0 where
  pub at : (s : Sort) (m : Bool) → Shape (shown a s m) (cost a s m)

from_layer : (a : Expr) (w : Writing) (c : Costing) → shown a ≡ w → cost a ≡ c → ((s : Sort) (m : Bool) → Shape (w s m) (c s m)) → Shaped a
from_layer a w c is e h = record {
  at = λ s m. subst (λ (f : Writing). Shape (f s m) (cost a s m)) (sym is) (subst (λ (d : Costing). Shape (w s m) (d s m)) (sym e) (h s m));
}

placed_shape : (own : Sort) (f : Bool → List Piece) (c : Bool → Cost) → ((m : Bool) → Shape (f m) (c m)) → (s : Sort) (m : Bool) → Shape (placed own f s m) (placed_cost own c s m)
placed_shape own f c h s m = go (within own s)
  where
    go : (b : Bool) → Shape (cond b (f m) (bracketed (f false))) (cond b (c m) (in_brackets (c false)))
    go true = h m
    go false = round_shape (f false) (c false) (h false)

number_shape : (n : ℤ) (m : Bool) → Shape (number n m) (number_cost n m)
number_shape (pos n) false = one_shape (kind.Number n) (record { level = λ n. refl })
number_shape (pos zero) true = word_shape (kind.Sign sign.Minus) (Word (kind.Number 0) ∷ []) (flat 1) (record { level = λ n. refl }) (one_shape (kind.Number 0) (record { level = λ n. refl }))
number_shape (pos (suc n)) true = round_shape (Word (kind.Number (suc n)) ∷ []) (flat 1) (one_shape (kind.Number (suc n)) (record { level = λ n. refl }))
number_shape (negsuc n) m = word_shape (kind.Sign sign.Minus) (Word (kind.Number (suc n)) ∷ []) (flat 1) (record { level = λ n. refl }) (one_shape (kind.Number (suc n)) (record { level = λ n. refl }))

separated_shape : (es : List ((a : Expr) × Shaped a)) → Shape (separated (map shown (map (λ e. e.0) es))) (separated_cost (map cost (map (λ e. e.0) es)))
separated_shape [] = empty_shape
separated_shape (e ∷ []) = e.1.at Whole false
separated_shape (e ∷ d ∷ es) =
    beside_shape (shown e.0 Whole false) (signed sign.Comma ∷ Blank ∷ separated (map shown (map (λ e. e.0) (d ∷ es)))) (cost e.0 Whole false) (plus 1 (separated_cost (map cost (map (λ e. e.0) (d ∷ es)))))
    (e.1.at Whole false)
    (word_shape (kind.Sign sign.Comma) (Blank ∷ separated (map shown (map (λ e. e.0) (d ∷ es)))) (separated_cost (map cost (map (λ e. e.0) (d ∷ es)))) (record { level = λ n. refl })
    (blank_shape (separated (map shown (map (λ e. e.0) (d ∷ es)))) (separated_cost (map cost (map (λ e. e.0) (d ∷ es)))) (separated_shape (d ∷ es))))

arguments_shape : (es : List ((a : Expr) × Shaped a))
    → Shape (signed sign.OpenParenthesis ∷ closed_by sign.CloseParenthesis (map shown (map (λ e. e.0) es))) (in_brackets (separated_cost (map cost (map (λ e. e.0) es))))
arguments_shape es = round_shape (separated (map shown (map (λ e. e.0) es))) (separated_cost (map cost (map (λ e. e.0) es))) (separated_shape es)

shape_step : (y : Expr-F ((e : Expr) × Shaped e)) (x : Expr-F Expr) → map-Expr ((e : Expr) × Shaped e) Expr (λ e. e.0) y ≡ x → Shaped (roll-Expr x)
shape_step (Expr-F.Bool p v) x is = subst (λ z. Shaped (roll-Expr z)) is (subst Shaped (sym (rolls-Bool p v))
    (from_layer (tree.Bool p v) _ _ (fold_bool layer_shown p v) (fold_bool layer_cost p v) (λ s m. one_shape (kind.Truth v) (record { level = λ n. refl }))))
shape_step (Expr-F.Int p n) x is = subst (λ z. Shaped (roll-Expr z)) is (subst Shaped (sym (rolls-Int p n))
    (from_layer (tree.Int p n) _ _ (fold_int layer_shown p n) (fold_int layer_cost p n) (λ s m. number_shape n m)))
shape_step (Expr-F.Str p v) x is = subst (λ z. Shaped (roll-Expr z)) is (subst Shaped (sym (rolls-Str p v))
    (from_layer (tree.Str p v) _ _ (fold_str layer_shown p v) (fold_str layer_cost p v) (λ s m. one_shape (kind.Str v) (record { level = λ n. refl }))))
shape_step (Expr-F.Name p v) x is = subst (λ z. Shaped (roll-Expr z)) is (subst Shaped (sym (rolls-Name p v))
    (from_layer (tree.Name p v) _ _ (fold_name layer_shown p v) (fold_name layer_cost p v) (λ s m. one_shape (kind.Name v) (record { level = λ n. refl }))))
shape_step (Expr-F.Select p a v) x is = subst (λ z. Shaped (roll-Expr z)) is (subst Shaped (sym (rolls-Select p a.0 v))
    (from_layer (tree.Select p a.0 v) _ _ (fold_select layer_shown p a.0 v) (fold_select layer_cost p a.0 v)
    (placed_shape Member (λ m. shown a.0 Member m ++ (signed sign.Dot ∷ Word (kind.Name v) ∷ [])) (λ m. plus 2 (cost a.0 Member m))
    (λ m. same_shape (shown a.0 Member m ++ (signed sign.Dot ∷ Word (kind.Name v) ∷ [])) (beside (cost a.0 Member m) (flat 2)) (plus 2 (cost a.0 Member m)) refl (omega arith)
    (beside_shape (shown a.0 Member m) (signed sign.Dot ∷ Word (kind.Name v) ∷ []) (cost a.0 Member m) (flat 2) (a.1.at Member m)
    (word_shape (kind.Sign sign.Dot) (Word (kind.Name v) ∷ []) (flat 1) (record { level = λ n. refl }) (one_shape (kind.Name v) (record { level = λ n. refl }))))))))
shape_step (Expr-F.Call p v es) x is = subst (λ z. Shaped (roll-Expr z)) is (subst Shaped (sym (rolls-Call p v (map (λ e. e.0) es)))
    (from_layer (tree.Call p v (map (λ e. e.0) es)) _ _ (fold_call layer_shown p v (map (λ e. e.0) es)) (fold_call layer_cost p v (map (λ e. e.0) es))
    (λ s m. word_shape (kind.Name v) (signed sign.OpenParenthesis ∷ closed_by sign.CloseParenthesis (map shown (map (λ e. e.0) es))) (in_brackets (separated_cost (map cost (map (λ e. e.0) es))))
    (record { level = λ n. refl }) (arguments_shape es))))
shape_step (Expr-F.Method p a v es) x is = subst (λ z. Shaped (roll-Expr z)) is (subst Shaped (sym (rolls-Method p a.0 v (map (λ e. e.0) es)))
    (from_layer (tree.Method p a.0 v (map (λ e. e.0) es)) _ _ (fold_method layer_shown p a.0 v (map (λ e. e.0) es)) (fold_method layer_cost p a.0 v (map (λ e. e.0) es))
    (placed_shape Member
    (λ m. shown a.0 Member m ++ (signed sign.Dot ∷ Word (kind.Name v) ∷ signed sign.OpenParenthesis ∷ closed_by sign.CloseParenthesis (map shown (map (λ e. e.0) es))))
    (λ m. beside (plus 2 (cost a.0 Member m)) (in_brackets (separated_cost (map cost (map (λ e. e.0) es)))))
    (λ m. same_shape (shown a.0 Member m ++ (signed sign.Dot ∷ Word (kind.Name v) ∷ signed sign.OpenParenthesis ∷ closed_by sign.CloseParenthesis (map shown (map (λ e. e.0) es))))
    (beside (cost a.0 Member m) (plus 1 (plus 1 (in_brackets (separated_cost (map cost (map (λ e. e.0) es)))))))
    (beside (plus 2 (cost a.0 Member m)) (in_brackets (separated_cost (map cost (map (λ e. e.0) es))))) (omega arith) refl
    (beside_shape (shown a.0 Member m) (signed sign.Dot ∷ Word (kind.Name v) ∷ signed sign.OpenParenthesis ∷ closed_by sign.CloseParenthesis (map shown (map (λ e. e.0) es))) (cost a.0 Member m)
    (plus 1 (plus 1 (in_brackets (separated_cost (map cost (map (λ e. e.0) es)))))) (a.1.at Member m)
    (word_shape (kind.Sign sign.Dot) (Word (kind.Name v) ∷ signed sign.OpenParenthesis ∷ closed_by sign.CloseParenthesis (map shown (map (λ e. e.0) es)))
    (plus 1 (in_brackets (separated_cost (map cost (map (λ e. e.0) es))))) (record { level = λ n. refl })
    (word_shape (kind.Name v) (signed sign.OpenParenthesis ∷ closed_by sign.CloseParenthesis (map shown (map (λ e. e.0) es))) (in_brackets (separated_cost (map cost (map (λ e. e.0) es))))
    (record { level = λ n. refl }) (arguments_shape es))))))))
shape_step (Expr-F.Many p es) x is = subst (λ z. Shaped (roll-Expr z)) is (subst Shaped (sym (rolls-Many p (map (λ e. e.0) es)))
    (from_layer (tree.Many p (map (λ e. e.0) es)) _ _ (fold_many layer_shown p (map (λ e. e.0) es)) (fold_many layer_cost p (map (λ e. e.0) es))
    (λ s m. square_shape (separated (map shown (map (λ e. e.0) es))) (separated_cost (map cost (map (λ e. e.0) es))) (separated_shape es))))
shape_step (Expr-F.Not p a) x is = subst (λ z. Shaped (roll-Expr z)) is (subst Shaped (sym (rolls-Not p a.0))
    (from_layer (tree.Not p a.0) _ _ (fold_not layer_shown p a.0) (fold_not layer_cost p a.0)
    (placed_shape Nots (λ m. signed sign.Bang ∷ shown a.0 Nots false) (λ m. plus 1 (cost a.0 Nots false))
    (λ m. word_shape (kind.Sign sign.Bang) (shown a.0 Nots false) (cost a.0 Nots false) (record { level = λ n. refl }) (a.1.at Nots false)))))
shape_step (Expr-F.Neg p a) x is = subst (λ z. Shaped (roll-Expr z)) is (subst Shaped (sym (rolls-Neg p a.0))
    (from_layer (tree.Neg p a.0) _ _ (fold_neg layer_shown p a.0) (fold_neg layer_cost p a.0)
    (placed_shape Negs (λ m. signed sign.Minus ∷ shown a.0 Negs true) (λ m. plus 1 (cost a.0 Negs true))
    (λ m. word_shape (kind.Sign sign.Minus) (shown a.0 Negs true) (cost a.0 Negs true) (record { level = λ n. refl }) (a.1.at Negs true)))))
shape_step (Expr-F.Two p o a b) x is = subst (λ z. Shaped (roll-Expr z)) is (subst Shaped (sym (rolls-Two p o a.0 b.0))
    (from_layer (tree.Two p o a.0 b.0) _ _ (fold_two layer_shown p o a.0 b.0) (fold_two layer_cost p o a.0 b.0)
    (placed_shape (Binary (level_of o)) (λ m. shown a.0 (Binary (level_of o)) false ++ spaced (sign_of o) (shown b.0 (operand (level_of o)) false))
    (λ m. beside (plus 1 (cost a.0 (Binary (level_of o)) false)) (cost b.0 (operand (level_of o)) false))
    (λ m. spaced_shape (sign_of o) (shown a.0 (Binary (level_of o)) false) (shown b.0 (operand (level_of o)) false) (cost a.0 (Binary (level_of o)) false) (cost b.0 (operand (level_of o)) false)
    (operator_level o) (a.1.at (Binary (level_of o)) false) (b.1.at (operand (level_of o)) false)))))
shape_step (Expr-F.Pick p c a b) x is = subst (λ z. Shaped (roll-Expr z)) is (subst Shaped (sym (rolls-Pick p c.0 a.0 b.0))
    (from_layer (tree.Pick p c.0 a.0 b.0) _ _ (fold_pick layer_shown p c.0 a.0 b.0) (fold_pick layer_cost p c.0 a.0 b.0)
    (placed_shape Whole
    (λ m. shown c.0 (Binary Or) false ++ spaced sign.Question (shown a.0 (Binary Or) false ++ spaced sign.Colon (shown b.0 Whole false)))
    (λ m. beside (plus 1 (cost c.0 (Binary Or) false)) (beside (plus 1 (cost a.0 (Binary Or) false)) (cost b.0 Whole false)))
    (λ m. spaced_shape sign.Question (shown c.0 (Binary Or) false) (shown a.0 (Binary Or) false ++ spaced sign.Colon (shown b.0 Whole false)) (cost c.0 (Binary Or) false)
    (beside (plus 1 (cost a.0 (Binary Or) false)) (cost b.0 Whole false)) (record { level = λ n. refl }) (c.1.at (Binary Or) false)
    (spaced_shape sign.Colon (shown a.0 (Binary Or) false) (shown b.0 Whole false) (cost a.0 (Binary Or) false) (cost b.0 Whole false) (record { level = λ n. refl }) (a.1.at (Binary Or) false) (b.1.at Whole false))))))

shaped : (a : Expr) → Shaped a
shaped = ind-Expr Shaped (λ x y is. shape_step y x is)

-- what is written by itself, as tokens

deepest_kinds : (n : ℕ) (ts : List Token) (ks : List TokenKind) → kinds_of ts ≡ ks → deepest n ts ≡ deep n ks
deepest_kinds n [] [] e = refl
deepest_kinds n [] (k ∷ ks) e = cc
deepest_kinds n (t ∷ ts) [] e = cc
deepest_kinds n (t ∷ ts) (k ∷ ks) e =
    let head : t.kind ≡ k = cc in
    let tail : kinds_of ts ≡ ks = cc in
    ap (λ z. max n (deepest (opened n z) ts)) head ∙ ap (λ m. max n m) (deepest_kinds (opened n k) ts ks tail)

length_kinds : (ts : List Token) (ks : List TokenKind) → kinds_of ts ≡ ks → length ts ≡ length ks
length_kinds [] [] e = refl
length_kinds [] (k ∷ ks) e = cc
length_kinds (t ∷ ts) [] e = cc
length_kinds (t ∷ ts) (k ∷ ks) e = let tail : kinds_of ts ≡ ks = cc in ap suc (length_kinds ts ks tail)

pub record Measured (ts : List Token) (c : Cost) : Type 0 where
  pub tokens : length ts ≡ c.tokens
  pub height : deepest 0 ts ≡ c.height

pub measured : (a : Expr) (s : Sort) (m : Bool) (ts : List Token) → kinds_of ts ≡ tokens_of (shown a s m) → Measured ts (cost a s m)
measured a s m ts e =
    let h = (shaped a).at s m in
    let n : shown a s m ++ [] ≡ shown a s m = append-nil (shown a s m) in
    let f = kinds_of_append e n in
    record {
      tokens = length_kinds ts (tokens_of (shown a s m ++ [])) f ∙ (let g = h.tokens [] in omega (arith, g));
      height = deepest_kinds 0 ts (tokens_of (shown a s m ++ [])) f ∙ (let g = h.height 0 [] in omega (arith, g));
    }
  where
    kinds_of_append : {ps qs : List Piece} → kinds_of ts ≡ tokens_of qs → ps ≡ qs → kinds_of ts ≡ tokens_of ps
    kinds_of_append e n = e ∙ ap tokens_of (sym n)
