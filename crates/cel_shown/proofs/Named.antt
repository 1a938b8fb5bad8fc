-- What is derived from tokens whose names are names can be read.
use Rattle.std.proofs.Common.{◌≡◌, ℕ, zero, suc, pos, neg_ℤ, ◌≤◌, ◌^◌, Bool, true, ◌&&◌, List, [], ◌∷◌, map, refl, sym, ap, ◌∙◌, arith}
use Rattle.std.proofs.lemmas.Bool.{lt-ltb}
use Rattle.cel_tree.specs.declared.tree.Op.{Op}
use Rattle.cel_tree.specs.declared.tree.Expr.{Expr}
use Rattle.cel_tree.specs.declared.tree.Expr.TheVariants as tree
use Rattle.cel_tree.specs.declared.token.Sign.{Sign}
use Rattle.cel_tree.specs.declared.token.Sign.TheVariants as sign
use Rattle.cel_tree.specs.declared.token.Token.{Token}
use Rattle.cel_tree.specs.declared.token.TokenKind.{TokenKind}
use Rattle.cel_tree.specs.declared.token.TokenKind.TheVariants as kind
use Rattle.cel_tree.specs.Spelling.{is_name}
use Rattle.cel_grammar.specs.declared.level.Sort.{Sort}
use Rattle.cel_grammar.specs.Position.{Position, Takes, TakesFirst, span}
use Rattle.cel_grammar.specs.Grammar as g
use Rattle.cel_grammar.specs.Grammar.{Derives, Arguments, Listed, Elements, Row}
use Rattle.cel_shown.specs.Readable.{all_true, is_literal_number, layer_readable, readable, passes, all_pass}
use Rattle.cel_shown.proofs.Layers.{fold_bool, fold_int, fold_str, fold_name, fold_select, fold_call, fold_method, fold_many, fold_not, fold_neg, fold_two, fold_pick}
use Rattle.cel_shown.proofs.Again.{both_true}

and_both : (x y : Bool) → x ≡ true → y ≡ true → (x && y) ≡ true
and_both x y e f = ap (λ b. b && y) e ∙ f

abbrev Passing : Position → Type 0
Passing i = all_pass i.rest ≡ true

taken_passes : (k : TokenKind) (rest : List Token) (j : Position) → TakesFirst k rest j → all_pass rest ≡ true → (passes k ≡ true) × Passing j
taken_passes k [] j t h = elim t [ ]
taken_passes k (u ∷ rest) j t h =
    let b = both_true (passes u.kind) (all_pass rest) h in
    (ap passes (sym t.0) ∙ b.0, ap (λ (z : Position). all_pass z.rest) t.1 ∙ b.1)

passes_on : (k : TokenKind) (i j : Position) → Takes k i j → Passing i → (passes k ≡ true) × Passing j
passes_on k i j t h = taken_passes k i.rest j t.taken h

-- the tree can be read, and what follows passes
record Reads (a : Expr) (j : Position) : Type 0 where
  tree : readable a ≡ true
  rest : Passing j

record ReadsAll (es : List Expr) (j : Position) : Type 0 where
  trees : all_true (map readable es) ≡ true
  rest : Passing j

negative_reads : (n : ℕ) → n ≤ 2 ^ 63 → is_literal_number (neg_ℤ (pos n)) ≡ true
negative_reads zero h = refl
negative_reads (suc n) h = lt-ltb n (2 ^ 63) (omega (arith, h))

pick_reads : (i j k l m n : Position) (c a b : Expr) → Reads c j → Takes (kind.Sign sign.Question) j k → (Passing k → Reads a l) → Takes (kind.Sign sign.Colon) l m → (Passing m → Reads b n)
    → Reads (tree.Pick (span i n) c a b) n
pick_reads i j k l m n c a b rc t fa u fb =
    let ra = fa (passes_on _ j k t rc.rest).1 in
    let rb = fb (passes_on _ l m u ra.rest).1 in
    record {
      tree = fold_pick layer_readable (span i n) c a b ∙ and_both (readable c) (readable a && readable b) rc.tree (and_both (readable a) (readable b) ra.tree rb.tree);
      rest = rb.rest;
    }

two_reads : (i j k m : Position) (x : Sign) (o : Op) (a b : Expr) → Reads a j → Takes (kind.Sign x) j k → (Passing k → Reads b m) → Reads (tree.Two (span i m) o a b) m
two_reads i j k m x o a b ra t fb =
    let rb = fb (passes_on _ j k t ra.rest).1 in
    record { tree = fold_two layer_readable (span i m) o a b ∙ and_both (readable a) (readable b) ra.tree rb.tree; rest = rb.rest }

not_reads : (i k : Position) (a : Expr) → Reads a k → Reads (tree.Not (span i k) a) k
not_reads i k a r = record { tree = fold_not layer_readable (span i k) a ∙ r.tree; rest = r.rest }

neg_reads : (i k : Position) (a : Expr) → Reads a k → Reads (tree.Neg (span i k) a) k
neg_reads i k a r = record { tree = fold_neg layer_readable (span i k) a ∙ r.tree; rest = r.rest }

select_reads : (i j k m : Position) (a : Expr) (x : List ℕ) → Reads a j → Takes (kind.Sign sign.Dot) j k → Takes (kind.Name x) k m → Reads (tree.Select (span i m) a x) m
select_reads i j k m a x r t u =
    let n = passes_on _ k m u (passes_on _ j k t r.rest).1 in
    record { tree = fold_select layer_readable (span i m) a x ∙ and_both (readable a) (is_name x) r.tree n.0; rest = n.1 }

method_reads : (i j k l m n : Position) (a : Expr) (x : List ℕ) (es : List Expr) → Reads a j → Takes (kind.Sign sign.Dot) j k → Takes (kind.Name x) k l → Takes (kind.Sign sign.OpenParenthesis) l m
    → (Passing m → ReadsAll es n) → Reads (tree.Method (span i n) a x es) n
method_reads i j k l m n a x es r t u v f =
    let p = passes_on _ k l u (passes_on _ j k t r.rest).1 in
    let q = f (passes_on _ l m v p.1).1 in
    record {
      tree = fold_method layer_readable (span i n) a x es
          ∙ and_both (readable a) (is_name x && all_true (map readable es)) r.tree (and_both (is_name x) (all_true (map readable es)) p.0 q.trees);
      rest = q.rest;
    }

call_reads : (i j k m : Position) (x : List ℕ) (es : List Expr) → Passing i → Takes (kind.Name x) i j → Takes (kind.Sign sign.OpenParenthesis) j k → (Passing k → ReadsAll es m) → Reads (tree.Call (span i m) x es) m
call_reads i j k m x es h t u f =
    let p = passes_on _ i j t h in
    let q = f (passes_on _ j k u p.1).1 in
    record { tree = fold_call layer_readable (span i m) x es ∙ and_both (is_name x) (all_true (map readable es)) p.0 q.trees; rest = q.rest }

cons_reads : (j k : Position) (x : Sign) (a : Expr) (es : List Expr) (m : Position) → Reads a j → Takes (kind.Sign x) j k → (Passing k → ReadsAll es m) → ReadsAll (a ∷ es) m
cons_reads j k x a es m r t f =
    let q = f (passes_on _ j k t r.rest).1 in
    record { trees = and_both (readable a) (all_true (map readable es)) r.tree q.trees; rest = q.rest }

none_reads : (i j : Position) (x : Sign) → Passing i → Takes (kind.Sign x) i j → ReadsAll [] j
none_reads i j x h t = record { trees = refl; rest = (passes_on _ i j t h).1 }

mutual
  reads : {s : Sort} {i j : Position} {a : Expr} → Derives s i j a → Passing i → Reads a j
  reads (g.whole d) h = reads d h
  reads (g.pick {i = i} {j = j} {k = k} {l = l} {m = m} {n = n} {c = c} {a = a} {b = b} d t e u f) h = pick_reads i j k l m n c a b (reads d h) t (reads e) u (reads f)
  reads (g.alone d) h = reads d h
  reads (g.two {i = i} {j = j} {k = k} {m = m} {x = x} {o = o} {a = a} {b = b} d t e f) h = two_reads i j k m x o a b (reads d h) t (reads f)
  reads (g.unary d) h = reads d h
  reads (g.unary_neg {i = i} {k = k} {a = a} t n d) h = neg_reads i k a (reads d (passes_on _ _ _ t h).1)
  reads (g.not {i = i} {k = k} {a = a} t d) h = not_reads i k a (reads d (passes_on _ _ _ t h).1)
  reads (g.not_end d) h = reads d h
  reads (g.neg {i = i} {k = k} {a = a} t n d) h = neg_reads i k a (reads d (passes_on _ _ _ t h).1)
  reads (g.neg_end d) h = reads d h
  reads (g.primary d) h = reads d h
  reads (g.select {i = i} {j = j} {k = k} {m = m} {a = a} {x = x} d t u) h = select_reads i j k m a x (reads d h) t u
  reads (g.method {i = i} {j = j} {k = k} {l = l} {m = m} {n = n} {a = a} {x = x} {es = es} d t u v r) h = method_reads i j k l m n a x es (reads d h) t u v (reads_arguments r)
  reads (g.name {i = i} {j = j} {x = x} t) h = let p = passes_on _ _ _ t h in record { tree = fold_name layer_readable (span i j) x ∙ p.0; rest = p.1 }
  reads (g.call {i = i} {j = j} {k = k} {m = m} {x = x} {es = es} t u r) h = call_reads i j k m x es h t u (reads_arguments r)
  reads (g.group t d u) h = let r = reads d (passes_on _ _ _ t h).1 in record { tree = r.tree; rest = (passes_on _ _ _ u r.rest).1 }
  reads (g.list {i = i} {k = k} {es = es} t r) h = let q = reads_elements r (passes_on _ _ _ t h).1 in record { tree = fold_many layer_readable (span i k) es ∙ q.trees; rest = q.rest }
  reads (g.truth {i = i} {j = j} {b = b} t) h = record { tree = fold_bool layer_readable (span i j) b; rest = (passes_on _ _ _ t h).1 }
  reads (g.number {i = i} {j = j} {n = n} t u) h = record { tree = fold_int layer_readable (span i j) (pos n) ∙ lt-ltb n (2 ^ 63) u; rest = (passes_on _ _ _ t h).1 }
  reads (g.negative {i = i} {k = k} {n = n} t u x) h =
      record { tree = fold_int layer_readable (span i k) (neg_ℤ (pos n)) ∙ negative_reads n x; rest = (passes_on _ _ _ u (passes_on _ _ _ t h).1).1 }
  reads (g.text {i = i} {j = j} {x = x} t) h = record { tree = fold_str layer_readable (span i j) x; rest = (passes_on _ _ _ t h).1 }

  reads_arguments : {i j : Position} {es : List Expr} → Arguments i j es → Passing i → ReadsAll es j
  reads_arguments (g.no_arguments t) h = none_reads _ _ _ h t
  reads_arguments (g.arguments r) h = reads_listed r h

  reads_listed : {i j : Position} {es : List Expr} → Listed i j es → Passing i → ReadsAll es j
  reads_listed (g.last d t) h = cons_reads _ _ _ _ _ _ (reads d h) t (λ p. record { trees = refl; rest = p })
  reads_listed (g.more d t r) h = cons_reads _ _ _ _ _ _ (reads d h) t (reads_listed r)

  reads_elements : {i j : Position} {es : List Expr} → Elements i j es → Passing i → ReadsAll es j
  reads_elements (g.no_elements t) h = none_reads _ _ _ h t
  reads_elements (g.elements r) h = reads_row r h

  reads_row : {i j : Position} {es : List Expr} → Row i j es → Passing i → ReadsAll es j
  reads_row (g.row_last d t) h = cons_reads _ _ _ _ _ _ (reads d h) t (λ p. record { trees = refl; rest = p })
  reads_row (g.row_comma d t u) h = cons_reads _ _ _ _ _ _ (reads d h) t (λ p. record { trees = refl; rest = (passes_on _ _ _ u p).1 })
  reads_row (g.row_more d t r) h = cons_reads _ _ _ _ _ _ (reads d h) t (reads_row r)

pub derived_reads : {s : Sort} {i j : Position} {a : Expr} → Derives s i j a → all_pass i.rest ≡ true → readable a ≡ true
derived_reads d h = (reads d h).tree
