-- What is written is derived again.
use Rattle.std.proofs.Common.{◌≡◌, ℕ, zero, suc, ℤ, pos, negsuc, ◌<◌, ◌≤◌, ◌^◌, nat_lt, Bool, true, false, ◌&&◌, List, [], ◌∷◌, ◌++◌, refl, sym, ap, ◌∙◌, subst, map, append_assoc, arith, lit≤}
use Rattle.std.proofs.lemmas.Bool.{ltb-true}
use Rattle.cel_tree.specs.declared.tree.Span.{Span}
use Rattle.cel_tree.specs.declared.tree.Op.{Op}
use Rattle.cel_tree.specs.declared.tree.Expr.{Expr, roll-Expr, ind-Expr, map-Expr}
use Rattle.cel_tree.specs.declared.tree.Expr.TheOpen.{Expr-F}
use Rattle.cel_tree.specs.declared.tree.Expr.TheVariants as tree
use Rattle.cel_tree.specs.declared.tree.Expr.TheVariants.{rolls-Bool, rolls-Int, rolls-Str, rolls-Name, rolls-Select, rolls-Call, rolls-Method, rolls-Many, rolls-Not, rolls-Neg, rolls-Two, rolls-Pick}
use Rattle.cel_tree.specs.Tree.{nowhere, layer_unplaced, unplaced}
use Rattle.cel_tree.specs.declared.token.Sign.{Sign}
use Rattle.cel_tree.specs.declared.token.Sign.TheVariants as sign
use Rattle.cel_tree.specs.declared.token.TokenKind.{TokenKind}
use Rattle.cel_tree.specs.declared.token.TokenKind.TheVariants as kind
use Rattle.cel_tree.specs.Spelling.{is_name}
use Rattle.cel_grammar.specs.declared.level.Level.TheVariants.{Or}
use Rattle.cel_grammar.specs.Position.{Position, Takes, span, sees_number}
use Rattle.cel_grammar.specs.Grammar as g
use Rattle.cel_grammar.specs.declared.level.Sort.{Sort}
use Rattle.cel_grammar.specs.declared.level.Sort.TheVariants.{Whole, Binary, Unary, Nots, Negs, Member, Primary}
use Rattle.cel_grammar.specs.Grammar.{operand, Derives, Arguments, Listed, Elements, Row}
use Rattle.cel_shown.specs.Shown.{Piece, Blank, Word, signed, number, separated, closed_by, spaced, Writing, layer_shown, shown, level_of, sign_of, Stands}
use Rattle.cel_shown.specs.Readable.{all_true, is_literal_number, layer_readable, readable, DerivesAgain}
use Rattle.cel_shown.proofs.Layers.{fold_bool, fold_int, fold_str, fold_name, fold_select, fold_call, fold_method, fold_many, fold_not, fold_neg, fold_two, fold_pick}
use Rattle.cel_shown.proofs.Stand.{split, first_of_them, unblanked, only_one, inside, begins_with, brackets_begin}
use Rattle.cel_shown.proofs.Fit.{op_is, nots_fit, negs_fit, member_fits, primary_fits, level_fits, whole_fits, level_in_whole, Owned, placed_derives, placed_begins, tight, level_is_loose, whole_is_loose, loose_begins}

pub both_true : (x y : Bool) → (x && y) ≡ true → (x ≡ true) × (y ≡ true)
both_true true y e = (refl, e)
both_true false y e = cc

pub record Again (a : Expr) : Type 0 where
  pub at : readable a ≡ true → (s : Sort) (m : Bool) (i j : Position) → Stands (shown a s m) i j → DerivesAgain s i j a
  pub head : (s : Sort) → tight s ≡ true → (i j : Position) → Stands (shown a s true) i j → sees_number i ≡ false

-- by the layer's equation
from_layer : (a : Expr) (w : Writing) (b : Bool) → shown a ≡ w → readable a ≡ b
    → (b ≡ true → (s : Sort) (m : Bool) (i j : Position) → Stands (w s m) i j → DerivesAgain s i j a)
    → ((s : Sort) → tight s ≡ true → (i j : Position) → Stands (w s true) i j → sees_number i ≡ false) → Again a
from_layer a w b is r derives begins = record {
  at = λ h s m i j t. derives (sym r ∙ h) s m i j (subst (λ (f : Writing). Stands (f s m) i j) is t);
  head = λ s u i j t. begins s u i j (subst (λ (f : Writing). Stands (f s true) i j) is t);
}

-- one token, or a minus and a number

bool_case : (p : Span) (v : Bool) → Again (tree.Bool p v)
bool_case p v = from_layer (tree.Bool p v) _ _ (fold_bool layer_shown p v) (fold_bool layer_readable p v)
    (λ h s m i j t. record {
      tree = tree.Bool (span i j) v;
      same = fold_bool layer_unplaced (span i j) v ∙ sym (fold_bool layer_unplaced p v);
      derived = primary_fits i j (tree.Bool (span i j) v) s (g.truth (only_one t));
    })
    (λ s u i j t. begins_with (only_one t))

str_case : (p : Span) (v : List ℕ) → Again (tree.Str p v)
str_case p v = from_layer (tree.Str p v) _ _ (fold_str layer_shown p v) (fold_str layer_readable p v)
    (λ h s m i j t. record {
      tree = tree.Str (span i j) v;
      same = fold_str layer_unplaced (span i j) v ∙ sym (fold_str layer_unplaced p v);
      derived = primary_fits i j (tree.Str (span i j) v) s (g.text (only_one t));
    })
    (λ s u i j t. begins_with (only_one t))

name_case : (p : Span) (v : List ℕ) → Again (tree.Name p v)
name_case p v = from_layer (tree.Name p v) _ _ (fold_name layer_shown p v) (fold_name layer_readable p v)
    (λ h s m i j t. record {
      tree = tree.Name (span i j) v;
      same = fold_name layer_unplaced (span i j) v ∙ sym (fold_name layer_unplaced p v);
      derived = primary_fits i j (tree.Name (span i j) v) s (g.name (only_one t));
    })
    (λ s u i j t. begins_with (only_one t))

int_is : (p : Span) (n : ℤ) (s : Sort) (i j k l : Position) → Derives Primary i j (tree.Int (span k l) n) → DerivesAgain s i j (tree.Int p n)
int_is p n s i j k l d = record {
  tree = tree.Int (span k l) n;
  same = fold_int layer_unplaced (span k l) n ∙ sym (fold_int layer_unplaced p n);
  derived = primary_fits i j (tree.Int (span k l) n) s d;
}

below : (n : ℕ) → nat_lt n (2 ^ 63) ≡ true → suc n ≤ 2 ^ 63
below n e = let h : n < 2 ^ 63 = ltb-true n (2 ^ 63) e in omega arith

int_derives : (p : Span) (n : ℤ) → is_literal_number n ≡ true → (s : Sort) (m : Bool) (i j : Position) → Stands (number n m) i j → DerivesAgain s i j (tree.Int p n)
int_derives p (pos n) e s false i j t = int_is p (pos n) s i j i j (g.number (only_one t) (ltb-true n (2 ^ 63) e))
int_derives p (pos zero) e s true i j t = let f = first_of_them t in int_is p (pos zero) s i j i j (g.negative f.takes (only_one f.back) (lit≤ tt))
int_derives p (pos (suc n)) e s true i j t =
    let b = inside (Word (kind.Number (suc n)) ∷ []) t in
    let d = g.number (only_one b.inner) (ltb-true (suc n) (2 ^ 63) e) in
    int_is p (pos (suc n)) s i j b.open_at b.close_at (g.group b.opens (primary_fits b.open_at b.close_at _ Whole d) b.closes)
int_derives p (negsuc n) e s m i j t = let f = first_of_them t in int_is p (negsuc n) s i j i j (g.negative f.takes (only_one f.back) (below n e))

int_begins : (n : ℤ) (i j : Position) → Stands (number n true) i j → sees_number i ≡ false
int_begins (pos zero) i j t = begins_with (first_of_them t).takes
int_begins (pos (suc n)) i j t = brackets_begin (Word (kind.Number (suc n)) ∷ []) t
int_begins (negsuc n) i j t = begins_with (first_of_them t).takes

int_case : (p : Span) (n : ℤ) → Again (tree.Int p n)
int_case p n = from_layer (tree.Int p n) _ _ (fold_int layer_shown p n) (fold_int layer_readable p n)
    (λ h s m i j t. int_derives p n h s m i j t) (λ s u i j t. int_begins n i j t)

-- lists

record WrittenList (derives : Position → Position → List Expr → Type 0) (i j : Position) (es : List Expr) : Type 0 where
  trees : List Expr
  same : map unplaced trees ≡ map unplaced es
  derived : derives i j trees

list_again : (x : Sign) (derives : Position → Position → List Expr → Type 0)
    → ((i j k : Position) (a : Expr) → Derives Whole i j a → Takes (kind.Sign x) j k → derives i k (a ∷ []))
    → ((i j k m : Position) (a : Expr) (es : List Expr) → Derives Whole i j a → Takes (kind.Sign sign.Comma) j k → derives k m es → derives i m (a ∷ es))
    → (e : (a : Expr) × Again a) (es : List ((a : Expr) × Again a)) → all_true (readable e.0 ∷ map readable (map (λ e. e.0) es)) ≡ true → (i j : Position)
    → Stands (closed_by x (shown e.0 ∷ map shown (map (λ e. e.0) es))) i j → WrittenList derives i j (e.0 ∷ map (λ e. e.0) es)
list_again x derives last more e [] h i j t =
    let c = split (shown e.0 Whole false) (signed x ∷ []) t in
    let w = e.1.at (both_true (readable e.0) true h).0 Whole false i c.at c.front in
    record { trees = w.tree ∷ []; same = ap (λ (z : Expr). z ∷ []) w.same; derived = last i c.at j w.tree w.derived (only_one c.back) }
list_again x derives last more e (d ∷ es) h i j t =
    let rest = separated (shown d.0 ∷ map shown (map (λ e. e.0) es)) in
    let b = both_true (readable e.0) (all_true (readable d.0 ∷ map readable (map (λ e. e.0) es))) h in
    let t' = subst (λ (ps : List Piece). Stands ps i j) (append_assoc (shown e.0 Whole false) (signed sign.Comma ∷ Blank ∷ rest) (signed x ∷ [])) t in
    let c = split (shown e.0 Whole false) (signed sign.Comma ∷ Blank ∷ (rest ++ signed x ∷ [])) t' in
    let f = first_of_them c.back in
    let w = e.1.at b.0 Whole false i c.at c.front in
    let r = list_again x derives last more d es b.1 f.at j (unblanked f.back) in
    record {
      trees = w.tree ∷ r.trees;
      same = ap (λ (z : Expr). z ∷ map unplaced r.trees) w.same ∙ ap (λ (z : List Expr). unplaced e.0 ∷ z) r.same;
      derived = more i c.at f.at j w.tree r.trees w.derived f.takes r.derived;
    }

arguments_again : (es : List ((a : Expr) × Again a)) → all_true (map readable (map (λ e. e.0) es)) ≡ true → (i j : Position)
    → Stands (closed_by sign.CloseParenthesis (map shown (map (λ e. e.0) es))) i j → WrittenList Arguments i j (map (λ e. e.0) es)
arguments_again [] h i j t = record { trees = []; same = refl; derived = g.no_arguments (only_one t) }
arguments_again (e ∷ es) h i j t =
    let r = list_again sign.CloseParenthesis Listed (λ i j k a d t. g.last d t) (λ i j k m a es d t r. g.more d t r) e es h i j t in
    record { trees = r.trees; same = r.same; derived = g.arguments r.derived }

elements_again : (es : List ((a : Expr) × Again a)) → all_true (map readable (map (λ e. e.0) es)) ≡ true → (i j : Position)
    → Stands (closed_by sign.CloseBracket (map shown (map (λ e. e.0) es))) i j → WrittenList Elements i j (map (λ e. e.0) es)
elements_again [] h i j t = record { trees = []; same = refl; derived = g.no_elements (only_one t) }
elements_again (e ∷ es) h i j t =
    let r = list_again sign.CloseBracket Row (λ i j k a d t. g.row_last d t) (λ i j k m a es d t r. g.row_more d t r) e es h i j t in
    record { trees = r.trees; same = r.same; derived = g.elements r.derived }

call_case : (p : Span) (x : List ℕ) (es : List ((a : Expr) × Again a)) → Again (tree.Call p x (map (λ e. e.0) es))
call_case p x es = from_layer (tree.Call p x (map (λ e. e.0) es)) _ _ (fold_call layer_shown p x (map (λ e. e.0) es)) (fold_call layer_readable p x (map (λ e. e.0) es))
    (λ h s m i j t.
    let f = first_of_them t in
    let o = first_of_them f.back in
    let w = arguments_again es (both_true (is_name x) (all_true (map readable (map (λ e. e.0) es))) h).1 o.at j o.back in
    record {
      tree = tree.Call (span i j) x w.trees;
      same = fold_call layer_unplaced (span i j) x w.trees ∙ ap (λ (z : List Expr). tree.Call nowhere x z) w.same ∙ sym (fold_call layer_unplaced p x (map (λ e. e.0) es));
      derived = primary_fits i j (tree.Call (span i j) x w.trees) s (g.call f.takes o.takes w.derived);
    })
    (λ s u i j t. begins_with (first_of_them t).takes)

many_case : (p : Span) (es : List ((a : Expr) × Again a)) → Again (tree.Many p (map (λ e. e.0) es))
many_case p es = from_layer (tree.Many p (map (λ e. e.0) es)) _ _ (fold_many layer_shown p (map (λ e. e.0) es)) (fold_many layer_readable p (map (λ e. e.0) es))
    (λ h s m i j t.
    let o = first_of_them t in
    let w = elements_again es h o.at j o.back in
    record {
      tree = tree.Many (span i j) w.trees;
      same = fold_many layer_unplaced (span i j) w.trees ∙ ap (λ (z : List Expr). tree.Many nowhere z) w.same ∙ sym (fold_many layer_unplaced p (map (λ e. e.0) es));
      derived = primary_fits i j (tree.Many (span i j) w.trees) s (g.list o.takes w.derived);
    })
    (λ s u i j t. begins_with (first_of_them t).takes)

-- members

select_inner : (p : Span) (a : Expr) (x : List ℕ) → Again a → readable a ≡ true → (m : Bool) (i j : Position)
    → Stands (shown a Member m ++ (signed sign.Dot ∷ Word (kind.Name x) ∷ [])) i j → Owned (Derives Member) i j (tree.Select p a x)
select_inner p a x r h m i j t =
    let c = split (shown a Member m) (signed sign.Dot ∷ Word (kind.Name x) ∷ []) t in
    let f = first_of_them c.back in
    let w = r.at h Member m i c.at c.front in
    record {
      tree = tree.Select (span i j) w.tree x;
      same = fold_select layer_unplaced (span i j) w.tree x ∙ ap (λ (z : Expr). tree.Select nowhere z x) w.same ∙ sym (fold_select layer_unplaced p a x);
      owned = g.select w.derived f.takes (only_one f.back);
    }

select_case : (p : Span) (a : Expr) (x : List ℕ) → Again a → Again (tree.Select p a x)
select_case p a x r = from_layer (tree.Select p a x) _ _ (fold_select layer_shown p a x) (fold_select layer_readable p a x)
    (λ h s m i j t.
    placed_derives Member (Derives Member) (λ m. shown a Member m ++ (signed sign.Dot ∷ Word (kind.Name x) ∷ [])) (tree.Select p a x) refl
    (λ i j t s e d. member_fits i j t s e d) (select_inner p a x r (both_true (readable a) (is_name x) h).0) s m i j t)
    (λ s u i j t.
    placed_begins Member (λ m. shown a Member m ++ (signed sign.Dot ∷ Word (kind.Name x) ∷ []))
    (λ i j t. let c = split (shown a Member true) (signed sign.Dot ∷ Word (kind.Name x) ∷ []) t in r.head Member refl i c.at c.front) s i j t)

method_inner : (p : Span) (a : Expr) (x : List ℕ) (es : List ((a : Expr) × Again a)) → Again a → readable a ≡ true → all_true (map readable (map (λ e. e.0) es)) ≡ true
    → (m : Bool) (i j : Position)
    → Stands (shown a Member m ++ (signed sign.Dot ∷ Word (kind.Name x) ∷ signed sign.OpenParenthesis ∷ closed_by sign.CloseParenthesis (map shown (map (λ e. e.0) es)))) i j
    → Owned (Derives Member) i j (tree.Method p a x (map (λ e. e.0) es))
method_inner p a x es r h k m i j t =
    let c = split (shown a Member m) (signed sign.Dot ∷ Word (kind.Name x) ∷ signed sign.OpenParenthesis ∷ closed_by sign.CloseParenthesis (map shown (map (λ e. e.0) es))) t in
    let f = first_of_them c.back in
    let n = first_of_them f.back in
    let o = first_of_them n.back in
    let w = r.at h Member m i c.at c.front in
    let v = arguments_again es k o.at j o.back in
    record {
      tree = tree.Method (span i j) w.tree x v.trees;
      same = fold_method layer_unplaced (span i j) w.tree x v.trees ∙ ap (λ (z : Expr). tree.Method nowhere z x (map unplaced v.trees)) w.same
          ∙ ap (λ (z : List Expr). tree.Method nowhere (unplaced a) x z) v.same ∙ sym (fold_method layer_unplaced p a x (map (λ e. e.0) es));
      owned = g.method w.derived f.takes n.takes o.takes v.derived;
    }

method_case : (p : Span) (a : Expr) (x : List ℕ) (es : List ((a : Expr) × Again a)) → Again a → Again (tree.Method p a x (map (λ e. e.0) es))
method_case p a x es r = from_layer (tree.Method p a x (map (λ e. e.0) es)) _ _ (fold_method layer_shown p a x (map (λ e. e.0) es)) (fold_method layer_readable p a x (map (λ e. e.0) es))
    (λ h s m i j t.
    let b = both_true (readable a) (is_name x && all_true (map readable (map (λ e. e.0) es))) h in
    let c = both_true (is_name x) (all_true (map readable (map (λ e. e.0) es))) b.1 in
    placed_derives Member (Derives Member)
    (λ m. shown a Member m ++ (signed sign.Dot ∷ Word (kind.Name x) ∷ signed sign.OpenParenthesis ∷ closed_by sign.CloseParenthesis (map shown (map (λ e. e.0) es))))
    (tree.Method p a x (map (λ e. e.0) es)) refl (λ i j t s e d. member_fits i j t s e d) (method_inner p a x es r b.0 c.1) s m i j t)
    (λ s u i j t.
    placed_begins Member
    (λ m. shown a Member m ++ (signed sign.Dot ∷ Word (kind.Name x) ∷ signed sign.OpenParenthesis ∷ closed_by sign.CloseParenthesis (map shown (map (λ e. e.0) es))))
    (λ i j t.
    let c = split (shown a Member true) (signed sign.Dot ∷ Word (kind.Name x) ∷ signed sign.OpenParenthesis ∷ closed_by sign.CloseParenthesis (map shown (map (λ e. e.0) es))) t in
    r.head Member refl i c.at c.front) s i j t)

-- unary operators

not_inner : (p : Span) (a : Expr) → Again a → readable a ≡ true → (m : Bool) (i j : Position) → Stands (signed sign.Bang ∷ shown a Nots false) i j
    → Owned (Derives Nots) i j (tree.Not p a)
not_inner p a r h m i j t =
    let f = first_of_them t in
    let w = r.at h Nots false f.at j f.back in
    record {
      tree = tree.Not (span i j) w.tree;
      same = fold_not layer_unplaced (span i j) w.tree ∙ ap (λ (z : Expr). tree.Not nowhere z) w.same ∙ sym (fold_not layer_unplaced p a);
      owned = g.not f.takes w.derived;
    }

not_case : (p : Span) (a : Expr) → Again a → Again (tree.Not p a)
not_case p a r = from_layer (tree.Not p a) _ _ (fold_not layer_shown p a) (fold_not layer_readable p a)
    (λ h s m i j t.
    placed_derives Nots (Derives Nots) (λ m. signed sign.Bang ∷ shown a Nots false) (tree.Not p a) refl (λ i j t s e d. nots_fit i j t s e d) (not_inner p a r h) s m i j t)
    (λ s u i j t. placed_begins Nots (λ m. signed sign.Bang ∷ shown a Nots false) (λ i j t. begins_with (first_of_them t).takes) s i j t)

neg_inner : (p : Span) (a : Expr) → Again a → readable a ≡ true → (m : Bool) (i j : Position) → Stands (signed sign.Minus ∷ shown a Negs true) i j
    → Owned (λ i j t. Derives Unary i j t × Derives Negs i j t) i j (tree.Neg p a)
neg_inner p a r h m i j t =
    let f = first_of_them t in
    let w = r.at h Negs true f.at j f.back in
    let n = r.head Negs refl f.at j f.back in
    record {
      tree = tree.Neg (span i j) w.tree;
      same = fold_neg layer_unplaced (span i j) w.tree ∙ ap (λ (z : Expr). tree.Neg nowhere z) w.same ∙ sym (fold_neg layer_unplaced p a);
      owned = (g.unary_neg f.takes n w.derived, g.neg f.takes n w.derived);
    }

neg_case : (p : Span) (a : Expr) → Again a → Again (tree.Neg p a)
neg_case p a r = from_layer (tree.Neg p a) _ _ (fold_neg layer_shown p a) (fold_neg layer_readable p a)
    (λ h s m i j t.
    placed_derives Negs (λ i j t. Derives Unary i j t × Derives Negs i j t) (λ m. signed sign.Minus ∷ shown a Negs true) (tree.Neg p a) refl
    (λ i j t s e d. negs_fit i j t s e d) (neg_inner p a r h) s m i j t)
    (λ s u i j t. placed_begins Negs (λ m. signed sign.Minus ∷ shown a Negs true) (λ i j t. begins_with (first_of_them t).takes) s i j t)

-- binary operators and the choice: what they begin with is not asked, since they stand in brackets behind a minus

two_inner : (p : Span) (o : Op) (a b : Expr) → Again a → Again b → readable a ≡ true → readable b ≡ true → (m : Bool) (i j : Position)
    → Stands (shown a (Binary (level_of o)) false ++ spaced (sign_of o) (shown b (operand (level_of o)) false)) i j
    → Owned (Derives (Binary (level_of o))) i j (tree.Two p o a b)
two_inner p o a b ra rb ha hb m i j t =
    let c = split (shown a (Binary (level_of o)) false) (spaced (sign_of o) (shown b (operand (level_of o)) false)) t in
    let f = first_of_them (unblanked c.back) in
    let wa = ra.at ha (Binary (level_of o)) false i c.at c.front in
    let wb = rb.at hb (operand (level_of o)) false f.at j (unblanked f.back) in
    record {
      tree = tree.Two (span i j) o wa.tree wb.tree;
      same = fold_two layer_unplaced (span i j) o wa.tree wb.tree ∙ ap (λ (z : Expr). tree.Two nowhere o z (unplaced wb.tree)) wa.same
          ∙ ap (λ (z : Expr). tree.Two nowhere o (unplaced a) z) wb.same ∙ sym (fold_two layer_unplaced p o a b);
      owned = g.two wa.derived f.takes (op_is o) wb.derived;
    }

two_case : (p : Span) (o : Op) (a b : Expr) → Again a → Again b → Again (tree.Two p o a b)
two_case p o a b ra rb = from_layer (tree.Two p o a b) _ _ (fold_two layer_shown p o a b) (fold_two layer_readable p o a b)
    (λ h s m i j t.
    let c = both_true (readable a) (readable b) h in
    placed_derives (Binary (level_of o)) (Derives (Binary (level_of o)))
    (λ m. shown a (Binary (level_of o)) false ++ spaced (sign_of o) (shown b (operand (level_of o)) false)) (tree.Two p o a b) (level_in_whole (level_of o))
    (λ i j t s e d. level_fits i j t (level_of o) s e d) (two_inner p o a b ra rb c.0 c.1) s m i j t)
    (λ s u i j t.
    loose_begins (Binary (level_of o)) (λ m. shown a (Binary (level_of o)) false ++ spaced (sign_of o) (shown b (operand (level_of o)) false)) s (level_is_loose (level_of o) s u) i j t)

pick_inner : (p : Span) (c a b : Expr) → Again c → Again a → Again b → readable c ≡ true → readable a ≡ true → readable b ≡ true → (m : Bool) (i j : Position)
    → Stands (shown c (Binary Or) false ++ spaced sign.Question (shown a (Binary Or) false ++ spaced sign.Colon (shown b Whole false))) i j → Owned (Derives Whole) i j (tree.Pick p c a b)
pick_inner p c a b rc ra rb hc ha hb m i j t =
    let u = split (shown c (Binary Or) false) (spaced sign.Question (shown a (Binary Or) false ++ spaced sign.Colon (shown b Whole false))) t in
    let f = first_of_them (unblanked u.back) in
    let v = split (shown a (Binary Or) false) (spaced sign.Colon (shown b Whole false)) (unblanked f.back) in
    let h = first_of_them (unblanked v.back) in
    let wc = rc.at hc (Binary Or) false i u.at u.front in
    let wa = ra.at ha (Binary Or) false f.at v.at v.front in
    let wb = rb.at hb Whole false h.at j (unblanked h.back) in
    record {
      tree = tree.Pick (span i j) wc.tree wa.tree wb.tree;
      same = fold_pick layer_unplaced (span i j) wc.tree wa.tree wb.tree ∙ ap (λ (z : Expr). tree.Pick nowhere z (unplaced wa.tree) (unplaced wb.tree)) wc.same
          ∙ ap (λ (z : Expr). tree.Pick nowhere (unplaced c) z (unplaced wb.tree)) wa.same
          ∙ ap (λ (z : Expr). tree.Pick nowhere (unplaced c) (unplaced a) z) wb.same ∙ sym (fold_pick layer_unplaced p c a b);
      owned = g.pick wc.derived f.takes wa.derived h.takes wb.derived;
    }

pick_case : (p : Span) (c a b : Expr) → Again c → Again a → Again b → Again (tree.Pick p c a b)
pick_case p c a b rc ra rb = from_layer (tree.Pick p c a b) _ _ (fold_pick layer_shown p c a b) (fold_pick layer_readable p c a b)
    (λ h s m i j t.
    let x = both_true (readable c) (readable a && readable b) h in
    let y = both_true (readable a) (readable b) x.1 in
    placed_derives Whole (Derives Whole)
    (λ m. shown c (Binary Or) false ++ spaced sign.Question (shown a (Binary Or) false ++ spaced sign.Colon (shown b Whole false))) (tree.Pick p c a b) refl
    (λ i j t s e d. whole_fits i j t s e d) (pick_inner p c a b rc ra rb x.0 y.0 y.1) s m i j t)
    (λ s u i j t.
    loose_begins Whole (λ m. shown c (Binary Or) false ++ spaced sign.Question (shown a (Binary Or) false ++ spaced sign.Colon (shown b Whole false))) s (whole_is_loose s u) i j t)

again_step : (y : Expr-F ((e : Expr) × Again e)) (x : Expr-F Expr) → map-Expr ((e : Expr) × Again e) Expr (λ e. e.0) y ≡ x → Again (roll-Expr x)
again_step (Expr-F.Bool p b) x is = subst (λ z. Again (roll-Expr z)) is (subst Again (sym (rolls-Bool p b)) (bool_case p b))
again_step (Expr-F.Int p n) x is = subst (λ z. Again (roll-Expr z)) is (subst Again (sym (rolls-Int p n)) (int_case p n))
again_step (Expr-F.Str p v) x is = subst (λ z. Again (roll-Expr z)) is (subst Again (sym (rolls-Str p v)) (str_case p v))
again_step (Expr-F.Name p v) x is = subst (λ z. Again (roll-Expr z)) is (subst Again (sym (rolls-Name p v)) (name_case p v))
again_step (Expr-F.Select p a v) x is = subst (λ z. Again (roll-Expr z)) is (subst Again (sym (rolls-Select p a.0 v)) (select_case p a.0 v a.1))
again_step (Expr-F.Call p v es) x is = subst (λ z. Again (roll-Expr z)) is (subst Again (sym (rolls-Call p v (map (λ e. e.0) es))) (call_case p v es))
again_step (Expr-F.Method p a v es) x is = subst (λ z. Again (roll-Expr z)) is (subst Again (sym (rolls-Method p a.0 v (map (λ e. e.0) es))) (method_case p a.0 v es a.1))
again_step (Expr-F.Many p es) x is = subst (λ z. Again (roll-Expr z)) is (subst Again (sym (rolls-Many p (map (λ e. e.0) es))) (many_case p es))
again_step (Expr-F.Not p a) x is = subst (λ z. Again (roll-Expr z)) is (subst Again (sym (rolls-Not p a.0)) (not_case p a.0 a.1))
again_step (Expr-F.Neg p a) x is = subst (λ z. Again (roll-Expr z)) is (subst Again (sym (rolls-Neg p a.0)) (neg_case p a.0 a.1))
again_step (Expr-F.Two p o a b) x is = subst (λ z. Again (roll-Expr z)) is (subst Again (sym (rolls-Two p o a.0 b.0)) (two_case p o a.0 b.0 a.1 b.1))
again_step (Expr-F.Pick p c a b) x is = subst (λ z. Again (roll-Expr z)) is (subst Again (sym (rolls-Pick p c.0 a.0 b.0)) (pick_case p c.0 a.0 b.0 c.1 a.1 b.1))

pub again : (a : Expr) → Again a
again = ind-Expr Again (λ x y is. again_step y x is)
