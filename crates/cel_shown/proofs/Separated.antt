-- Each piece of what is written may stand where it stands.
use Rattle.std.proofs.Common.{◌≡◌, ℕ, zero, suc, ℤ, pos, negsuc, ◌<◌, ◌^◌, nat_lt, Bool, true, false, cond, ◌&&◌, List, [], ◌∷◌, ◌++◌, Option, Some, None, refl, sym, ap, ◌∙◌, subst, map, append_assoc, arith}
use Rattle.std.proofs.lemmas.Bool.{ltb-true, le-leb}
use Rattle.cel_tree.specs.declared.tree.Op.{Op}
use Rattle.cel_tree.specs.declared.tree.Op.TheVariants as op
use Rattle.cel_tree.specs.declared.tree.Expr.{Expr, roll-Expr, ind-Expr, map-Expr}
use Rattle.cel_tree.specs.declared.tree.Expr.TheOpen.{Expr-F}
use Rattle.cel_tree.specs.declared.tree.Expr.TheVariants as tree
use Rattle.cel_tree.specs.declared.tree.Expr.TheVariants.{rolls-Bool, rolls-Int, rolls-Str, rolls-Name, rolls-Select, rolls-Call, rolls-Method, rolls-Many, rolls-Not, rolls-Neg, rolls-Two, rolls-Pick}
use Rattle.cel_tree.specs.declared.token.Sign.{Sign}
use Rattle.cel_tree.specs.declared.token.Sign.TheVariants as sign
use Rattle.cel_tree.specs.declared.token.TokenKind.{TokenKind}
use Rattle.cel_tree.specs.declared.token.TokenKind.TheVariants as kind
use Rattle.cel_tree.specs.Spelling.{is_name}
use Rattle.cel_grammar.specs.declared.level.Level.TheVariants.{Or, And, Add, Mul}
use Rattle.cel_grammar.specs.declared.level.Sort.{Sort}
use Rattle.cel_grammar.specs.declared.level.Sort.TheVariants.{Whole, Binary, Nots, Negs, Member}
use Rattle.cel_grammar.specs.Grammar.{operand}
use Rattle.cel_shown.specs.Shown.{Piece, Blank, Word, signed, bracketed, within, placed, number, separated, closed_by, spaced, Writing, layer_shown, shown, level_of, sign_of}
use Rattle.cel_shown.specs.Readable.{all_true, is_literal_number, layer_readable, readable}
use Rattle.cel_shown.specs.Separate.{Before, Start, Minus, Operand, Dot, Gap, Operator, only_if, step, steps_from, steps}
use Rattle.cel_shown.proofs.Layers.{fold_bool, fold_int, fold_str, fold_name, fold_select, fold_call, fold_method, fold_many, fold_not, fold_neg, fold_two, fold_pick}
use Rattle.cel_shown.proofs.Again.{both_true}

operator_step : (o : Op) → step Gap (signed (sign_of o)) ≡ Some Operator
operator_step op.Or = refl
operator_step op.And = refl
operator_step op.Lt = refl
operator_step op.Le = refl
operator_step op.Gt = refl
operator_step op.Ge = refl
operator_step op.Eq = refl
operator_step op.Ne = refl
operator_step op.In = refl
operator_step op.Add = refl
operator_step op.Sub = refl
operator_step op.Mul = refl
operator_step op.Div = refl
operator_step op.Rem = refl

-- where an operand is expected, behind a minus or not
abbrev opening : Bool → Before
opening false = Start
opening true = Minus

append : (x : Option Before) (ps qs : List Piece) → steps_from x (ps ++ qs) ≡ steps_from (steps_from x ps) qs
append None [] qs = none qs
  where
    none : (qs : List Piece) → steps_from None qs ≡ steps_from None qs
    none qs = refl
append None (p ∷ ps) qs = refl
append (Some x) [] qs = refl
append (Some x) (p ∷ ps) qs = append (step x p) ps qs

-- first the one, then the other
through : (x y : Before) (z : Option Before) (ps qs : List Piece) → steps x ps ≡ Some y → steps y qs ≡ z → steps x (ps ++ qs) ≡ z
through x y z ps qs e f = append (Some x) ps qs ∙ ap (λ (o : Option Before). steps_from o qs) e ∙ f

-- one piece, then the others
piece : (x y : Before) (z : Option Before) (p : Piece) (ps : List Piece) → step x p ≡ Some y → steps y ps ≡ z → steps x (p ∷ ps) ≡ z
piece x y z p ps e f = ap (λ (o : Option Before). steps_from o ps) e ∙ f

open_step : (b : Bool) → step (opening b) (signed sign.OpenParenthesis) ≡ Some Start
open_step true = refl
open_step false = refl

list_step : (b : Bool) → step (opening b) (signed sign.OpenBracket) ≡ Some Start
list_step true = refl
list_step false = refl

bang_step : (b : Bool) → step (opening b) (signed sign.Bang) ≡ Some Start
bang_step true = refl
bang_step false = refl

minus_step : (b : Bool) → step (opening b) (signed sign.Minus) ≡ Some Minus
minus_step true = refl
minus_step false = refl

truth_step : (b v : Bool) → step (opening b) (Word (kind.Truth v)) ≡ Some Operand
truth_step true v = refl
truth_step false v = refl

str_step : (b : Bool) (v : List ℕ) → step (opening b) (Word (kind.Str v)) ≡ Some Operand
str_step true v = refl
str_step false v = refl

name_step : (b : Bool) (x : List ℕ) → is_name x ≡ true → step (opening b) (Word (kind.Name x)) ≡ Some Operand
name_step true x e = ap (λ b. only_if b Operand) e
name_step false x e = ap (λ b. only_if b Operand) e

number_step : (b : Bool) (n : ℕ) → nat_lt n (2 ^ 63) ≡ true → step (opening b) (Word (kind.Number n)) ≡ Some Operand
number_step false n e = ap (λ b. only_if b Operand) e
number_step true n e = let h : n < 2 ^ 63 = ltb-true n (2 ^ 63) e in ap (λ b. only_if b Operand) (le-leb n (2 ^ 63) (omega arith))

negative_step : (n : ℕ) → nat_lt n (2 ^ 63) ≡ true → step Minus (Word (kind.Number (suc n))) ≡ Some Operand
negative_step n e = let h : n < 2 ^ 63 = ltb-true n (2 ^ 63) e in ap (λ b. only_if b Operand) (le-leb (suc n) (2 ^ 63) (omega arith))

-- in brackets
bracketed_runs : (b : Bool) (ps : List Piece) → steps Start ps ≡ Some Operand → steps (opening b) (bracketed ps) ≡ Some Operand
bracketed_runs b ps e =
    piece (opening b) Start (Some Operand) (signed sign.OpenParenthesis) (ps ++ signed sign.CloseParenthesis ∷ []) (open_step b)
    (through Start Operand (Some Operand) ps (signed sign.CloseParenthesis ∷ []) e refl)

placed_runs : (own : Sort) (f : Bool → List Piece) → ((b m : Bool) → steps (opening b) (f m) ≡ Some Operand)
    → (b : Bool) (s : Sort) (m : Bool) → steps (opening b) (placed own f s m) ≡ Some Operand
placed_runs own f runs b s m = go (within own s)
  where
    go : (v : Bool) → steps (opening b) (cond v (f m) (bracketed (f false))) ≡ Some Operand
    go true = runs b m
    go false = bracketed_runs b (f false) (runs false false)

pub record Runs (a : Expr) : Type 0 where
  pub at : readable a ≡ true → (b : Bool) (s : Sort) (m : Bool) → steps (opening b) (shown a s m) ≡ Some Operand

from_layer : (a : Expr) (w : Writing) (r : Bool) → shown a ≡ w → readable a ≡ r
    → (r ≡ true → (b : Bool) (s : Sort) (m : Bool) → steps (opening b) (w s m) ≡ Some Operand) → Runs a
from_layer a w r is e runs = record {
  at = λ h b s m. ap (λ (f : Writing). steps (opening b) (f s m)) is ∙ runs (sym e ∙ h) b s m;
}

number_runs : (n : ℤ) → is_literal_number n ≡ true → (b m : Bool) → steps (opening b) (number n m) ≡ Some Operand
number_runs (pos n) e b false = piece (opening b) Operand (Some Operand) (Word (kind.Number n)) [] (number_step b n e) refl
number_runs (pos zero) e b true = piece (opening b) Minus (Some Operand) (signed sign.Minus) (Word (kind.Number 0) ∷ []) (minus_step b) refl
number_runs (pos (suc n)) e b true =
    bracketed_runs b (Word (kind.Number (suc n)) ∷ []) (piece Start Operand (Some Operand) (Word (kind.Number (suc n))) [] (number_step false (suc n) e) refl)
number_runs (negsuc n) e b m =
    piece (opening b) Minus (Some Operand) (signed sign.Minus) (Word (kind.Number (suc n)) ∷ []) (minus_step b)
    (piece Minus Operand (Some Operand) (Word (kind.Number (suc n))) [] (negative_step n e) refl)

-- lists

list_runs : (x : Sign) → step Operand (signed x) ≡ Some Operand → (e : (a : Expr) × Runs a) (es : List ((a : Expr) × Runs a))
    → all_true (readable e.0 ∷ map readable (map (λ e. e.0) es)) ≡ true → steps Start (closed_by x (shown e.0 ∷ map shown (map (λ e. e.0) es))) ≡ Some Operand
list_runs x close e [] h =
    through Start Operand (Some Operand) (shown e.0 Whole false) (signed x ∷ []) (e.1.at (both_true (readable e.0) true h).0 false Whole false)
    (piece Operand Operand (Some Operand) (signed x) [] close refl)
list_runs x close e (d ∷ es) h =
    let rest = separated (shown d.0 ∷ map shown (map (λ e. e.0) es)) in
    let c = both_true (readable e.0) (all_true (readable d.0 ∷ map readable (map (λ e. e.0) es))) h in
    ap (steps Start) (append_assoc (shown e.0 Whole false) (signed sign.Comma ∷ Blank ∷ rest) (signed x ∷ []))
    ∙ through Start Operand (Some Operand) (shown e.0 Whole false) (signed sign.Comma ∷ Blank ∷ (rest ++ signed x ∷ [])) (e.1.at c.0 false Whole false)
    (list_runs x close d es c.1)

all_run : (x : Sign) → step Start (signed x) ≡ Some Operand → step Operand (signed x) ≡ Some Operand → (es : List ((a : Expr) × Runs a))
    → all_true (map readable (map (λ e. e.0) es)) ≡ true → steps Start (closed_by x (map shown (map (λ e. e.0) es))) ≡ Some Operand
all_run x empty close [] h = piece Start Operand (Some Operand) (signed x) [] empty refl
all_run x empty close (e ∷ es) h = list_runs x close e es h

run_step : (y : Expr-F ((e : Expr) × Runs e)) (x : Expr-F Expr) → map-Expr ((e : Expr) × Runs e) Expr (λ e. e.0) y ≡ x → Runs (roll-Expr x)
run_step (Expr-F.Bool p v) x is = subst (λ z. Runs (roll-Expr z)) is (subst Runs (sym (rolls-Bool p v))
    (from_layer (tree.Bool p v) _ _ (fold_bool layer_shown p v) (fold_bool layer_readable p v)
    (λ h b s m. piece (opening b) Operand (Some Operand) (Word (kind.Truth v)) [] (truth_step b v) refl)))
run_step (Expr-F.Int p n) x is = subst (λ z. Runs (roll-Expr z)) is (subst Runs (sym (rolls-Int p n))
    (from_layer (tree.Int p n) _ _ (fold_int layer_shown p n) (fold_int layer_readable p n) (λ h b s m. number_runs n h b m)))
run_step (Expr-F.Str p v) x is = subst (λ z. Runs (roll-Expr z)) is (subst Runs (sym (rolls-Str p v))
    (from_layer (tree.Str p v) _ _ (fold_str layer_shown p v) (fold_str layer_readable p v)
    (λ h b s m. piece (opening b) Operand (Some Operand) (Word (kind.Str v)) [] (str_step b v) refl)))
run_step (Expr-F.Name p v) x is = subst (λ z. Runs (roll-Expr z)) is (subst Runs (sym (rolls-Name p v))
    (from_layer (tree.Name p v) _ _ (fold_name layer_shown p v) (fold_name layer_readable p v)
    (λ h b s m. piece (opening b) Operand (Some Operand) (Word (kind.Name v)) [] (name_step b v h) refl)))
run_step (Expr-F.Select p a v) x is = subst (λ z. Runs (roll-Expr z)) is (subst Runs (sym (rolls-Select p a.0 v))
    (from_layer (tree.Select p a.0 v) _ _ (fold_select layer_shown p a.0 v) (fold_select layer_readable p a.0 v)
    (λ h b s m.
    let c = both_true (readable a.0) (is_name v) h in
    placed_runs Member (λ m. shown a.0 Member m ++ (signed sign.Dot ∷ Word (kind.Name v) ∷ []))
    (λ b m. through (opening b) Operand (Some Operand) (shown a.0 Member m) (signed sign.Dot ∷ Word (kind.Name v) ∷ []) (a.1.at c.0 b Member m)
    (piece Dot Operand (Some Operand) (Word (kind.Name v)) [] (ap (λ b. only_if b Operand) c.1) refl)) b s m)))
run_step (Expr-F.Call p v es) x is = subst (λ z. Runs (roll-Expr z)) is (subst Runs (sym (rolls-Call p v (map (λ e. e.0) es)))
    (from_layer (tree.Call p v (map (λ e. e.0) es)) _ _ (fold_call layer_shown p v (map (λ e. e.0) es)) (fold_call layer_readable p v (map (λ e. e.0) es))
    (λ h b s m.
    let c = both_true (is_name v) (all_true (map readable (map (λ e. e.0) es))) h in
    piece (opening b) Operand (Some Operand) (Word (kind.Name v)) (signed sign.OpenParenthesis ∷ closed_by sign.CloseParenthesis (map shown (map (λ e. e.0) es))) (name_step b v c.0)
    (all_run sign.CloseParenthesis refl refl es c.1))))
run_step (Expr-F.Method p a v es) x is = subst (λ z. Runs (roll-Expr z)) is (subst Runs (sym (rolls-Method p a.0 v (map (λ e. e.0) es)))
    (from_layer (tree.Method p a.0 v (map (λ e. e.0) es)) _ _ (fold_method layer_shown p a.0 v (map (λ e. e.0) es)) (fold_method layer_readable p a.0 v (map (λ e. e.0) es))
    (λ h b s m.
    let c = both_true (readable a.0) (is_name v && all_true (map readable (map (λ e. e.0) es))) h in
    let d = both_true (is_name v) (all_true (map readable (map (λ e. e.0) es))) c.1 in
    placed_runs Member
    (λ m. shown a.0 Member m ++ (signed sign.Dot ∷ Word (kind.Name v) ∷ signed sign.OpenParenthesis ∷ closed_by sign.CloseParenthesis (map shown (map (λ e. e.0) es))))
    (λ b m. through (opening b) Operand (Some Operand) (shown a.0 Member m)
    (signed sign.Dot ∷ Word (kind.Name v) ∷ signed sign.OpenParenthesis ∷ closed_by sign.CloseParenthesis (map shown (map (λ e. e.0) es))) (a.1.at c.0 b Member m)
    (piece Dot Operand (Some Operand) (Word (kind.Name v)) (signed sign.OpenParenthesis ∷ closed_by sign.CloseParenthesis (map shown (map (λ e. e.0) es))) (ap (λ b. only_if b Operand) d.0)
    (all_run sign.CloseParenthesis refl refl es d.1))) b s m)))
run_step (Expr-F.Many p es) x is = subst (λ z. Runs (roll-Expr z)) is (subst Runs (sym (rolls-Many p (map (λ e. e.0) es)))
    (from_layer (tree.Many p (map (λ e. e.0) es)) _ _ (fold_many layer_shown p (map (λ e. e.0) es)) (fold_many layer_readable p (map (λ e. e.0) es))
    (λ h b s m. piece (opening b) Start (Some Operand) (signed sign.OpenBracket) (closed_by sign.CloseBracket (map shown (map (λ e. e.0) es))) (list_step b)
    (all_run sign.CloseBracket refl refl es h))))
run_step (Expr-F.Not p a) x is = subst (λ z. Runs (roll-Expr z)) is (subst Runs (sym (rolls-Not p a.0))
    (from_layer (tree.Not p a.0) _ _ (fold_not layer_shown p a.0) (fold_not layer_readable p a.0)
    (λ h b s m. placed_runs Nots (λ m. signed sign.Bang ∷ shown a.0 Nots false)
    (λ b m. piece (opening b) Start (Some Operand) (signed sign.Bang) (shown a.0 Nots false) (bang_step b) (a.1.at h false Nots false)) b s m)))
run_step (Expr-F.Neg p a) x is = subst (λ z. Runs (roll-Expr z)) is (subst Runs (sym (rolls-Neg p a.0))
    (from_layer (tree.Neg p a.0) _ _ (fold_neg layer_shown p a.0) (fold_neg layer_readable p a.0)
    (λ h b s m. placed_runs Negs (λ m. signed sign.Minus ∷ shown a.0 Negs true)
    (λ b m. piece (opening b) Minus (Some Operand) (signed sign.Minus) (shown a.0 Negs true) (minus_step b) (a.1.at h true Negs true)) b s m)))
run_step (Expr-F.Two p o l r) x is = subst (λ z. Runs (roll-Expr z)) is (subst Runs (sym (rolls-Two p o l.0 r.0))
    (from_layer (tree.Two p o l.0 r.0) _ _ (fold_two layer_shown p o l.0 r.0) (fold_two layer_readable p o l.0 r.0)
    (λ h b s m.
    let c = both_true (readable l.0) (readable r.0) h in
    placed_runs (Binary (level_of o)) (λ m. shown l.0 (Binary (level_of o)) false ++ spaced (sign_of o) (shown r.0 (operand (level_of o)) false))
    (λ b m. through (opening b) Operand (Some Operand) (shown l.0 (Binary (level_of o)) false) (spaced (sign_of o) (shown r.0 (operand (level_of o)) false)) (l.1.at c.0 b (Binary (level_of o)) false)
    (piece Gap Operator (Some Operand) (signed (sign_of o)) (Blank ∷ shown r.0 (operand (level_of o)) false) (operator_step o) (r.1.at c.1 false (operand (level_of o)) false))) b s m)))
run_step (Expr-F.Pick p q l r) x is = subst (λ z. Runs (roll-Expr z)) is (subst Runs (sym (rolls-Pick p q.0 l.0 r.0))
    (from_layer (tree.Pick p q.0 l.0 r.0) _ _ (fold_pick layer_shown p q.0 l.0 r.0) (fold_pick layer_readable p q.0 l.0 r.0)
    (λ h b s m.
    let c = both_true (readable q.0) (readable l.0 && readable r.0) h in
    let d = both_true (readable l.0) (readable r.0) c.1 in
    placed_runs Whole (λ m. shown q.0 (Binary Or) false ++ spaced sign.Question (shown l.0 (Binary Or) false ++ spaced sign.Colon (shown r.0 Whole false)))
    (λ b m. through (opening b) Operand (Some Operand) (shown q.0 (Binary Or) false) (spaced sign.Question (shown l.0 (Binary Or) false ++ spaced sign.Colon (shown r.0 Whole false))) (q.1.at c.0 b (Binary Or) false)
    (through Start Operand (Some Operand) (shown l.0 (Binary Or) false) (spaced sign.Colon (shown r.0 Whole false)) (l.1.at d.0 false (Binary Or) false)
    (r.1.at d.1 false Whole false))) b s m)))

pub runs : (a : Expr) → Runs a
runs = ind-Expr Runs (λ x y is. run_step y x is)
