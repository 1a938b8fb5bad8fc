-- How many tokens a tree is written with, and how deep its brackets are.
use Rattle.std.proofs.Common.{◌≡◌, ℕ, zero, suc, ℤ, pos, negsuc, ◌+◌, ◌≤◌, max, Bool, true, false, cond, List, [], ◌∷◌, map, refl, sym, subst, arith}
use Rattle.cel_tree.specs.declared.tree.Expr.{Expr, fold-Expr, roll-Expr, ind-Expr, map-Expr}
use Rattle.cel_tree.specs.declared.tree.Expr.TheOpen.{Expr-F}
use Rattle.cel_tree.specs.declared.tree.Expr.TheVariants as tree
use Rattle.cel_tree.specs.declared.tree.Expr.TheVariants.{rolls-Bool, rolls-Int, rolls-Str, rolls-Name, rolls-Select, rolls-Call, rolls-Method, rolls-Many, rolls-Not, rolls-Neg, rolls-Two, rolls-Pick}
use Rattle.cel_grammar.specs.declared.level.Level.{Level}
use Rattle.cel_grammar.specs.declared.level.Level.TheVariants.{Or, And, Rel, Add, Mul}
use Rattle.cel_grammar.specs.declared.level.Sort.{Sort}
use Rattle.cel_grammar.specs.declared.level.Sort.TheVariants.{Whole, Binary, Unary, Nots, Negs, Member, Primary}
use Rattle.cel_grammar.specs.Grammar.{operand}
use Rattle.cel_shown.specs.Shown.{within, level_of}
use Rattle.cel_shown.proofs.Layers.{fold_bool, fold_int, fold_str, fold_name, fold_select, fold_call, fold_method, fold_many, fold_not, fold_neg, fold_two, fold_pick}
use Rattle.cel_shown.proofs.Fit.{level_in_whole}

pub record Cost : Type 0 where
  pub tokens : ℕ
  pub height : ℕ

abbrev pub beside : Cost → Cost → Cost
beside c d = record { tokens = c.tokens + d.tokens; height = max c.height d.height }

-- so many tokens more
abbrev pub plus : ℕ → Cost → Cost
plus n c = record { tokens = c.tokens + n; height = c.height }

abbrev pub in_brackets : Cost → Cost
in_brackets c = record { tokens = c.tokens + 2; height = c.height + 1 }

abbrev pub flat : ℕ → Cost
flat n = record { tokens = n; height = 0 }

abbrev pub Costing : Type 0
Costing = Sort → Bool → Cost

abbrev pub placed_cost : Sort → (Bool → Cost) → Costing
placed_cost own f s m = cond (within own s) (f m) (in_brackets (f false))

abbrev pub number_cost : ℤ → Bool → Cost
number_cost (pos n) false = flat 1
number_cost (pos zero) true = flat 2
number_cost (pos (suc n)) true = in_brackets (flat 1)
number_cost (negsuc n) m = flat 2

abbrev pub separated_cost : List Costing → Cost
separated_cost [] = flat 0
separated_cost (a ∷ []) = a Whole false
separated_cost (a ∷ b ∷ es) = beside (a Whole false) (plus 1 (separated_cost (b ∷ es)))

abbrev pub layer_cost : Expr-F Costing → Costing
layer_cost (Expr-F.Bool span truth) = λ s m. flat 1
layer_cost (Expr-F.Int span n) = λ s m. number_cost n m
layer_cost (Expr-F.Str span text) = λ s m. flat 1
layer_cost (Expr-F.Name span name) = λ s m. flat 1
layer_cost (Expr-F.Select span a field) = placed_cost Member (λ m. plus 2 (a Member m))
layer_cost (Expr-F.Call span name es) = λ s m. plus 1 (in_brackets (separated_cost es))
layer_cost (Expr-F.Method span a name es) = placed_cost Member (λ m. beside (plus 2 (a Member m)) (in_brackets (separated_cost es)))
layer_cost (Expr-F.Many span es) = λ s m. in_brackets (separated_cost es)
layer_cost (Expr-F.Not span a) = placed_cost Nots (λ m. plus 1 (a Nots false))
layer_cost (Expr-F.Neg span a) = placed_cost Negs (λ m. plus 1 (a Negs true))
layer_cost (Expr-F.Two span o a b) =
    placed_cost (Binary (level_of o)) (λ m. beside (plus 1 (a (Binary (level_of o)) false)) (b (operand (level_of o)) false))
layer_cost (Expr-F.Pick span c a b) =
    placed_cost Whole (λ m. beside (plus 1 (c (Binary Or) false)) (beside (plus 1 (a (Binary Or) false)) (b Whole false)))

abbrev pub cost : Expr → Costing
cost = fold-Expr Costing layer_cost

-- no more than the other
pub record NoMore (c d : Cost) : Type 0 where
  pub tokens : c.tokens ≤ d.tokens
  pub height : c.height ≤ d.height

pub same_cost : (c : Cost) → NoMore c c
same_cost c = record { tokens = omega arith; height = omega arith }

pub below_brackets : (c : Cost) → NoMore c (in_brackets c)
below_brackets c = record { tokens = omega arith; height = omega arith }

-- what is within the first sort is within the second
pub record Wider (s s' : Sort) : Type 0 where
  pub at : (own : Sort) → within own s ≡ true → within own s' ≡ true

-- Brackets round the whole are enough anywhere, and a wider place needs no more.
pub record Snug (w : Costing) : Type 0 where
  pub behind : (s : Sort) (m : Bool) → NoMore (w s m) (in_brackets (w s false))
  pub inside : (s : Sort) (m : Bool) → NoMore (w s m) (in_brackets (w Whole false))
  pub wider : (s s' : Sort) → Wider s s' → (m : Bool) → NoMore (w s' m) (w s m)

placed_snug : (own : Sort) (f : Bool → Cost) → within own Whole ≡ true → ((m : Bool) → NoMore (f m) (in_brackets (f false))) → Snug (placed_cost own f)
placed_snug own f whole enough = record {
  behind = λ s m. behind (within own s) m;
  inside = λ s m. subst (λ b. NoMore (placed_cost own f s m) (in_brackets (cond b (f false) (in_brackets (f false))))) (sym whole) (inner (within own s) m);
  wider = λ s s' w m. go (within own s) (within own s') (λ e. w.at own e) m;
}
  where
    behind : (b : Bool) (m : Bool) → NoMore (cond b (f m) (in_brackets (f false))) (in_brackets (cond b (f false) (in_brackets (f false))))
    behind true m = enough m
    behind false m = below_brackets (in_brackets (f false))

    inner : (b : Bool) (m : Bool) → NoMore (cond b (f m) (in_brackets (f false))) (in_brackets (f false))
    inner true m = enough m
    inner false m = same_cost (in_brackets (f false))

    go : (b c : Bool) → (b ≡ true → c ≡ true) → (m : Bool) → NoMore (cond c (f m) (in_brackets (f false))) (cond b (f m) (in_brackets (f false)))
    go true true h m = same_cost (f m)
    go true false h m = let e : false ≡ true = h refl in absurd (apart e)
      where
        apart : false ≡ true → ⊥
        apart e = cc
    go false true h m = enough m
    go false false h m = same_cost (in_brackets (f false))

flat_snug : (f : Bool → Cost) → ((m : Bool) → NoMore (f m) (in_brackets (f false))) → Snug (λ s m. f m)
flat_snug f enough = record { behind = λ s m. enough m; inside = λ s m. enough m; wider = λ s s' w m. same_cost (f m) }

number_enough : (n : ℤ) (m : Bool) → NoMore (number_cost n m) (in_brackets (number_cost n false))
number_enough (pos n) false = below_brackets (flat 1)
number_enough (pos zero) true = record { tokens = omega arith; height = omega arith }
number_enough (pos (suc n)) true = same_cost (in_brackets (flat 1))
number_enough (negsuc n) m = below_brackets (flat 2)

plus_enough : (n : ℕ) (c d : Cost) → NoMore c (in_brackets d) → NoMore (plus n c) (in_brackets (plus n d))
plus_enough n c d e = record { tokens = omega (arith, e.tokens); height = e.height }

beside_enough : (c d x : Cost) → NoMore c (in_brackets d) → NoMore (beside c x) (in_brackets (beside d x))
beside_enough c d x e = record { tokens = omega (arith, e.tokens); height = omega (arith, e.height) }

pub record Costs (a : Expr) : Type 0 where
  pub snug : Snug (cost a)

from_layer : (a : Expr) (w : Costing) → cost a ≡ w → Snug w → Costs a
from_layer a w is s = record { snug = subst Snug (sym is) s }

costs_step : (y : Expr-F ((e : Expr) × Costs e)) (x : Expr-F Expr) → map-Expr ((e : Expr) × Costs e) Expr (λ e. e.0) y ≡ x → Costs (roll-Expr x)
costs_step (Expr-F.Bool p v) x is = subst (λ z. Costs (roll-Expr z)) is (subst Costs (sym (rolls-Bool p v)) (from_layer (tree.Bool p v) _ (fold_bool layer_cost p v) (flat_snug (λ m. flat 1) (λ m. below_brackets (flat 1)))))
costs_step (Expr-F.Int p n) x is = subst (λ z. Costs (roll-Expr z)) is (subst Costs (sym (rolls-Int p n)) (from_layer (tree.Int p n) _ (fold_int layer_cost p n) (flat_snug (number_cost n) (number_enough n))))
costs_step (Expr-F.Str p v) x is = subst (λ z. Costs (roll-Expr z)) is (subst Costs (sym (rolls-Str p v)) (from_layer (tree.Str p v) _ (fold_str layer_cost p v) (flat_snug (λ m. flat 1) (λ m. below_brackets (flat 1)))))
costs_step (Expr-F.Name p v) x is = subst (λ z. Costs (roll-Expr z)) is (subst Costs (sym (rolls-Name p v)) (from_layer (tree.Name p v) _ (fold_name layer_cost p v) (flat_snug (λ m. flat 1) (λ m. below_brackets (flat 1)))))
costs_step (Expr-F.Select p a v) x is = subst (λ z. Costs (roll-Expr z)) is (subst Costs (sym (rolls-Select p a.0 v))
    (from_layer (tree.Select p a.0 v) _ (fold_select layer_cost p a.0 v)
    (placed_snug Member (λ m. plus 2 (cost a.0 Member m)) refl (λ m. plus_enough 2 (cost a.0 Member m) (cost a.0 Member false) (a.1.snug.behind Member m)))))
costs_step (Expr-F.Call p v es) x is = subst (λ z. Costs (roll-Expr z)) is (subst Costs (sym (rolls-Call p v (map (λ e. e.0) es)))
    (from_layer (tree.Call p v (map (λ e. e.0) es)) _ (fold_call layer_cost p v (map (λ e. e.0) es))
    (flat_snug (λ m. plus 1 (in_brackets (separated_cost (map cost (map (λ e. e.0) es))))) (λ m. below_brackets (plus 1 (in_brackets (separated_cost (map cost (map (λ e. e.0) es)))))))))
costs_step (Expr-F.Method p a v es) x is = subst (λ z. Costs (roll-Expr z)) is (subst Costs (sym (rolls-Method p a.0 v (map (λ e. e.0) es)))
    (from_layer (tree.Method p a.0 v (map (λ e. e.0) es)) _ (fold_method layer_cost p a.0 v (map (λ e. e.0) es))
    (placed_snug Member (λ m. beside (plus 2 (cost a.0 Member m)) (in_brackets (separated_cost (map cost (map (λ e. e.0) es))))) refl
    (λ m. beside_enough (plus 2 (cost a.0 Member m)) (plus 2 (cost a.0 Member false)) (in_brackets (separated_cost (map cost (map (λ e. e.0) es))))
    (plus_enough 2 (cost a.0 Member m) (cost a.0 Member false) (a.1.snug.behind Member m))))))
costs_step (Expr-F.Many p es) x is = subst (λ z. Costs (roll-Expr z)) is (subst Costs (sym (rolls-Many p (map (λ e. e.0) es)))
    (from_layer (tree.Many p (map (λ e. e.0) es)) _ (fold_many layer_cost p (map (λ e. e.0) es))
    (flat_snug (λ m. in_brackets (separated_cost (map cost (map (λ e. e.0) es)))) (λ m. below_brackets (in_brackets (separated_cost (map cost (map (λ e. e.0) es))))))))
costs_step (Expr-F.Not p a) x is = subst (λ z. Costs (roll-Expr z)) is (subst Costs (sym (rolls-Not p a.0))
    (from_layer (tree.Not p a.0) _ (fold_not layer_cost p a.0) (placed_snug Nots (λ m. plus 1 (cost a.0 Nots false)) refl (λ m. below_brackets (plus 1 (cost a.0 Nots false))))))
costs_step (Expr-F.Neg p a) x is = subst (λ z. Costs (roll-Expr z)) is (subst Costs (sym (rolls-Neg p a.0))
    (from_layer (tree.Neg p a.0) _ (fold_neg layer_cost p a.0) (placed_snug Negs (λ m. plus 1 (cost a.0 Negs true)) refl (λ m. below_brackets (plus 1 (cost a.0 Negs true))))))
costs_step (Expr-F.Two p o a b) x is = subst (λ z. Costs (roll-Expr z)) is (subst Costs (sym (rolls-Two p o a.0 b.0))
    (from_layer (tree.Two p o a.0 b.0) _ (fold_two layer_cost p o a.0 b.0)
    (placed_snug (Binary (level_of o)) (λ m. beside (plus 1 (cost a.0 (Binary (level_of o)) false)) (cost b.0 (operand (level_of o)) false)) (level_in_whole (level_of o))
    (λ m. below_brackets (beside (plus 1 (cost a.0 (Binary (level_of o)) false)) (cost b.0 (operand (level_of o)) false))))))
costs_step (Expr-F.Pick p c a b) x is = subst (λ z. Costs (roll-Expr z)) is (subst Costs (sym (rolls-Pick p c.0 a.0 b.0))
    (from_layer (tree.Pick p c.0 a.0 b.0) _ (fold_pick layer_cost p c.0 a.0 b.0)
    (placed_snug Whole (λ m. beside (plus 1 (cost c.0 (Binary Or) false)) (beside (plus 1 (cost a.0 (Binary Or) false)) (cost b.0 Whole false))) refl
    (λ m. below_brackets (beside (plus 1 (cost c.0 (Binary Or) false)) (beside (plus 1 (cost a.0 (Binary Or) false)) (cost b.0 Whole false)))))))

pub costs : (a : Expr) → Costs a
costs = ind-Expr Costs (λ x y is. costs_step y x is)

-- the steps of the grammar lead to wider sorts

pub whole_is_wider : Wider (Binary Or) Whole
whole_is_wider = record { at = at }
  where
    at : (own : Sort) → within own (Binary Or) ≡ true → within own Whole ≡ true
    at Whole e = cc
    at (Binary Or) e = refl
    at (Binary And) e = refl
    at (Binary Rel) e = refl
    at (Binary Add) e = refl
    at (Binary Mul) e = refl
    at Unary e = refl
    at Nots e = refl
    at Negs e = refl
    at Member e = refl
    at Primary e = refl

pub level_is_wider : (l : Level) → Wider (operand l) (Binary l)
level_is_wider l = record { at = at l }
  where
    at : (l : Level) (own : Sort) → within own (operand l) ≡ true → within own (Binary l) ≡ true
    at Or Whole e = cc
    at And Whole e = cc
    at Rel Whole e = cc
    at Add Whole e = cc
    at Mul Whole e = cc
    at Or (Binary Or) e = cc
    at And (Binary Or) e = cc
    at Rel (Binary Or) e = cc
    at Add (Binary Or) e = cc
    at Mul (Binary Or) e = cc
    at Or (Binary And) e = refl
    at And (Binary And) e = cc
    at Rel (Binary And) e = cc
    at Add (Binary And) e = cc
    at Mul (Binary And) e = cc
    at Or (Binary Rel) e = refl
    at And (Binary Rel) e = refl
    at Rel (Binary Rel) e = cc
    at Add (Binary Rel) e = cc
    at Mul (Binary Rel) e = cc
    at Or (Binary Add) e = refl
    at And (Binary Add) e = refl
    at Rel (Binary Add) e = refl
    at Add (Binary Add) e = cc
    at Mul (Binary Add) e = cc
    at Or (Binary Mul) e = refl
    at And (Binary Mul) e = refl
    at Rel (Binary Mul) e = refl
    at Add (Binary Mul) e = refl
    at Mul (Binary Mul) e = cc
    at Or _ e = refl
    at And _ e = refl
    at Rel _ e = refl
    at Add _ e = refl
    at Mul _ e = refl

pub nots_are_wider : Wider Member Nots
nots_are_wider = record { at = at }
  where
    at : (own : Sort) → within own Member ≡ true → within own Nots ≡ true
    at Member e = refl
    at Primary e = refl
    at Nots e = cc
    at Negs e = cc
    at Unary e = cc
    at Whole e = cc
    at (Binary Or) e = cc
    at (Binary And) e = cc
    at (Binary Rel) e = cc
    at (Binary Add) e = cc
    at (Binary Mul) e = cc

pub negs_are_wider : Wider Member Negs
negs_are_wider = record { at = at }
  where
    at : (own : Sort) → within own Member ≡ true → within own Negs ≡ true
    at Member e = refl
    at Primary e = refl
    at Nots e = cc
    at Negs e = cc
    at Unary e = cc
    at Whole e = cc
    at (Binary Or) e = cc
    at (Binary And) e = cc
    at (Binary Rel) e = cc
    at (Binary Add) e = cc
    at (Binary Mul) e = cc

pub unary_is_wider : Wider Nots Unary
unary_is_wider = record { at = at }
  where
    at : (own : Sort) → within own Nots ≡ true → within own Unary ≡ true
    at Member e = refl
    at Primary e = refl
    at Nots e = refl
    at Negs e = cc
    at Unary e = cc
    at Whole e = cc
    at (Binary Or) e = cc
    at (Binary And) e = cc
    at (Binary Rel) e = cc
    at (Binary Add) e = cc
    at (Binary Mul) e = cc

pub member_is_wider : Wider Primary Member
member_is_wider = record { at = at }
  where
    at : (own : Sort) → within own Primary ≡ true → within own Member ≡ true
    at Primary e = refl
    at Member e = cc
    at Nots e = cc
    at Negs e = cc
    at Unary e = cc
    at Whole e = cc
    at (Binary Or) e = cc
    at (Binary And) e = cc
    at (Binary Rel) e = cc
    at (Binary Add) e = cc
    at (Binary Mul) e = cc
