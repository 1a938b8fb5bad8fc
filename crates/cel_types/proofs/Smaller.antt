-- The parts of a node have fewer nodes.
use Rattle.std.proofs.Common.{◌≡◌, ℕ, suc, zero, ◌+◌, ◌≤◌, Bool, true, false, List, [], ◌∷◌, map, subst, arith, sum}
use Rattle.std.specs.List.{All}
use Rattle.std.specs.Prelude.{cond, is_some}
use Rattle.std.proofs.lemmas.List.Elements.{All-cons, All-nil}
use Rattle.std.proofs.lemmas.List.Sums.{sum_by-cons}
use Rattle.cel_tree.specs.Tree.{layer_size, size}
use Rattle.cel_tree.specs.declared.tree.Expr.{Expr, fold_out-Expr, map-Expr, out-Expr}
use Rattle.cel_tree.specs.declared.tree.Expr.TheOpen.{Expr-F}
use Rattle.cel_types.specs.Forms.{attribute_of, is_whole}
use Rattle.cel_types.specs.HasKind.{children, parts}

within_sum : (n : ℕ) (es : List Expr) → sum (map size es) ≤ n → All (λ e. size e ≤ n) es
within_sum n [] h = All-nil (λ (e : Expr). size e ≤ n)
within_sum n (e ∷ es) h =
    let whole : sum (map size (e ∷ es)) ≡ size e + sum (map size es) = sum_by-cons (λ x. x) (size e) (map size es) in
    All-cons (λ (e : Expr). size e ≤ n) e es (omega (arith, h, whole)) (within_sum n es (omega (arith, h, whole)))

unless : (b : Bool) (P : Expr → Type 0) (es : List Expr) → All P es → All P (cond b [] es)
unless true P es all = All-nil P
unless false P es all = all

below : (n : ℕ) (x : Expr-F Expr) → layer_size (map-Expr Expr ℕ size x) ≤ suc n → All (λ e. size e ≤ n) (parts x)
below n (Expr-F.Bool span truth) h = All-nil (λ (e : Expr). size e ≤ n)
below n (Expr-F.Int span number) h = All-nil (λ (e : Expr). size e ≤ n)
below n (Expr-F.Str span text) h = All-nil (λ (e : Expr). size e ≤ n)
below n (Expr-F.Name span name) h = All-nil (λ (e : Expr). size e ≤ n)
below n (Expr-F.Select span base field) h =
    unless (is_some (attribute_of (out-Expr base) field)) (λ (e : Expr). size e ≤ n) (base ∷ []) (within_sum n (base ∷ []) (omega (arith, h)))
below n (Expr-F.Call span name arguments) h = within_sum n arguments (omega (arith, h))
below n (Expr-F.Method span base name arguments) h =
    unless (is_whole (out-Expr base) name) (λ (e : Expr). size e ≤ n) (base ∷ arguments)
    (All-cons (λ (e : Expr). size e ≤ n) base arguments (omega (arith, h)) (within_sum n arguments (omega (arith, h))))
below n (Expr-F.Many span items) h = within_sum n items (omega (arith, h))
below n (Expr-F.Not span operand) h = within_sum n (operand ∷ []) (omega (arith, h))
below n (Expr-F.Neg span operand) h = within_sum n (operand ∷ []) (omega (arith, h))
below n (Expr-F.Two span op left right) h = within_sum n (left ∷ right ∷ []) (omega (arith, h))
below n (Expr-F.Pick span condition picked other) h = within_sum n (condition ∷ picked ∷ other ∷ []) (omega (arith, h))

pub smaller : (n : ℕ) (e : Expr) → size e ≤ suc n → All (λ c. size c ≤ n) (children e)
smaller n e h = below n (out-Expr e) (subst (λ m. m ≤ suc n) (fold_out-Expr ℕ layer_size e) h)

-- a tree has a node
pub one_at_least : (e : Expr) → size e ≤ zero → ⊥
one_at_least e h = none (out-Expr e) (subst (λ m. m ≤ zero) (fold_out-Expr ℕ layer_size e) h)
  where
    none : (x : Expr-F Expr) → layer_size (map-Expr Expr ℕ size x) ≤ zero → ⊥
    none (Expr-F.Bool span truth) h = omega (arith, h)
    none (Expr-F.Int span number) h = omega (arith, h)
    none (Expr-F.Str span text) h = omega (arith, h)
    none (Expr-F.Name span name) h = omega (arith, h)
    none (Expr-F.Select span base field) h = omega (arith, h)
    none (Expr-F.Call span name arguments) h = omega (arith, h)
    none (Expr-F.Method span base name arguments) h = omega (arith, h)
    none (Expr-F.Many span items) h = omega (arith, h)
    none (Expr-F.Not span operand) h = omega (arith, h)
    none (Expr-F.Neg span operand) h = omega (arith, h)
    none (Expr-F.Two span op left right) h = omega (arith, h)
    none (Expr-F.Pick span condition picked other) h = omega (arith, h)
