-- As many steps as a tree has nodes are enough: more give the same.
use Rattle.std.proofs.Common.{◌≡◌, ℕ, suc, zero, ◌≤◌, List, [], ◌∷◌, map, refl, ap, ◌∙◌, arith}
use Rattle.std.specs.List.{All}
use Rattle.std.proofs.lemmas.List.Elements.{All-cons, All-head, All-nil, All-tail, All-weaker}
use Rattle.cel_tree.specs.Tree.{size}
use Rattle.cel_tree.specs.declared.tree.Expr.{Expr, out-Expr}
use Rattle.cel_tree.specs.declared.tree.Expr.TheOpen.{Expr-F}
use Rattle.cel_value.specs.declared.value.Outcome.{Outcome}
use Rattle.cel_types.specs.Heads.{head_of}
use Rattle.cel_types.specs.HasKind.{children, parts}
use Rattle.cel_types.specs.Setting.{Setting}
use Rattle.cel_types.proofs.Smaller.{one_at_least, smaller}
use Rattle.cel_meaning.specs.Apply.{choice}
use Rattle.cel_meaning.specs.OutcomeOf.{all_values, headed, node_outcome, outcome_of, outcome_within, strict_outcome, two_outcome}

-- two functions agree on some trees
abbrev Agree : (Expr → Outcome) → (Expr → Outcome) → Expr → Type 0
Agree f g e = f e ≡ g e

mapped : (f g : Expr → Outcome) (es : List Expr) → All (Agree f g) es → map f es ≡ map g es
mapped f g [] all = refl
mapped f g (e ∷ es) all =
    ap (λ z. z ∷ map f es) (All-head (Agree f g) e es all) ∙ ap (λ z. g e ∷ z) (mapped f g es (All-tail (Agree f g) e es all))

strict_same : (s : Setting) (f g : Expr → Outcome) (x : Expr-F Expr) → All (Agree f g) (parts x) → strict_outcome s f x ≡ strict_outcome s g x
strict_same s f g x all = ap (λ z. headed s (head_of x) (all_values z)) (mapped f g (parts x) all)

one_same : (h : Outcome → Outcome) (f g : Expr → Outcome) (a : Expr) → All (Agree f g) (a ∷ []) → h (f a) ≡ h (g a)
one_same h f g a all = ap h (All-head (Agree f g) a [] all)

two_same : (h : Outcome → Outcome → Outcome) (f g : Expr → Outcome) (a b : Expr) → All (Agree f g) (a ∷ b ∷ []) → h (f a) (f b) ≡ h (g a) (g b)
two_same h f g a b all =
    ap (λ z. h z (f b)) (All-head (Agree f g) a (b ∷ []) all) ∙ one_same (λ z. h (g a) z) f g b (All-tail (Agree f g) a (b ∷ []) all)

node_same : (s : Setting) (f g : Expr → Outcome) (x : Expr-F Expr) → All (Agree f g) (parts x) → node_outcome s f x ≡ node_outcome s g x
node_same s f g (Expr-F.Bool span b) all = refl
node_same s f g (Expr-F.Int span n) all = refl
node_same s f g (Expr-F.Str span text) all = refl
node_same s f g (Expr-F.Name span name) all = refl
node_same s f g (Expr-F.Select span base field) all = refl
node_same s f g (Expr-F.Call span name arguments) all = strict_same s f g (Expr-F.Call span name arguments) all
node_same s f g (Expr-F.Method span base name arguments) all = strict_same s f g (Expr-F.Method span base name arguments) all
node_same s f g (Expr-F.Many span items) all = strict_same s f g (Expr-F.Many span items) all
node_same s f g (Expr-F.Not span a) all = strict_same s f g (Expr-F.Not span a) all
node_same s f g (Expr-F.Neg span a) all = strict_same s f g (Expr-F.Neg span a) all
node_same s f g (Expr-F.Two span op a b) all = two_same (two_outcome s op) f g a b all
node_same s f g (Expr-F.Pick span d a b) all =
    ap (λ z. choice z (f a) (f b)) (All-head (Agree f g) d (a ∷ b ∷ []) all)
    ∙ two_same (choice (g d)) f g a b (All-tail (Agree f g) d (a ∷ b ∷ []) all)

-- trees that have no more nodes than either number of steps
joined : (f g : Expr → Outcome) (m n : ℕ) → ((c : Expr) → size c ≤ m → size c ≤ n → f c ≡ g c) → (es : List Expr) → All (λ c. size c ≤ m) es → All (λ c. size c ≤ n) es
    → All (Agree f g) es
joined f g m n same [] h i = All-nil (Agree f g)
joined f g m n same (c ∷ cs) h i =
    All-cons (Agree f g) c cs (same c (All-head (λ (c : Expr). size c ≤ m) c cs h) (All-head (λ (c : Expr). size c ≤ n) c cs i))
    (joined f g m n same cs (All-tail (λ (c : Expr). size c ≤ m) c cs h) (All-tail (λ (c : Expr). size c ≤ n) c cs i))

-- enough steps give the same
enough : (s : Setting) (m n : ℕ) (e : Expr) → size e ≤ m → size e ≤ n → outcome_within m s e ≡ outcome_within n s e
unfolding outcome_within
enough s zero n e h i = absurd (one_at_least e h)
enough s (suc m) zero e h i = absurd (one_at_least e i)
enough s (suc m) (suc n) e h i =
    node_same s (outcome_within m s) (outcome_within n s) (out-Expr e)
    (joined (outcome_within m s) (outcome_within n s) m n (enough s m n) (children e) (smaller m e h) (smaller n e i))

step_at : (s : Setting) (e : Expr) (n : ℕ) → size e ≡ n → outcome_of s e ≡ node_outcome s (outcome_of s) (out-Expr e)
unfolding outcome_of outcome_within
step_at s e zero is = absurd (one_at_least e (omega (arith, is)))
step_at s e (suc n) is =
    ap (λ z. outcome_within z s e) is
    ∙ node_same s (outcome_within n s) (outcome_of s) (out-Expr e)
    (All-weaker (λ (c : Expr). size c ≤ n) (Agree (outcome_within n s) (outcome_of s)) (λ c h. enough s n (size c) c h (omega arith)) (children e)
    (smaller n e (omega (arith, is))))

-- a tree comes to what its node makes of what its parts come to
pub outcome_step : (s : Setting) (e : Expr) → outcome_of s e ≡ node_outcome s (outcome_of s) (out-Expr e)
outcome_step s e = step_at s e (size e) refl
