-- What an expression comes to, as a total function.
use Rattle.std.specs.Prelude.{ℕ, suc, zero, Option, Some, None, List, [], ◌∷◌, map, Result, Ok, Err}
use Rattle.cel_tree.specs.Tree.{size}
use Rattle.cel_tree.specs.declared.tree.Expr.{Expr, out-Expr}
use Rattle.cel_tree.specs.declared.tree.Expr.TheOpen.{Expr-F}
use Rattle.cel_tree.specs.declared.tree.Op.{Op}
use Rattle.cel_tree.specs.declared.tree.Op.TheVariants as op
use Rattle.cel_value.specs.declared.value.EvalFault.{EvalFault}
use Rattle.cel_value.specs.declared.value.Outcome.{Outcome}
use Rattle.cel_value.specs.declared.value.Outcome.TheVariants.{Given, Stopped}
use Rattle.cel_value.specs.declared.value.Value.{Value}
use Rattle.cel_types.specs.Heads as head
use Rattle.cel_types.specs.Heads.{Head, head_of}
use Rattle.cel_types.specs.HasKind.{parts}
use Rattle.cel_types.specs.Means.{conjunction, disjunction}
use Rattle.cel_types.specs.Setting.{Setting}
use Rattle.cel_meaning.specs.Apply.{apply, choice, no_outcome}

abbrev pub with_first : Value → Result (List Value) EvalFault → Result (List Value) EvalFault
with_first v (Ok vs) = Ok (v ∷ vs)
with_first v (Err fault) = Err fault

-- the values of all, or the first fault
abbrev pub all_values : List Outcome → Result (List Value) EvalFault
all_values [] = Ok []
all_values (Stopped fault ∷ others) = Err fault
all_values (Given v ∷ others) = with_first v (all_values others)

-- a node of a head, from the values of its parts or the first fault of one; no tree that has a kind lacks a head
abbrev pub headed : Setting → Option Head → Result (List Value) EvalFault → Outcome
headed s h (Err fault) = Stopped fault
headed s None (Ok vs) = no_outcome
headed s (Some h) (Ok vs) = apply s h vs

-- a node all of whose parts are evaluated
abbrev pub strict_outcome : Setting → (Expr → Outcome) → Expr-F Expr → Outcome
strict_outcome s below e = headed s (head_of e) (all_values (map below (parts e)))

abbrev pub two_outcome : Setting → Op → Outcome → Outcome → Outcome
two_outcome s op.And x y = conjunction x y
two_outcome s op.Or x y = disjunction x y
two_outcome s o x y = headed s (Some (head.two o)) (all_values (x ∷ y ∷ []))

-- a node, from what the nodes below it come to
abbrev pub node_outcome : Setting → (Expr → Outcome) → Expr-F Expr → Outcome
node_outcome s below (Expr-F.Bool span b) = strict_outcome s below (Expr-F.Bool span b)
node_outcome s below (Expr-F.Int span n) = strict_outcome s below (Expr-F.Int span n)
node_outcome s below (Expr-F.Str span text) = strict_outcome s below (Expr-F.Str span text)
node_outcome s below (Expr-F.Name span name) = strict_outcome s below (Expr-F.Name span name)
node_outcome s below (Expr-F.Select span base field) = headed s (head_of (Expr-F.Select span base field)) (Ok [])
node_outcome s below (Expr-F.Call span name arguments) = strict_outcome s below (Expr-F.Call span name arguments)
node_outcome s below (Expr-F.Method span base name arguments) = strict_outcome s below (Expr-F.Method span base name arguments)
node_outcome s below (Expr-F.Many span items) = strict_outcome s below (Expr-F.Many span items)
node_outcome s below (Expr-F.Not span a) = strict_outcome s below (Expr-F.Not span a)
node_outcome s below (Expr-F.Neg span a) = strict_outcome s below (Expr-F.Neg span a)
node_outcome s below (Expr-F.Two span o a b) = two_outcome s o (below a) (below b)
node_outcome s below (Expr-F.Pick span d a b) = choice (below d) (below a) (below b)

-- within so many steps down, which are enough for a tree of no more nodes
unfoldable pub outcome_within : ℕ → Setting → Expr → Outcome
outcome_within zero s e = no_outcome
outcome_within (suc n) s e = node_outcome s (outcome_within n s) (out-Expr e)

unfoldable pub outcome_of : Setting → Expr → Outcome
outcome_of s e = outcome_within (size e) s e
