-- Rows of nodes with a new one, in a place of its own.
use Rattle.std.proofs.Common.{◌≡◌, ◌+◌, ◌<◌, Bool, true, false, ◌||◌, cond, List, [], ◌∷◌, filter, length, Some, refl, sym, ap, ◌∙◌, arith}
use Rattle.std.specs.List.{All, list_any}
use Rattle.std.specs.Ordering.{is_eq, match_ordering}
use Rattle.std.specs.declared.cmp.Ordering.TheVariants.{Less, Equal, Greater}
use Rattle.std.specs.declared.option.Option.{Option}
use Rattle.std.proofs.lemmas.Bool.{both_ways, false_from_ne_true}
use Rattle.std.proofs.lemmas.List.Elements.{All-head, All-tail}
use Rattle.std.proofs.lemmas.Map.Text.{is_eq-slice_cmp}
use Rattle.iam_text.specs.Put.{put}
use Rattle.iam_text.proofs.InOrder.{All-put}
use Rattle.iam_names.specs.Node.{IsNodeId, node_id_text}
use Rattle.iam_names.proofs.Told.{node_id_told}
use Rattle.iam_names.specs.declared.node.NodeId.{NodeId}
use Rattle.iam_types.specs.declared.node.Node.{Node}
use Rattle.iam_model.specs.Creation.{added}
use Rattle.iam_model.specs.Formed.{IsNodeFact}
use Rattle.iam_model.specs.Nodes.{node_at}
use Rattle.iam_model.specs.Part.{order_in}
use Rattle.iam_model.specs.Parts.{node_part}
use Rattle.iam_model.specs.Same.{same_node}
use Rattle.iam_model.proofs.Finding.{All-both}
use Rattle.iam_model.proofs.Placing.{put_apart}
use Rattle.iam_model.proofs.Sameness.{places_differ, same_bytes, same_node-from, same_node-true}

-- no row has the node's place
abbrev pub IsFree : Node → List Node → Type 0
IsFree node nodes = All (λ other. is_eq (order_in node_part node other) ≡ false) nodes

-- numbers below the node's leave its place free
pub free_place : (node : Node) (nodes : List Node) → IsNodeId node.id → All IsNodeFact nodes → All (λ row. row.id.number < node.id.number) nodes → IsFree node nodes
free_place node nodes formed rows below =
    All-both IsNodeFact (λ (row : Node). row.id.number < node.id.number) (λ (row : Node). is_eq (order_in node_part node row) ≡ false) differs nodes rows below
  where
    differs : (row : Node) → IsNodeFact row → row.id.number < node.id.number → is_eq (order_in node_part node row) ≡ false
    differs row is less = false_from_ne_true (is_eq (order_in node_part node row)) (λ tied.
        let texts : node_id_text node.id ≡ node_id_text row.id = same_bytes (node_id_text node.id) (node_id_text row.id) (sym (is_eq-slice_cmp (node_id_text node.id) (node_id_text row.id)) ∙ tied) in
        let same : node.id ≡ row.id = node_id_told node.id row.id formed is.id texts in
        let numbers : node.id.number ≡ row.id.number = ap (λ (n : NodeId). n.number) same in
        absurd (omega (arith, less, numbers)))

pub All-added : (P : Node → Type 0) (node : Node) (nodes : List Node) → P node → All P nodes → All P (added node nodes)
unfolding added
All-added P node nodes holds all = All-put P (order_in node_part) node nodes holds all

pub length_added : (node : Node) (nodes : List Node) → IsFree node nodes → length (added node nodes) ≡ length nodes + 1
unfolding added
length_added node nodes free = put_apart (order_in node_part) node nodes free

-- ---- any of them

either_way : (a b c : Bool) → (a || (b || c)) ≡ (b || (a || c))
either_way true true c = refl
either_way true false c = refl
either_way false true c = refl
either_way false false c = refl

any_put : (p : Node → Bool) (node : Node) (nodes : List Node) → IsFree node nodes → list_any p (put (order_in node_part) node nodes) ≡ (p node || list_any p nodes)
any_put p node [] free = refl
any_put p node (other ∷ nodes) free =
    elim (order_in node_part node other) as (λ o. order_in node_part node other ≡ o → list_any p (match_ordering o (node ∷ other ∷ nodes) (node ∷ nodes) (other ∷ put (order_in node_part) node nodes)) ≡ (p node || (p other || list_any p nodes))) [
      | Less ↦ λ is. refl
      | Equal ↦ λ is. absurd (both_ways (is_eq (order_in node_part node other)) (All-head (λ (row : Node). is_eq (order_in node_part node row) ≡ false) other nodes free) (ap is_eq is))
      | Greater ↦ λ is.
          let rest : list_any p (put (order_in node_part) node nodes) ≡ (p node || list_any p nodes) = any_put p node nodes (All-tail (λ (row : Node). is_eq (order_in node_part node row) ≡ false) other nodes free) in
          ap (λ b. p other || b) rest ∙ either_way (p other) (p node) (list_any p nodes)
    ] refl

pub any_added : (p : Node → Bool) (node : Node) (nodes : List Node) → IsFree node nodes → list_any p (added node nodes) ≡ (p node || list_any p nodes)
unfolding added
any_added p node nodes free = any_put p node nodes free

-- ---- the row of a node

exchange : {A : Type 0} (b c : Bool) (x y z : A) → (b ≡ true → c ≡ true → ⊥) → cond b x (cond c y z) ≡ cond c y (cond b x z)
exchange true true x y z both = absurd (both refl refl)
exchange true false x y z both = refl
exchange false true x y z both = refl
exchange false false x y z both = refl

at_put : (node : Node) (nodes : List Node) (at : NodeId) → IsFree node nodes → node_at (put (order_in node_part) node nodes) at ≡ cond (same_node node.id at) (Some node) (node_at nodes at)
at_put node [] at free = refl
at_put node (other ∷ nodes) at free =
    let apart : is_eq (order_in node_part node other) ≡ false = All-head (λ (row : Node). is_eq (order_in node_part node row) ≡ false) other nodes free in
    elim (order_in node_part node other) as (λ o. order_in node_part node other ≡ o → node_at (match_ordering o (node ∷ other ∷ nodes) (node ∷ nodes) (other ∷ put (order_in node_part) node nodes)) at ≡ cond (same_node node.id at) (Some node) (cond (same_node other.id at) (Some other) (node_at nodes at))) [
      | Less ↦ λ is. refl
      | Equal ↦ λ is. absurd (both_ways (is_eq (order_in node_part node other)) apart (ap is_eq is))
      | Greater ↦ λ is.
          let rest : node_at (put (order_in node_part) node nodes) at ≡ cond (same_node node.id at) (Some node) (node_at nodes at) = at_put node nodes at (All-tail (λ (row : Node). is_eq (order_in node_part node row) ≡ false) other nodes free) in
          ap (λ (found : Option Node). cond (same_node other.id at) (Some other) found) rest
          ∙ exchange (same_node other.id at) (same_node node.id at) (Some other) (Some node) (node_at nodes at) (λ first second.
          both_ways (same_node node.id other.id) (places_differ node other apart) (same_node-from node.id other.id (same_node-true node.id at second ∙ sym (same_node-true other.id at first))))
    ] refl

pub at_added : (node : Node) (nodes : List Node) (at : NodeId) → IsFree node nodes → node_at (added node nodes) at ≡ cond (same_node node.id at) (Some node) (node_at nodes at)
unfolding added
at_added node nodes at free = at_put node nodes at free

-- ---- how many pass

one_more : (a b : Bool) (x y : Node) (rows : List Node) → length (cond a (x ∷ cond b (y ∷ rows) rows) (cond b (y ∷ rows) rows)) ≡ length (cond b (y ∷ rows) rows) + cond a 1 0
one_more true true x y rows = omega arith
one_more true false x y rows = omega arith
one_more false true x y rows = omega arith
one_more false false x y rows = omega arith

count_put : (p : Node → Bool) (node : Node) (nodes : List Node) → IsFree node nodes → length (filter p (put (order_in node_part) node nodes)) ≡ length (filter p nodes) + cond (p node) 1 0
count_put p node [] free = elim (p node) as (λ b. length (cond b (node ∷ []) []) ≡ 0 + cond b 1 0) [ true ↦ omega arith | false ↦ omega arith ]
count_put p node (other ∷ nodes) free =
    elim (order_in node_part node other) as (λ o. order_in node_part node other ≡ o → length (filter p (match_ordering o (node ∷ other ∷ nodes) (node ∷ nodes) (other ∷ put (order_in node_part) node nodes))) ≡ length (filter p (other ∷ nodes)) + cond (p node) 1 0) [
      | Less ↦ λ is. one_more (p node) (p other) node other (filter p nodes)
      | Equal ↦ λ is. absurd (both_ways (is_eq (order_in node_part node other)) (All-head (λ (row : Node). is_eq (order_in node_part node row) ≡ false) other nodes free) (ap is_eq is))
      | Greater ↦ λ is. behind (p other) (count_put p node nodes (All-tail (λ (row : Node). is_eq (order_in node_part node row) ≡ false) other nodes free))
    ] refl
  where
    behind : (b : Bool) → length (filter p (put (order_in node_part) node nodes)) ≡ length (filter p nodes) + cond (p node) 1 0
        → length (cond b (other ∷ filter p (put (order_in node_part) node nodes)) (filter p (put (order_in node_part) node nodes))) ≡ length (cond b (other ∷ filter p nodes) (filter p nodes)) + cond (p node) 1 0
    behind true rest = omega (arith, rest)
    behind false rest = rest

pub count_added : (p : Node → Bool) (node : Node) (nodes : List Node) → IsFree node nodes → length (filter p (added node nodes)) ≡ length (filter p nodes) + cond (p node) 1 0
unfolding added
count_added p node nodes free = count_put p node nodes free
