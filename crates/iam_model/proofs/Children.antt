-- Lists of children.
use Rattle.std.proofs.Common.{◌≡◌, ℕ, Bool, true, false, not, ◌&&◌, List, [], ◌∷◌, filter, refl, subst, arith}
use Rattle.std.specs.Prelude.{Contains}
use Rattle.std.specs.Bool.{◌==◌}
use Rattle.std.specs.List.{All, list_any}
use Rattle.std.specs.Cmp.{IsTotalOrder}
use Rattle.std.specs.Ordering.{is_eq, nat_cmp}
use Rattle.std.specs.declared.cmp.Ordering.{Ordering}
use Rattle.std.proofs.lemmas.Bool.{and_from, and_parts, not-true}
use Rattle.std.proofs.lemmas.Cmp.{nat_cmp_total, on_total}
use Rattle.std.proofs.lemmas.List.Elements.{All-contains, All-contains_itself, All-filter, All-head, All-tail}
use Rattle.iam_text.proofs.InOrder.{placed-IsInOrder}
use Rattle.iam_names.specs.declared.node.NodeId.{NodeId}
use Rattle.iam_names.specs.declared.node.NodeKind.{NodeKind}
use Rattle.iam_types.specs.declared.node.Node.{Node}
use Rattle.iam_types.specs.declared.tables.Tables.{Tables}
use Rattle.iam_model.specs.Consistent.{Consistent}
use Rattle.iam_model.specs.Hierarchy.{is_alone, share_number}
use Rattle.iam_model.specs.Nodes.{active_children, children_of, is_active_child, number_order}
use Rattle.iam_model.specs.Part.{AreApartBy, order_in}
use Rattle.iam_model.specs.Parts.{node_part}
use Rattle.iam_model.specs.Path.{AreChildren, IsChild}
use Rattle.iam_model.specs.Same.{same_kind, same_node}
use Rattle.iam_model.proofs.Finding.{All-both, Contains-filter, filter-Contains, none_passes}
use Rattle.iam_model.proofs.Lists.{nodes_apart}
use Rattle.iam_model.proofs.Placing.{placed_from, placed_has}
use Rattle.iam_model.proofs.Sameness.{places_differ, same_kind-from, same_kind-true, same_node-from, same_node-true}

number_order_total : IsTotalOrder number_order
number_order_total = on_total (λ (row : Node). row.id.number) nat_cmp_total

-- ---- numbers apart

numbers_differ : (nodes : List Node) (a b : Node) → is_alone share_number nodes a ≡ true → Contains nodes b → same_node a.id b.id ≡ false → is_eq (number_order a b) ≡ false
numbers_differ nodes a b alone there differs =
    let none : share_number a b ≡ false = All-contains (λ (r : Node). share_number a r ≡ false) nodes b (none_passes (share_number a) nodes (not-true (list_any (share_number a) nodes) alone)) there in
    let other : (a.id.number == b.id.number) ≡ false = subst (λ t. (not t && (a.id.number == b.id.number)) ≡ false) differs none in
    is_other a.id.number b.id.number other
  where
    is_other : (m n : ℕ) → (m == n) ≡ false → is_eq (nat_cmp m n) ≡ false
    is_other m n other = grind arith

apart_by_number : (nodes rows : List Node) → All (λ row. is_alone share_number nodes row ≡ true) rows → All (Contains nodes) rows → AreApartBy (order_in node_part) rows → AreApartBy number_order rows
apart_by_number nodes [] alone there apart = tt
apart_by_number nodes (row ∷ rows) alone there apart =
    let first : is_alone share_number nodes row ≡ true = All-head (λ (r : Node). is_alone share_number nodes r ≡ true) row rows alone in
    let behind : All (λ (other : Node). is_eq (number_order row other) ≡ false) rows =
    All-both (Contains nodes) (λ (other : Node). is_eq (order_in node_part row other) ≡ false) (λ (other : Node). is_eq (number_order row other) ≡ false)
    (λ other has differs. numbers_differ nodes row other first has (places_differ row other differs)) rows (All-tail (Contains nodes) row rows there) apart.0 in
    (behind, apart_by_number nodes rows (All-tail (λ (r : Node). is_alone share_number nodes r ≡ true) row rows alone) (All-tail (Contains nodes) row rows there) apart.1)

apart_filter : {X : Type 0} (order : X → X → Ordering) (p : X → Bool) (rows : List X) → AreApartBy order rows → AreApartBy order (filter p rows)
apart_filter order p [] apart = tt
apart_filter {X} order p (row ∷ rows) apart =
    elim (p row) as (λ b. p row ≡ b → AreApartBy order (filter p (row ∷ rows))) [
      | true ↦ λ is. rw is (All-filter p (λ (other : X). is_eq (order row other) ≡ false) rows apart.0, apart_filter order p rows apart.1)
      | false ↦ λ is. rw is (apart_filter order p rows apart.1)
    ] refl

-- ---- children

child_is : (kind : NodeKind) (parent : NodeId) (row : Node) → is_active_child kind parent row ≡ true → IsChild kind parent row
child_is kind parent row h =
    let below = and_parts (row.active && same_kind row.id.kind kind) (same_node row.parent parent) h in
    let active = and_parts row.active (same_kind row.id.kind kind) below.0 in
    record { is = same_kind-true row.id.kind kind active.1; below = same_node-true row.parent parent below.1; active = active.0 }

is_child : (kind : NodeKind) (parent : NodeId) (row : Node) → IsChild kind parent row → is_active_child kind parent row ≡ true
is_child kind parent row child =
    and_from (row.active && same_kind row.id.kind kind) (same_node row.parent parent) (and_from row.active (same_kind row.id.kind kind) child.active (same_kind-from row.id.kind kind child.is)) (same_node-from row.parent parent child.below)

pub children_listed : (tables : Tables) (kind : NodeKind) (parent : NodeId) → Consistent tables → AreChildren tables kind parent (children_of tables.nodes kind parent)
children_listed tables kind parent consistent =
    let test : Node → Bool = is_active_child kind parent in
    let all : AreApartBy number_order tables.nodes = apart_by_number tables.nodes tables.nodes consistent.keeps.numbers.nodes (All-contains_itself tables.nodes) (nodes_apart tables consistent) in
    let apart : AreApartBy number_order (filter test tables.nodes) = apart_filter number_order test tables.nodes all in
    record {
      ordered = placed-IsInOrder number_order number_order_total (active_children tables.nodes kind parent);
      exactly = λ row. (
        λ there. let kept = filter-Contains test tables.nodes row (placed_from number_order (active_children tables.nodes kind parent) row there) in (kept.0, child_is kind parent row kept.1),
        λ is. placed_has number_order (active_children tables.nodes kind parent) row apart (Contains-filter test tables.nodes row is.0 (is_child kind parent row is.1)),
      );
    }
