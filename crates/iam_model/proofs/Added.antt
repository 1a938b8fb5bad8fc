-- The hierarchy with a new node: what stood stands.
use Rattle.std.proofs.Common.{◌≡◌, inl, inr, ℕ, zero, suc, Bool, true, false, ◌&&◌, ◌||◌, List, [], ◌∷◌, Some, None, refl, sym, ap, subst, ◌∙◌, arith}
use Rattle.std.specs.Prelude.{Contains}
use Rattle.std.specs.Bool.{◌==◌}
use Rattle.std.specs.List.{All, list_any}
use Rattle.std.specs.Option.{option_map, option_map_or, is_some}
use Rattle.std.specs.Ordering.{is_eq}
use Rattle.std.specs.Str.{bytes_eq}
use Rattle.std.specs.declared.option.Option.{Option}
use Rattle.std.proofs.lemmas.Bool.{and_from, and_left, and_parts, both_ways, cond-false, eq-eqb, eqb-true, false_from_ne_true, not-true, not_from_false, or_from, or_left, or_parts, or_right}
use Rattle.std.proofs.lemmas.List.Elements.{All-contains}
use Rattle.iam_names.specs.declared.node.NodeKind.TheVariants.{Organization, Folder, Project}
use Rattle.iam_names.specs.declared.node.NodeId.{NodeId}
use Rattle.iam_types.specs.declared.node.Node.{Node}
use Rattle.iam_types.specs.declared.tables.Tables.{Tables}
use Rattle.iam_model.specs.Consistent.{Consistent}
use Rattle.iam_model.specs.Creation.{added, with_node_added}
use Rattle.iam_model.specs.Formed.{HasNodeForm, IsNodeFact}
use Rattle.iam_model.specs.Hierarchy.{LeadsUp, are_different, are_namesakes, is_active_folder, is_alone, is_led_up, same_project_id, share_number, share_project_id}
use Rattle.iam_model.specs.Nodes.{climb, exists, is_active, is_folder, is_project, longest_path, node_at, organization_of, parent_of, way_up}
use Rattle.iam_model.specs.Part.{order_in}
use Rattle.iam_model.specs.Parts.{node_part}
use Rattle.iam_model.specs.Same.{same_kind, same_node}
use Rattle.iam_model.proofs.Adding.{All-added, IsFree, any_added, at_added}
use Rattle.iam_model.proofs.Climbing.{parent_leads, row_with_parent, way_up_is}
use Rattle.iam_model.proofs.Existing.{existing}
use Rattle.iam_model.proofs.Finding.{All-both, finds_some, none_passes}
use Rattle.iam_model.proofs.Lists.{nodes_formed}
use Rattle.iam_model.proofs.Sameness.{other_node-back, places_differ, same_bytes-back, same_node-back, same_node-from}
use Rattle.iam_model.proofs.Ways.{led, led_further, root_is_led}
use Rattle.iam_model.proofs.Ways.Led.{here, through}

-- a row that isn't there yet, of a folder or a project
pub record IsNew (tables : Tables) (node : Node) : Type 0 where
  pub free : IsFree node tables.nodes
  pub below : same_kind node.id.kind Organization ≡ false

-- a node that exists is another
pub old_differs : (tables : Tables) (node : Node) (at : NodeId) → IsNew tables node → exists tables at ≡ true → same_node node.id at ≡ false
old_differs tables node at new there = elim (existing tables at there) [
  | inl is ↦ subst (λ (n : NodeId). same_node node.id n ≡ false) (sym is) (and_left (same_kind node.id.kind Organization) (node.id.number == tables.org.number) new.below)
  | inr found ↦ of_row found
]
  where
    of_row : ((row : Node) × (node_at tables.nodes at ≡ Some row) × Contains tables.nodes row × (row.id ≡ at)) → same_node node.id at ≡ false
    of_row (row, is, has, same) =
        let apart : is_eq (order_in node_part node row) ≡ false = All-contains (λ (other : Node). is_eq (order_in node_part node other) ≡ false) tables.nodes row new.free has in
        subst (λ (n : NodeId). same_node node.id n ≡ false) same (places_differ node row apart)

-- so its row is the same
pub at_old : (tables : Tables) (node : Node) (at : NodeId) → IsNew tables node → exists tables at ≡ true → node_at (added node tables.nodes) at ≡ node_at tables.nodes at
at_old tables node at new there = at_added node tables.nodes at new.free ∙ cond-false (same_node node.id at) (Some node) (node_at tables.nodes at) (old_differs tables node at new there)

pub parent_old : (tables : Tables) (node : Node) (at : NodeId) → IsNew tables node → exists tables at ≡ true → parent_of (added node tables.nodes) at ≡ parent_of tables.nodes at
parent_old tables node at new there = ap (option_map (λ (row : Node). row.parent)) (at_old tables node at new there)

pub active_old : (tables : Tables) (node : Node) (at : NodeId) → IsNew tables node → exists tables at ≡ true → is_active (added node tables.nodes) at ≡ is_active tables.nodes at
active_old tables node at new there = ap (λ (found : Option Node). option_map_or (λ (row : Node). row.active) found true) (at_old tables node at new there)

pub exists_still : (tables : Tables) (node : Node) (at : NodeId) → IsNew tables node → exists tables at ≡ true → exists (with_node_added tables node) at ≡ true
exists_still tables node at new there = subst (λ (found : Option Node). (same_node at (organization_of tables) || is_some found) ≡ true) (sym (at_old tables node at new there)) there

-- ---- ways up

-- what has a parent exists
with_parent_exists : (tables : Tables) (at parent : NodeId) → parent_of tables.nodes at ≡ Some parent → exists tables at ≡ true
with_parent_exists tables at parent is = of_row (row_with_parent tables.nodes at parent is)
  where
    of_row : ((row : Node) × Contains tables.nodes row × (row.id ≡ at) × (row.parent ≡ parent)) → exists tables at ≡ true
    of_row (row, has, same, above) = or_right (same_node at (organization_of tables)) (is_some (node_at tables.nodes at)) (finds_some (λ (r : Node). same_node r.id at) tables.nodes row has (same_node-from row.id at same))

pub led_exists : (tables : Tables) (steps : ℕ) (at : NodeId) → is_led_up steps (organization_of tables) tables.nodes at ≡ true → exists tables at ≡ true
led_exists tables steps at h = elim (led steps (organization_of tables) tables.nodes at h) [
  | here is ↦ or_left (same_node at (organization_of tables)) (is_some (node_at tables.nodes at)) is
  | through fewer parent one folder is more ↦ with_parent_exists tables at parent is
]

parent_exists : (tables : Tables) (at parent : NodeId) → Consistent tables → parent_of tables.nodes at ≡ Some parent → exists tables parent ≡ true
parent_exists tables at parent consistent is = of_row (row_with_parent tables.nodes at parent is)
  where
    of_row : ((row : Node) × Contains tables.nodes row × (row.id ≡ at) × (row.parent ≡ parent)) → exists tables parent ≡ true
    of_row (row, has, same, above) = let leads : LeadsUp tables row.parent = parent_leads tables consistent row has in subst (λ (n : NodeId). exists tables n ≡ true) above (led_exists tables leads.0 row.parent leads.1)

climb_old : (tables : Tables) (node : Node) → IsNew tables node → Consistent tables → (steps : ℕ) (at : NodeId) → exists tables at ≡ true → climb steps (added node tables.nodes) at ≡ climb steps tables.nodes at
climb_old tables node new consistent zero at there = refl
climb_old tables node new consistent (suc steps) at there =
    ap (λ (found : Option NodeId). at ∷ option_map_or (climb steps (added node tables.nodes)) found []) (parent_old tables node at new there) ∙ go (parent_of tables.nodes at) refl (climb_old tables node new consistent steps)
  where
    go : (found : Option NodeId) → parent_of tables.nodes at ≡ found → ((parent : NodeId) → exists tables parent ≡ true → climb steps (added node tables.nodes) parent ≡ climb steps tables.nodes parent)
        → at ∷ option_map_or (climb steps (added node tables.nodes)) found [] ≡ at ∷ option_map_or (climb steps tables.nodes) found []
    go None is more = refl
    go (Some parent) is more = ap (λ (up : List NodeId). at ∷ up) (more parent (parent_exists tables at parent consistent is))

pub way_old : (tables : Tables) (node : Node) (at : NodeId) → IsNew tables node → Consistent tables → exists tables at ≡ true → way_up (added node tables.nodes) at ≡ way_up tables.nodes at
way_old tables node at new consistent there =
    way_up_is (added node tables.nodes) at ∙ climb_old tables node new consistent longest_path at there ∙ sym (way_up_is tables.nodes at)

pub led_old : (tables : Tables) (node : Node) → IsNew tables node → (steps : ℕ) (at : NodeId) → is_led_up steps (organization_of tables) tables.nodes at ≡ true → is_led_up steps (organization_of tables) (added node tables.nodes) at ≡ true
led_old tables node new zero at h = h
led_old tables node new (suc steps) at h = elim (led (suc steps) (organization_of tables) tables.nodes at h) [
  | here is ↦ root_is_led (suc steps) (organization_of tables) (added node tables.nodes) at is
  | through fewer parent one folder is more ↦
      let same : fewer ≡ steps = omega (arith, one) in
      led_further steps (organization_of tables) (added node tables.nodes) at parent folder (parent_old tables node at new (with_parent_exists tables at parent is) ∙ is)
      (led_old tables node new steps parent (subst (λ (n : ℕ). is_led_up n (organization_of tables) tables.nodes parent ≡ true) same more))
]

pub leads_old : (tables : Tables) (node : Node) (at : NodeId) → IsNew tables node → LeadsUp tables at → LeadsUp (with_node_added tables node) at
leads_old tables node at new leads = (leads.0, led_old tables node new leads.0 at leads.1)

-- a node that exists and is no project leads up
pub exists_leads : (tables : Tables) (at : NodeId) → Consistent tables → exists tables at ≡ true → is_project at ≡ false → LeadsUp tables at
exists_leads tables at consistent there holds = elim (existing tables at there) [
  | inl is ↦ (0, same_node-from at (organization_of tables) is)
  | inr found ↦ of_row found
]
  where
    folder : (row : Node) → IsNodeFact row → is_project row.id ≡ false → is_folder row.id ≡ true
    folder row formed other =
        elim row.id.kind as (λ k. HasNodeForm k row.display row.project → same_kind k Project ≡ false → same_kind k Folder ≡ true) [
          | Organization ↦ λ form is. absurd form
          | Folder ↦ λ form is. refl
          | Project ↦ λ form is. absurd (cc)
        ] formed.form other

    of_row : ((row : Node) × (node_at tables.nodes at ≡ Some row) × Contains tables.nodes row × (row.id ≡ at)) → LeadsUp tables at
    of_row (row, is, has, same) =
        let leads : LeadsUp tables row.parent = parent_leads tables consistent row has in
        let formed : IsNodeFact row = All-contains IsNodeFact tables.nodes row (nodes_formed tables consistent) has in
        let is_one : is_folder at ≡ true = subst (λ (n : NodeId). is_folder n ≡ true) same (folder row formed (subst (λ (n : NodeId). is_project n ≡ false) (sym same) holds)) in
        (suc leads.0, led_further leads.0 (organization_of tables) tables.nodes at row.parent is_one (ap (option_map (λ (r : Node). r.parent)) is) leads.1)

-- ---- rows that are alone stay so

pub alone_added : (alike : Node → Node → Bool) → ((a b : Node) → alike a b ≡ true → alike b a ≡ true) → (node : Node) (nodes : List Node) → IsFree node nodes → is_alone alike (added node nodes) node ≡ true
    → All (λ row. is_alone alike nodes row ≡ true) nodes → All (λ row. is_alone alike (added node nodes) row ≡ true) (added node nodes)
alone_added alike back node nodes free alone all =
    let new : (alike node node || list_any (alike node) nodes) ≡ false = sym (any_added (alike node) node nodes free) ∙ not-true (list_any (alike node) (added node nodes)) alone in
    let none : All (λ (row : Node). alike node row ≡ false) nodes = none_passes (alike node) nodes (or_parts (alike node node) (list_any (alike node) nodes) new).1 in
    All-added (λ (row : Node). is_alone alike (added node nodes) row ≡ true) node nodes alone (All-both (λ (row : Node). alike node row ≡ false) (λ (row : Node). is_alone alike nodes row ≡ true) (λ (row : Node). is_alone alike (added node nodes) row ≡ true) still nodes none all)
  where
    still : (row : Node) → alike node row ≡ false → is_alone alike nodes row ≡ true → is_alone alike (added node nodes) row ≡ true
    still row other was =
        let turned : alike row node ≡ false = false_from_ne_true (alike row node) (λ is. both_ways (alike node row) other (back row node is)) in
        not_from_false (list_any (alike row) (added node nodes)) (any_added (alike row) node nodes free ∙ or_from (alike row node) (list_any (alike row) nodes) turned (not-true (list_any (alike row) nodes) was))

different_back : (a b : Node) → are_different a b ≡ true → are_different b a ≡ true
different_back a b is = not_from_false (same_node b.id a.id) (other_node-back a.id b.id (not-true (same_node a.id b.id) is))

-- what namesakes are
record AreNamesakes (a b : Node) : Type 0 where
  different : are_different a b ≡ true
  first : is_active_folder a ≡ true
  second : is_active_folder b ≡ true
  parents : same_node a.parent b.parent ≡ true
  names : bytes_eq a.display b.display ≡ true

namesakes_are : (a b : Node) → are_namesakes a b ≡ true → AreNamesakes a b
namesakes_are a b is =
    let names = and_parts (are_different a b && is_active_folder a && is_active_folder b && same_node a.parent b.parent) (bytes_eq a.display b.display) is in
    let parents = and_parts (are_different a b && is_active_folder a && is_active_folder b) (same_node a.parent b.parent) names.0 in
    let second = and_parts (are_different a b && is_active_folder a) (is_active_folder b) parents.0 in
    let first = and_parts (are_different a b) (is_active_folder a) second.0 in
    record { different = first.0; first = first.1; second = second.1; parents = parents.1; names = names.1 }

pub different_of : (a b : Node) → are_namesakes a b ≡ true → are_different a b ≡ true
different_of a b is = (namesakes_are a b is).different

pub folder_of : (a b : Node) → are_namesakes a b ≡ true → is_active_folder a ≡ true
folder_of a b is = (namesakes_are a b is).first

pub namesakes_back : (a b : Node) → are_namesakes a b ≡ true → are_namesakes b a ≡ true
namesakes_back a b is =
    let are : AreNamesakes a b = namesakes_are a b is in
    and_from (are_different b a && is_active_folder b && is_active_folder a && same_node b.parent a.parent) (bytes_eq b.display a.display)
    (and_from (are_different b a && is_active_folder b && is_active_folder a) (same_node b.parent a.parent)
    (and_from (are_different b a && is_active_folder b) (is_active_folder a) (and_from (are_different b a) (is_active_folder b) (different_back a b are.different) are.second) are.first)
    (same_node-back a.parent b.parent are.parents)) (same_bytes-back a.display b.display are.names)

pub numbers_back : (a b : Node) → share_number a b ≡ true → share_number b a ≡ true
numbers_back a b is =
    let parts = and_parts (are_different a b) (a.id.number == b.id.number) is in
    and_from (are_different b a) (b.id.number == a.id.number) (different_back a b parts.0) (eq-eqb b.id.number a.id.number (sym (eqb-true a.id.number b.id.number parts.1)))

same_project-back : (a b : Option (List ℕ)) → same_project_id a b ≡ true → same_project_id b a ≡ true
same_project-back None None is = absurd (cc)
same_project-back None (Some b) is = absurd (cc)
same_project-back (Some a) None is = absurd (cc)
same_project-back (Some a) (Some b) is = same_bytes-back a b is

pub projects_back : (a b : Node) → share_project_id a b ≡ true → share_project_id b a ≡ true
projects_back a b is =
    let parts = and_parts (are_different a b) (same_project_id a.project b.project) is in
    and_from (are_different b a) (same_project_id b.project a.project) (different_back a b parts.0) (same_project-back a.project b.project parts.1)
