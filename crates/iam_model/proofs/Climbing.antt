-- Climbs from a node to the organisation.
use Rattle.std.proofs.Common.{◌≡◌, inl, inr, ℕ, zero, suc, ◌≤◌, Bool, true, false, not, ◌&&◌, List, [], ◌∷◌, length, Some, None, refl, sym, ap, subst, ◌∙◌, arith}
use Rattle.std.specs.Prelude.{nat_le, Contains}
use Rattle.std.specs.Option.{option_map, option_map_or, is_some}
use Rattle.std.specs.declared.option.Option.{Option}
use Rattle.std.specs.Bool.{◌==◌}
use Rattle.std.proofs.lemmas.Bool.{both_ways, leb-true, or_cases}
use Rattle.std.proofs.lemmas.List.Elements.{All-contains, All-weaker}
use Rattle.iam_names.specs.declared.node.NodeKind.TheVariants.{Organization, Folder, Project}
use Rattle.iam_names.specs.declared.node.NodeId.{NodeId}
use Rattle.iam_types.specs.declared.node.Node.{Node}
use Rattle.iam_types.specs.declared.node.Org.{Org}
use Rattle.iam_types.specs.declared.tables.Tables.{Tables}
use Rattle.iam_model.specs.Consistent.{Consistent}
use Rattle.iam_model.specs.Formed.{HasNodeForm, IsNodeFact}
use Rattle.iam_model.specs.Hierarchy.{LeadsUp, deepest, is_led_up, is_shallow}
use Rattle.iam_model.specs.Nodes.{climb, depth_below, exists, is_folder, longest_path, node_at, node_of_org, organization_of, parent_of, way_up}
use Rattle.iam_model.specs.Same.{same_kind, same_node}
use Rattle.iam_model.proofs.Finding.{find-Contains, find-passes, find_nothing}
use Rattle.iam_model.proofs.Lists.{nodes_formed}
use Rattle.iam_model.proofs.Sameness.{same_node-true}
use Rattle.iam_model.proofs.Ways.{led}
use Rattle.iam_model.proofs.Ways.Led.{here, through}

pub way_up_is : (nodes : List Node) (node : NodeId) → way_up nodes node ≡ climb longest_path nodes node
unfolding way_up
way_up_is nodes node = refl

-- ---- lengths

pub climb_short : (steps : ℕ) (nodes : List Node) (node : NodeId) → length (climb steps nodes node) ≤ steps
climb_short zero nodes node = omega arith
climb_short (suc steps) nodes node = go (parent_of nodes node) (climb_short steps nodes)
  where
    go : (found : Option NodeId) → ((parent : NodeId) → length (climb steps nodes parent) ≤ steps) → length (node ∷ option_map_or (climb steps nodes) found []) ≤ suc steps
    go None more = omega arith
    go (Some parent) more = omega (arith, more parent)

-- a longer climb has no fewer nodes
climb_longer : (steps : ℕ) (nodes : List Node) (node : NodeId) → length (climb steps nodes node) ≤ length (climb (suc steps) nodes node)
climb_longer zero nodes node = omega arith
climb_longer (suc steps) nodes node = go (parent_of nodes node) (climb_longer steps nodes)
  where
    go : (found : Option NodeId) → ((parent : NodeId) → length (climb steps nodes parent) ≤ length (climb (suc steps) nodes parent))
        → length (node ∷ option_map_or (climb steps nodes) found []) ≤ length (node ∷ option_map_or (climb (suc steps) nodes) found [])
    go None more = omega arith
    go (Some parent) more = omega (arith, more parent)

-- ---- the way up as a relation

-- From a node up: the list begins with the node, each is followed by its parent, and it ends with the organisation.
abbrev pub IsWayUp : Tables → NodeId → List NodeId → Type 0
IsWayUp tables node [] = ⊥
IsWayUp tables node (first ∷ []) = (first ≡ node) × (node ≡ organization_of tables)
IsWayUp tables node (first ∷ next ∷ more) = (first ≡ node) × (parent_of tables.nodes node ≡ Some next) × IsWayUp tables next (next ∷ more)

way_further : (tables : Tables) (node parent : NodeId) (up : List NodeId) → parent_of tables.nodes node ≡ Some parent → IsWayUp tables parent up → IsWayUp tables node (node ∷ up)
way_further tables node parent [] is way = absurd way
way_further tables node parent (first ∷ []) is way = let same : parent ≡ first = sym way.0 in (refl, is ∙ ap Some same, (refl, sym same ∙ way.1))
way_further tables node parent (first ∷ next ∷ more) is way =
    let same : parent ≡ first = sym way.0 in
    (refl, is ∙ ap Some same, subst (λ (p : NodeId). IsWayUp tables p (first ∷ next ∷ more)) same way)

-- what is led up, in whatever number of steps, has its way in a climb that one more step doesn't make longer
pub led_way : (most steps : ℕ) (tables : Tables) (node : NodeId) → parent_of tables.nodes (organization_of tables) ≡ None → is_led_up steps (organization_of tables) tables.nodes node ≡ true
    → length (climb (suc most) tables.nodes node) ≤ most → IsWayUp tables node (climb most tables.nodes node)
led_way zero steps tables node top h few = absurd (some (parent_of tables.nodes node) few)
  where
    some : (found : Option NodeId) → length (node ∷ option_map_or (climb 0 tables.nodes) found []) ≤ 0 → ⊥
    some None few = omega (arith, few)
    some (Some parent) few = omega (arith, few)
led_way (suc most) steps tables node top h few = elim (led steps (organization_of tables) tables.nodes node h) [
  | here is ↦ at_top (same_node-true node (organization_of tables) is)
  | through fewer parent one folder is more ↦ go parent is (led_way most fewer tables parent top more)
]
  where
    at_top : node ≡ organization_of tables → IsWayUp tables node (node ∷ option_map_or (climb most tables.nodes) (parent_of tables.nodes node) [])
    at_top is =
        let none : parent_of tables.nodes node ≡ None = subst (λ (n : NodeId). parent_of tables.nodes n ≡ None) (sym is) top in
        subst (λ (found : Option NodeId). IsWayUp tables node (node ∷ option_map_or (climb most tables.nodes) found [])) (sym none) (refl, is)

    go : (parent : NodeId) → parent_of tables.nodes node ≡ Some parent → (length (climb (suc most) tables.nodes parent) ≤ most → IsWayUp tables parent (climb most tables.nodes parent))
        → IsWayUp tables node (node ∷ option_map_or (climb most tables.nodes) (parent_of tables.nodes node) [])
    go parent is more =
        let shorter : length (node ∷ climb (suc most) tables.nodes parent) ≤ suc most = subst (λ (found : Option NodeId). length (node ∷ option_map_or (climb (suc most) tables.nodes) found []) ≤ suc most) is few in
        let rest : IsWayUp tables parent (climb most tables.nodes parent) = more (omega (arith, shorter)) in
        subst (λ (found : Option NodeId). IsWayUp tables node (node ∷ option_map_or (climb most tables.nodes) found [])) (sym is) (way_further tables node parent (climb most tables.nodes parent) is rest)

-- ---- consistent tables

-- no row is the organisation's
not_organization : (org : Org) (row : Node) → IsNodeFact row → same_node row.id (node_of_org org) ≡ false
not_organization org row formed =
    elim row.id.kind as (λ k. HasNodeForm k row.display row.project → (same_kind k Organization && (row.id.number == org.number)) ≡ false) [
      | Organization ↦ λ form. absurd form
      | Folder ↦ λ form. refl
      | Project ↦ λ form. refl
    ] formed.form

pub organization_has_no_row : (tables : Tables) → Consistent tables → node_at tables.nodes (organization_of tables) ≡ None
organization_has_no_row tables consistent =
    find_nothing (λ (row : Node). same_node row.id (organization_of tables)) tables.nodes
    (All-weaker IsNodeFact (λ (row : Node). same_node row.id (organization_of tables) ≡ false) (λ row formed. not_organization tables.org row formed) tables.nodes (nodes_formed tables consistent))

pub organization_is_top : (tables : Tables) → Consistent tables → parent_of tables.nodes (organization_of tables) ≡ None
organization_is_top tables consistent = ap (option_map (λ (row : Node). row.parent)) (organization_has_no_row tables consistent)

-- the row of a node is one of the rows, and is that node's
pub row_of : (nodes : List Node) (node : NodeId) (row : Node) → node_at nodes node ≡ Some row → Contains nodes row × (row.id ≡ node)
row_of nodes node row is = (find-Contains (λ (r : Node). same_node r.id node) nodes row is, same_node-true row.id node (find-passes (λ (r : Node). same_node r.id node) nodes row is))

-- a node with a parent has a row that says so
pub row_with_parent : (nodes : List Node) (node parent : NodeId) → parent_of nodes node ≡ Some parent → (row : Node) × Contains nodes row × (row.id ≡ node) × (row.parent ≡ parent)
row_with_parent nodes node parent is = go (node_at nodes node) refl is
  where
    go : (found : Option Node) → node_at nodes node ≡ found → option_map (λ (row : Node). row.parent) found ≡ Some parent → (row : Node) × Contains nodes row × (row.id ≡ node) × (row.parent ≡ parent)
    go None at h = absurd (cc)
    go (Some row) at h = let parts = row_of nodes node row at in (row, parts.0, parts.1, cc)

-- below a folder a climb has at most eleven nodes; the rows are those of consistent tables
folder_few : (tables : Tables) → Consistent tables → (row : Node) → Contains tables.nodes row → is_folder row.id ≡ true → length (climb longest_path tables.nodes row.parent) ≤ 10
folder_few tables consistent row there folder =
    let shallow : is_shallow tables.nodes row ≡ true = All-contains (λ (r : Node). is_shallow tables.nodes r ≡ true) tables.nodes row consistent.keeps.hierarchy.folders.depths there in
    elim (or_cases (not (is_folder row.id)) (nat_le (depth_below tables.nodes row.parent) deepest) shallow) [
      | inl other ↦ absurd (both_ways (is_folder row.id) (turned (is_folder row.id) other) folder)
      | inr few ↦ subst (λ (up : List NodeId). length up ≤ 10) (way_up_is tables.nodes row.parent) (leb-true (depth_below tables.nodes row.parent) deepest few)
    ]
  where
    turned : (b : Bool) → not b ≡ true → b ≡ false
    turned true h = absurd (cc)
    turned false h = refl

pub parent_leads : (tables : Tables) → Consistent tables → (row : Node) → Contains tables.nodes row → LeadsUp tables row.parent
parent_leads tables consistent row there = All-contains (λ (r : Node). LeadsUp tables r.parent) tables.nodes row consistent.keeps.hierarchy.parents there

-- what leads up has at most eleven nodes on its way, the organisation included, unless it's a project
few_above : (tables : Tables) → Consistent tables → (steps : ℕ) (node : NodeId) → is_led_up steps (organization_of tables) tables.nodes node ≡ true → length (climb 12 tables.nodes node) ≤ 11
few_above tables consistent steps node h = elim (led steps (organization_of tables) tables.nodes node h) [
  | here is ↦ at_top (same_node-true node (organization_of tables) is)
  | through fewer parent one folder is more ↦ go parent folder is (row_with_parent tables.nodes node parent is)
]
  where
    at_top : node ≡ organization_of tables → length (climb 12 tables.nodes node) ≤ 11
    at_top is =
        let none : parent_of tables.nodes node ≡ None = subst (λ (n : NodeId). parent_of tables.nodes n ≡ None) (sym is) (organization_is_top tables consistent) in
        subst (λ (found : Option NodeId). length (node ∷ option_map_or (climb 11 tables.nodes) found []) ≤ 11) (sym none) (omega arith)

    go : (parent : NodeId) → is_folder node ≡ true → parent_of tables.nodes node ≡ Some parent → ((row : Node) × Contains tables.nodes row × (row.id ≡ node) × (row.parent ≡ parent)) → length (climb 12 tables.nodes node) ≤ 11
    go parent folder is (row, there, same, below) =
        let few : length (climb 12 tables.nodes row.parent) ≤ 10 = folder_few tables consistent row there (subst (λ (n : NodeId). is_folder n ≡ true) (sym same) folder) in
        let shorter : length (climb 11 tables.nodes parent) ≤ length (climb 12 tables.nodes parent) = climb_longer 11 tables.nodes parent in
        let few_there : length (climb 12 tables.nodes parent) ≤ 10 = subst (λ (p : NodeId). length (climb 12 tables.nodes p) ≤ 10) below few in
        subst (λ (found : Option NodeId). length (node ∷ option_map_or (climb 11 tables.nodes) found []) ≤ 11) (sym is) (omega (arith, shorter, few_there))

-- each node that exists has its way up
pub way_stands : (tables : Tables) (node : NodeId) → Consistent tables → exists tables node ≡ true → IsWayUp tables node (way_up tables.nodes node)
way_stands tables node consistent there = subst (λ (up : List NodeId). IsWayUp tables node up) (sym (way_up_is tables.nodes node)) (elim (or_cases (same_node node (organization_of tables)) (is_some (node_at tables.nodes node)) there) [
  | inl is ↦ at_top (same_node-true node (organization_of tables) is)
  | inr some ↦ go (node_at tables.nodes node) refl some
])
  where
    at_top : node ≡ organization_of tables → IsWayUp tables node (climb 12 tables.nodes node)
    at_top is =
        let none : parent_of tables.nodes node ≡ None = subst (λ (n : NodeId). parent_of tables.nodes n ≡ None) (sym is) (organization_is_top tables consistent) in
        subst (λ (found : Option NodeId). IsWayUp tables node (node ∷ option_map_or (climb 11 tables.nodes) found [])) (sym none) (refl, is)

    go : (found : Option Node) → node_at tables.nodes node ≡ found → is_some found ≡ true → IsWayUp tables node (climb 12 tables.nodes node)
    go None at h = absurd (cc)
    go (Some row) at h =
        let parts = row_of tables.nodes node row at in
        let leads : LeadsUp tables row.parent = parent_leads tables consistent row parts.0 in
        let is : parent_of tables.nodes node ≡ Some row.parent = ap (option_map (λ (r : Node). r.parent)) at in
        let rest : IsWayUp tables row.parent (climb 11 tables.nodes row.parent) = led_way 11 leads.0 tables row.parent (organization_is_top tables consistent) leads.1 (few_above tables consistent leads.0 row.parent leads.1) in
        subst (λ (found : Option NodeId). IsWayUp tables node (node ∷ option_map_or (climb 11 tables.nodes) found [])) (sym is) (way_further tables node row.parent (climb 11 tables.nodes row.parent) is rest)
