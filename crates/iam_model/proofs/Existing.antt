-- Nodes that exist, and names that aren't refused.
use Rattle.std.proofs.Common.{◌≡◌, ◌⊎◌, inl, inr, Bool, true, false, cond, Some, None, refl, sym, subst}
use Rattle.std.specs.Prelude.{is_none, Contains}
use Rattle.std.specs.Bool.{◌==◌}
use Rattle.std.specs.List.{find}
use Rattle.std.specs.Option.{is_some}
use Rattle.std.specs.declared.option.Option.{Option}
use Rattle.std.proofs.lemmas.Bool.{or_cases, or_left, or_right}
use Rattle.std.proofs.lemmas.List.Elements.{All-contains}
use Rattle.iam_names.specs.Node.{IsNodeId, node_text}
use Rattle.iam_names.specs.declared.node.NodeId.{NodeId}
use Rattle.iam_names.specs.declared.node.NodeKind.TheVariants.{Folder as AFolder, Project as AProject}
use Rattle.iam_names.specs.declared.node.NodeName.{NodeName}
use Rattle.iam_names.specs.declared.node.NodeName.TheVariants.{Organization, Folder, ProjectNumber, ProjectId}
use Rattle.iam_types.specs.declared.node.Node.{Node}
use Rattle.iam_types.specs.declared.refusal.Refusal.{Refusal}
use Rattle.iam_types.specs.declared.refusal.Refusal.TheVariants.{NotFound}
use Rattle.iam_types.specs.declared.tables.Tables.{Tables}
use Rattle.iam_model.specs.Consistent.{Consistent}
use Rattle.iam_model.specs.Formed.{IsNodeFact}
use Rattle.iam_model.specs.Nodes.{exists, found_node, has_project_id, node_at, organization_of, resolve}
use Rattle.iam_model.specs.Refusals.{refused_if}
use Rattle.iam_model.specs.Same.{same_node}
use Rattle.iam_model.specs.Shared.{missing}
use Rattle.iam_model.proofs.Climbing.{row_of}
use Rattle.iam_model.proofs.Finding.{find-Contains, finds_some}
use Rattle.iam_model.proofs.Lists.{nodes_formed, org_formed}
use Rattle.iam_model.proofs.Sameness.{same_node-itself, same_node-true}

-- the node of a row exists
pub row_exists : (tables : Tables) (row : Node) → Contains tables.nodes row → exists tables row.id ≡ true
row_exists tables row there =
    or_right (same_node row.id (organization_of tables)) (is_some (node_at tables.nodes row.id)) (finds_some (λ (r : Node). same_node r.id row.id) tables.nodes row there (same_node-itself row.id))

found_exists : (tables : Tables) (p : Node → Bool) (node : NodeId) → found_node (find p tables.nodes) ≡ Some node → exists tables node ≡ true
found_exists tables p node = go (find p tables.nodes) refl
  where
    go : (found : Option Node) → find p tables.nodes ≡ found → found_node found ≡ Some node → exists tables node ≡ true
    go None is h = absurd (cc)
    go (Some row) is h = let same : row.id ≡ node = cc in subst (λ (n : NodeId). exists tables n ≡ true) same (row_exists tables row (find-Contains p tables.nodes row is))

-- a node that is found by a name exists
pub resolved_exists : (tables : Tables) (name : NodeName) (node : NodeId) → resolve tables name ≡ Some node → exists tables node ≡ true
resolved_exists tables (Organization number) node found =
    elim (number == tables.org.number) as (λ b. cond b (Some (organization_of tables)) None ≡ Some node → exists tables node ≡ true) [
      | true ↦ λ is.
          let same : organization_of tables ≡ node = cc in
          subst (λ (n : NodeId). exists tables n ≡ true) same (or_left (same_node (organization_of tables) (organization_of tables)) (is_some (node_at tables.nodes (organization_of tables))) (same_node-itself (organization_of tables)))
      | false ↦ λ is. absurd (cc)
    ] found
resolved_exists tables (Folder number) node found = found_exists tables (λ (row : Node). same_node row.id (record { kind = AFolder; number = number })) node found
resolved_exists tables (ProjectNumber number) node found = found_exists tables (λ (row : Node). same_node row.id (record { kind = AProject; number = number })) node found
resolved_exists tables (ProjectId id) node found = found_exists tables (has_project_id id) node found

-- a node that exists is the organisation, or has a row
pub existing : (tables : Tables) (node : NodeId) → exists tables node ≡ true → (node ≡ organization_of tables) ⊎ ((row : Node) × (node_at tables.nodes node ≡ Some row) × Contains tables.nodes row × (row.id ≡ node))
existing tables node there = elim (or_cases (same_node node (organization_of tables)) (is_some (node_at tables.nodes node)) there) [
  | inl is ↦ inl (same_node-true node (organization_of tables) is)
  | inr some ↦ inr (go (node_at tables.nodes node) refl some)
]
  where
    go : (found : Option Node) → node_at tables.nodes node ≡ found → is_some found ≡ true → (row : Node) × (node_at tables.nodes node ≡ Some row) × Contains tables.nodes row × (row.id ≡ node)
    go None at h = absurd (cc)
    go (Some row) at h = let parts = row_of tables.nodes node row at in (row, at, parts.0, parts.1)

-- its number is well formed
pub existing_formed : (tables : Tables) (node : NodeId) → Consistent tables → exists tables node ≡ true → IsNodeId node
existing_formed tables node consistent there = elim (existing tables node there) [
  | inl is ↦ subst IsNodeId (sym is) (org_formed tables consistent).formed.number
  | inr found ↦ of_row found
]
  where
    of_row : ((row : Node) × (node_at tables.nodes node ≡ Some row) × Contains tables.nodes row × (row.id ≡ node)) → IsNodeId node
    of_row (row, at, has, same) = subst IsNodeId same (All-contains IsNodeFact tables.nodes row (nodes_formed tables consistent) has).id

-- what isn't refused isn't so
pub not_refused : (test : Bool) (refusal : Refusal) → refused_if test refusal ≡ None → test ≡ false
not_refused true refusal h = absurd (cc)
not_refused false refusal h = refl

-- a node that isn't found is missing
pub not_missing : (tables : Tables) (name : NodeName) → resolve tables name ≡ None → missing tables name ≡ None → ⊥
not_missing tables name is fine =
    let refused : refused_if true (NotFound (node_text name)) ≡ None = subst (λ (o : Option NodeId). refused_if (is_none o) (NotFound (node_text name)) ≡ None) is fine in
    absurd (cc)
