-- Tests of the rules of tables.
use Rattle.std.proofs.Common.{◌≡◌, ◌&&◌, ℕ, Bool, true, List, length, sym, ◌∙◌}
use Rattle.std.specs.Prelude.{◌↔◌, IsTrue}
use Rattle.std.specs.List.{All, list_all}
use Rattle.std.proofs.lemmas.Bool.{and_parts, and_from}
use Rattle.std.proofs.lemmas.List.Elements.{All-weaker}
use Rattle.std.proofs.lemmas.List.Sums.{AllPass-from_list_all, list_all-from_AllPass}
use Rattle.iam_types.specs.declared.allow.AllowPolicy.{AllowPolicy}
use Rattle.iam_types.specs.declared.allow.Binding.{Binding}
use Rattle.iam_names.specs.declared.node.NodeId.{NodeId}
use Rattle.iam_types.specs.declared.node.Node.{Node}
use Rattle.iam_types.specs.declared.tables.Tables.{Tables}
use Rattle.iam_model.specs.Consistent.{FoldersFit, ParentsLead, PoliciesStand}
use Rattle.iam_model.specs.Hierarchy.{LeadsUp, are_namesakes, is_alone, is_led_up, is_shallow}
use Rattle.iam_model.specs.Nodes.{exists, organization_of}
use Rattle.iam_model.specs.Policies.{is_role}

-- a test of each is passed exactly where each passes
pub all_shown : {X : Type 0} (p : X → Bool) (xs : List X) (b : Bool) → b ≡ list_all p xs → (IsTrue b ↔ All (λ x. p x ≡ true) xs)
all_shown p xs b is = (λ h. AllPass-from_list_all p xs (sym is ∙ h), λ all. is ∙ list_all-from_AllPass p xs all)

pub lead_shown : ((root : NodeId) (nodes : List Node) (node : NodeId) (steps : ℕ) → is_led_up steps root nodes node ≡ true → is_led_up (length nodes) root nodes node ≡ true)
    → (tables : Tables) (b : Bool) → b ≡ list_all (λ row. is_led_up (length tables.nodes) (organization_of tables) tables.nodes row.parent) tables.nodes → (IsTrue b ↔ ParentsLead tables)
lead_shown short tables b is =
    let shown = all_shown led tables.nodes b is in (
      λ h. All-weaker (λ (row : Node). led row ≡ true) (λ (row : Node). LeadsUp tables row.parent) (λ row leads. (length tables.nodes, leads)) tables.nodes (shown.0 h),
      λ all. shown.1 (All-weaker (λ (row : Node). LeadsUp tables row.parent) (λ (row : Node). led row ≡ true)
          (λ row leads. short (organization_of tables) tables.nodes row.parent leads.0 leads.1) tables.nodes all),
    )
  where
    led : Node → Bool
    led row = is_led_up (length tables.nodes) (organization_of tables) tables.nodes row.parent

pub fit_shown : (tables : Tables) (shallow named : Bool) → shallow ≡ list_all (is_shallow tables.nodes) tables.nodes → named ≡ list_all (is_alone are_namesakes tables.nodes) tables.nodes
    → (IsTrue (shallow && named) ↔ FoldersFit tables)
fit_shown tables shallow named shallow_are named_are =
    let depths = all_shown (is_shallow tables.nodes) tables.nodes shallow shallow_are in
    let names = all_shown (is_alone are_namesakes tables.nodes) tables.nodes named named_are in (
      λ h. let both = and_parts shallow named h in record { depths = depths.0 both.0; names = names.0 both.1 },
      λ fit. and_from shallow named (depths.1 fit.depths) (names.1 fit.names),
    )

pub stand_shown : (tables : Tables) (nodes roles : Bool) → nodes ≡ list_all (λ policy. exists tables policy.node) tables.allows → roles ≡ list_all (λ policy. list_all (λ binding. is_role tables binding.role) policy.bindings) tables.allows
    → (IsTrue (nodes && roles) ↔ PoliciesStand tables)
stand_shown tables nodes roles nodes_are roles_are = (there, back)
  where
    node_there : AllowPolicy → Bool
    node_there policy = exists tables policy.node

    role_known : Binding → Bool
    role_known binding = is_role tables binding.role

    roles_known : AllowPolicy → Bool
    roles_known policy = list_all role_known policy.bindings

    there : (nodes && roles) ≡ true → PoliciesStand tables
    there h =
        let both = and_parts nodes roles h in
        record {
          nodes = AllPass-from_list_all node_there tables.allows (sym nodes_are ∙ both.0);
          roles = All-weaker (λ policy. roles_known policy ≡ true) (λ policy. All (λ binding. role_known binding ≡ true) policy.bindings)
              (λ policy. AllPass-from_list_all role_known policy.bindings) tables.allows (AllPass-from_list_all roles_known tables.allows (sym roles_are ∙ both.1));
        }

    back : PoliciesStand tables → (nodes && roles) ≡ true
    back stands =
        let all_there : list_all node_there tables.allows ≡ true = list_all-from_AllPass node_there tables.allows stands.nodes in
        let all_known : list_all roles_known tables.allows ≡ true = list_all-from_AllPass roles_known tables.allows
        (All-weaker (λ policy. All (λ binding. role_known binding ≡ true) policy.bindings) (λ policy. roles_known policy ≡ true)
        (λ policy. list_all-from_AllPass role_known policy.bindings) tables.allows stands.roles) in
        and_from nodes roles (nodes_are ∙ all_there) (roles_are ∙ all_known)
