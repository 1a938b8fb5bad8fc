-- The opening's tables are consistent.
use Rattle.std.proofs.Common.{◌≡◌, ◌<◌, ◌≤◌, true, [], ◌∷◌, None, refl, lit≤}
use Rattle.std.specs.List.{All}
use Rattle.std.specs.declared.cmp.Ordering.TheVariants.{Less}
use Rattle.std.specs.Option.{is_some}
use Rattle.std.proofs.lemmas.Bool.{or_left}
use Rattle.std.proofs.lemmas.List.Elements.{All-cons, All-nil}
use Rattle.iam_names.specs.Member.{IsMember}
use Rattle.iam_names.specs.Role.{IsRoleName}
use Rattle.iam_names.specs.declared.member.Member.{Member}
use Rattle.iam_names.specs.declared.member.Member.TheVariants.{Group}
use Rattle.iam_types.specs.declared.allow.AllowPolicy.{AllowPolicy}
use Rattle.iam_types.specs.declared.allow.Binding.{Binding}
use Rattle.iam_types.specs.declared.fact.Fact.{Fact}
use Rattle.iam_types.specs.declared.fact.Fact.TheVariants as fact
use Rattle.iam_types.specs.declared.node.Node.{Node}
use Rattle.iam_types.specs.declared.refusal.LimitName.TheVariants.{PolicyMembers, PolicyGroups, ChildFolders}
use Rattle.iam_types.specs.declared.tables.Opening.{Opening}
use Rattle.iam_types.specs.declared.tables.Tables.{Tables}
use Rattle.iam_model.specs.Consistent.{Consistent}
use Rattle.iam_model.specs.Facts.{fact_order}
use Rattle.iam_model.specs.Formed.{IsFact, IsStored}
use Rattle.iam_model.specs.Hierarchy.{LeadsUp, are_namesakes, count_folders, is_alone, is_below_active, is_shallow, share_number, share_project_id}
use Rattle.iam_model.specs.Limits.{limit_of}
use Rattle.iam_model.specs.Nodes.{exists, node_at, organization_of}
use Rattle.iam_model.specs.Opening.{IsOpening, opening_tables, organization_admin}
use Rattle.iam_model.specs.Policies.{count_groups, count_members, is_role}
use Rattle.iam_model.specs.Presets.{preset_lines, is_preset}
use Rattle.iam_model.specs.Same.{same_node}
use Rattle.iam_model.proofs.Sameness.{same_node-itself}

-- what holds of the one element holds of all
All-one : {X : Type 0} (P : X → Type 0) (x : X) → P x → All P (x ∷ [])
All-one P x holds = All-cons P x [] holds (All-nil P)

administrators_have_a_role : is_preset organization_admin ≡ true
unfolding preset_lines
administrators_have_a_role = refl

role_is_formed : IsRoleName organization_admin
role_is_formed = (lit≤ tt, lit≤ tt, refl)

few_groups : (member : Member) → count_groups (record { role = organization_admin; members = member ∷ []; condition = None } ∷ []) ≤ limit_of PolicyGroups
few_groups (Group email) = lit≤ tt
few_groups member = lit≤ tt

pub opens_consistent : (opening : Opening) → IsOpening opening → Consistent (opening_tables opening)
opens_consistent opening formed =
    let tables : Tables = opening_tables opening in
    let binding : Binding = record { role = organization_admin; members = opening.admin ∷ []; condition = None } in
    let stored : IsStored binding = record { role = role_is_formed; members = All-one IsMember opening.admin formed.admin; some = refl; unconditional = refl } in
    let policy : AllowPolicy = record { node = organization_of tables; bindings = binding ∷ []; set = 1 } in
    record {
      formed = All-cons IsFact (fact.Allow policy) (fact.Org tables.org ∷ []) (record { node = formed.number; bindings = All-one IsStored binding stored; set = lit≤ tt })
          (All-one IsFact (fact.Org tables.org) (record { formed = record { number = formed.number; domain = formed.domain; customer = formed.customer }; next = lit≤ tt; changes = lit≤ tt }));
      ordered = (All-one (λ (other : Fact). fact_order (fact.Allow policy) other ≡ Less) (fact.Org tables.org) refl, (All-nil (λ (other : Fact). fact_order (fact.Org tables.org) other ≡ Less), tt));
      keeps = record {
        hierarchy = record {
          parents = All-nil (λ (node : Node). LeadsUp tables node.parent);
          folders = record { depths = All-nil (λ (node : Node). is_shallow [] node ≡ true); names = All-nil (λ (node : Node). is_alone are_namesakes [] node ≡ true) };
          active = All-nil (λ (node : Node). is_below_active [] node ≡ true);
        };
        numbers = record {
          projects = All-nil (λ (node : Node). is_alone share_project_id [] node ≡ true);
          nodes = All-nil (λ (node : Node). is_alone share_number [] node ≡ true);
          given = All-nil (λ (node : Node). (1 ≤ node.id.number) × (node.id.number < 1));
          first = lit≤ tt;
          last = lit≤ tt;
        };
        policies = record {
          nodes = All-one (λ (p : AllowPolicy). exists tables p.node ≡ true) policy
              (or_left (same_node (organization_of tables) (organization_of tables)) (is_some (node_at tables.nodes (organization_of tables))) (same_node-itself (organization_of tables)));
          roles = All-one (λ (p : AllowPolicy). All (λ (b : Binding). is_role tables b.role ≡ true) p.bindings) policy
              (All-one (λ (b : Binding). is_role tables b.role ≡ true) binding (rw administrators_have_a_role refl));
        };
        limits = record {
          policies = All-one (λ (p : AllowPolicy). count_members p.bindings ≤ limit_of PolicyMembers) policy (lit≤ tt);
          groups = All-one (λ (p : AllowPolicy). count_groups p.bindings ≤ limit_of PolicyGroups) policy (few_groups opening.admin);
          folders = All-nil (λ (node : Node). count_folders [] node.parent ≤ limit_of ChildFolders);
          nodes = lit≤ tt;
          members = lit≤ tt;
          changes = lit≤ tt;
        };
        sets = All-one (λ (p : AllowPolicy). (1 ≤ p.set) × (p.set ≤ 1)) policy (lit≤ tt, lit≤ tt);
      };
    }
