-- The setting of an allow policy.
use Rattle.std.specs.Prelude.{◌≡◌, ℕ, ◌+◌, Bool, not, ◌&&◌, ◌||◌, nat_lt, List, [], ◌∷◌, filter, is_some, None, All}
use Rattle.std.specs.declared.option.Option.{Option}
use Rattle.std.specs.List.{find}
use Rattle.std.specs.Option.{option_map, option_map_or}
use Rattle.iam_text.specs.Put.{put}
use Rattle.iam_names.specs.Member.{IsMember}
use Rattle.iam_names.specs.Node.{IsNodeName}
use Rattle.iam_names.specs.Role.{IsRoleName}
use Rattle.iam_names.specs.declared.node.NodeId.{NodeId}
use Rattle.iam_names.specs.declared.node.NodeName.{NodeName}
use Rattle.iam_types.specs.declared.allow.AllowPolicy.{AllowPolicy}
use Rattle.iam_types.specs.declared.allow.Binding.{Binding}
use Rattle.iam_types.specs.declared.fact.Fact.TheVariants as fact
use Rattle.iam_types.specs.declared.fact.FactChange.{FactChange}
use Rattle.iam_types.specs.declared.fact.FactChange.TheVariants.{Put}
use Rattle.iam_types.specs.declared.refusal.LimitName.TheVariants.{PolicyMembers, PolicyGroups, Members}
use Rattle.iam_types.specs.declared.refusal.Refusal.{Refusal}
use Rattle.iam_types.specs.declared.refusal.Refusal.TheVariants.{RoleUnknown, Version}
use Rattle.iam_types.specs.declared.tables.Tables.{Tables}
use Rattle.iam_model.specs.Limits.{beyond}
use Rattle.iam_model.specs.Meaning.{Meaning}
use Rattle.iam_model.specs.Nodes.{resolve}
use Rattle.iam_model.specs.Part.{order_in}
use Rattle.iam_model.specs.Parts.{allow_part}
use Rattle.iam_model.specs.Policies.{any_conditional, bindings_at, count_all_members, count_groups, count_members, etag_of, has_members, is_role}
use Rattle.iam_model.specs.Refusals.{refused_if}
use Rattle.iam_model.specs.Shared.{changed, inactive, is_version, many_changes, missing, other_etag, with_node}

-- a binding as a request gives it: it may be without members, and has no condition yet
pub record IsGiven (binding : Binding) : Type 0 where
  pub role : IsRoleName binding.role
  pub members : All IsMember binding.members
  pub unconditional : binding.condition ≡ None

-- ---- what it leads to

-- The policy of a node, with the bindings that have members, in their order. A policy without bindings stays.
abbrev pub policy_after : Tables → NodeId → List Binding → AllowPolicy
policy_after tables node bindings = record { node = node; bindings = filter has_members bindings; set = tables.org.changes + 1 }

abbrev pub set_policy : Tables → NodeId → List Binding → Tables
set_policy tables node bindings = record tables {
  org = changed tables.org;
  allows = put (order_in allow_part) (policy_after tables node bindings) tables.allows;
}

-- the policy is put, and the organisation with one more change
abbrev pub set_changes : Tables → NodeId → List Binding → List FactChange
set_changes tables node bindings = Put (fact.Allow (policy_after tables node bindings)) ∷ Put (fact.Org (changed tables.org)) ∷ []

-- ---- what is refused

-- a condition is given, or one is stored and the etag is given
abbrev pub needs_third : Tables → NodeId → Option ℕ → List Binding → Bool
needs_third tables node etag bindings = any_conditional bindings || (is_some etag && any_conditional (bindings_at tables node))

-- no version of policies, or one without conditions where it needs the third
abbrev pub is_wrong_version : Tables → NodeId → ℕ → Option ℕ → List Binding → Bool
is_wrong_version tables node version etag bindings = not (is_version version) || (nat_lt version 3 && needs_third tables node etag bindings)

abbrev pub wrong_version : Tables → NodeId → ℕ → Option ℕ → List Binding → Option Refusal
wrong_version tables node version etag bindings = refused_if (is_wrong_version tables node version etag bindings) (Version version)

-- a role isn't known, the first one
abbrev pub unknown_role : Tables → List Binding → Option Refusal
unknown_role tables bindings = option_map (λ binding. RoleUnknown binding.role) (find (λ binding. not (is_role tables binding.role)) bindings)

-- the etag and the version
abbrev pub early_rules : Tables → NodeId → ℕ → Option ℕ → List Binding → List (Option Refusal)
early_rules tables node version etag bindings = other_etag (etag_of tables node) etag ∷ wrong_version tables node version etag bindings ∷ []

-- the roles, and what the policy itself counts
abbrev pub middle_rules : Tables → List Binding → List (Option Refusal)
middle_rules tables bindings =
    unknown_role tables bindings ∷ beyond (count_members bindings) PolicyMembers ∷ beyond (count_groups bindings) PolicyGroups ∷ []

-- what all tables count
abbrev pub late_rules : Tables → NodeId → List Binding → List (Option Refusal)
late_rules tables node bindings = beyond (count_all_members (set_policy tables node bindings).allows) Members ∷ many_changes tables ∷ []

-- ---- what it means

abbrev pub set_allow : NodeName → ℕ → Option ℕ → List Binding → Meaning
set_allow name version etag bindings = record {
  given = IsNodeName name × All IsGiven bindings;
  rules = λ moment tables. record {
    names = missing tables name ∷ [];
    active = with_node tables name (λ node. inactive tables name node ∷ []);
    fresh = [];
    early = with_node tables name (λ node. early_rules tables node version etag bindings);
    middle = with_node tables name (λ node. middle_rules tables bindings);
    late = with_node tables name (λ node. late_rules tables node bindings);
  };
  after = λ moment tables. option_map_or (λ node. set_policy tables node bindings) (resolve tables name) tables;
  changes = λ moment tables. option_map_or (λ node. set_changes tables node bindings) (resolve tables name) [];
}
