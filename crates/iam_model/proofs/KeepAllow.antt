-- A policy that is set keeps the tables consistent.
use Rattle.std.proofs.Common.{◌≡◌, ℕ, ◌+◌, ◌≤◌, true, false, not, cond, List, [], ◌∷◌, ◌++◌, filter, length, Some, None, refl, sym, ap, subst, ◌∙◌, arith}
use Rattle.std.specs.List.{All, find, flat_map}
use Rattle.std.specs.Option.{option_map, option_map_or}
use Rattle.std.specs.declared.option.Option.{Option}
use Rattle.std.proofs.lemmas.Cmp.{nat_list_cmp_total, tied_itself}
use Rattle.std.proofs.lemmas.List.Elements.{All-cons, All-head, All-tail, All-nil, All-filter, All-weaker}
use Rattle.std.proofs.lemmas.List.Sums.{sum_by-cons}
use Rattle.iam_text.specs.Put.{put}
use Rattle.iam_text.specs.declared.moment.Moment.{Moment}
use Rattle.iam_text.proofs.InOrder.{All-put}
use Rattle.iam_names.specs.declared.member.Member.{Member}
use Rattle.iam_names.specs.declared.node.NodeId.{NodeId}
use Rattle.iam_names.specs.declared.node.NodeName.{NodeName}
use Rattle.iam_types.specs.declared.allow.AllowPolicy.{AllowPolicy}
use Rattle.iam_types.specs.declared.allow.Binding.{Binding}
use Rattle.iam_types.specs.declared.fact.Fact.TheVariants as fact
use Rattle.iam_types.specs.declared.fact.FactChange.TheVariants.{Put}
use Rattle.iam_types.specs.declared.node.Org.{Org}
use Rattle.iam_types.specs.declared.refusal.LimitName.TheVariants.{PolicyMembers, PolicyGroups, Members, Changes}
use Rattle.iam_types.specs.declared.refusal.Refusal.TheVariants.{RoleUnknown}
use Rattle.iam_types.specs.declared.tables.Tables.{Tables}
use Rattle.iam_model.specs.Allow.{IsGiven, late_rules, middle_rules, policy_after, set_allow, set_changes, set_policy, unknown_role}
use Rattle.iam_model.specs.Consistent.{Consistent, Keeps}
use Rattle.iam_model.specs.Facts.{fact_order, facts_of, sections_with, with_changes}
use Rattle.iam_model.specs.Formed.{IsChange, IsStored}
use Rattle.iam_model.specs.Limits.{limit_of}
use Rattle.iam_model.specs.Nodes.{exists, resolve}
use Rattle.iam_model.specs.Part.{order_in}
use Rattle.iam_model.specs.Parts.{allow_part, org_part}
use Rattle.iam_model.specs.Policies.{count_all_members, count_groups, count_members, different, group_of, groups_in, has_members, is_empty_list, is_role}
use Rattle.iam_model.specs.Refusals.{first_of, first_refusal, nothing_asked}
use Rattle.iam_model.specs.Sections.{all_facts}
use Rattle.iam_model.specs.Shared.{changed, missing}
use Rattle.iam_model.proofs.Existing.{existing_formed, not_missing, resolved_exists}
use Rattle.iam_model.proofs.Fitting.{Fine, Leads, changed_formed, fine, first_of-None, org_put, within_limit}
use Rattle.iam_model.proofs.Parts.{put_allow, put_org}

-- what is kept of the given bindings can be stored
pub kept_stored : (bindings : List Binding) → All IsGiven bindings → All IsStored (filter has_members bindings)
kept_stored [] given = All-nil IsStored
kept_stored (binding ∷ bindings) given =
    let first : IsGiven binding = All-head IsGiven binding bindings given in
    let more : All IsStored (filter has_members bindings) = kept_stored bindings (All-tail IsGiven binding bindings given) in
    elim (has_members binding) as (λ b. has_members binding ≡ b → All IsStored (filter has_members (binding ∷ bindings))) [
      | true ↦ λ is. rw is (All-cons IsStored binding (filter has_members bindings) (record { role = first.role; members = first.members; some = is; unconditional = first.unconditional }) more)
      | false ↦ λ is. rw is more
    ] refl

-- the bindings that are kept have no more members
kept_counts : (bindings : List Binding) → count_members (filter has_members bindings) ≤ count_members bindings
kept_counts [] = omega arith
kept_counts (binding ∷ bindings) =
    let more : count_members (filter has_members bindings) ≤ count_members bindings = kept_counts bindings in
    let all : count_members (binding ∷ bindings) ≡ length binding.members + count_members bindings = sum_by-cons (λ (b : Binding). length b.members) binding bindings in
    let kept : count_members (binding ∷ filter has_members bindings) ≡ length binding.members + count_members (filter has_members bindings) = sum_by-cons (λ (b : Binding). length b.members) binding (filter has_members bindings) in
    elim (has_members binding) as (λ b. has_members binding ≡ b → count_members (filter has_members (binding ∷ bindings)) ≤ count_members (binding ∷ bindings)) [
      | true ↦ λ is. rw (is, all, kept) (omega (arith, more))
      | false ↦ λ is. rw (is, all) (omega (arith, more))
    ] refl

no_groups : (members : List Member) → not (is_empty_list members) ≡ false → flat_map group_of members ≡ []
no_groups [] h = refl
no_groups (member ∷ members) h = absurd (cc)

-- the bindings that are kept name the same groups
kept_groups : (bindings : List Binding) → groups_in (filter has_members bindings) ≡ groups_in bindings
kept_groups [] = refl
kept_groups (binding ∷ bindings) =
    elim (has_members binding) as (λ b. has_members binding ≡ b → groups_in (filter has_members (binding ∷ bindings)) ≡ groups_in (binding ∷ bindings)) [
      | true ↦ λ is. rw is (ap (λ (groups : List (List ℕ)). flat_map group_of binding.members ++ groups) (kept_groups bindings))
      | false ↦ λ is. rw is (kept_groups bindings ∙ sym (ap (λ (groups : List (List ℕ)). groups ++ groups_in bindings) (no_groups binding.members is)))
    ] refl

kept_counts_groups : (bindings : List Binding) → count_groups (filter has_members bindings) ≡ count_groups bindings
kept_counts_groups bindings = ap (λ (groups : List (List ℕ)). length (different groups)) (kept_groups bindings)

-- where no role is unknown, all are known
known_roles : (tables : Tables) (bindings : List Binding) → unknown_role tables bindings ≡ None → All (λ binding. is_role tables binding.role ≡ true) bindings
known_roles tables [] none = All-nil (λ (binding : Binding). is_role tables binding.role ≡ true)
known_roles tables (binding ∷ bindings) none =
    elim (is_role tables binding.role) as (λ b. is_role tables binding.role ≡ b → option_map (λ (b : Binding). RoleUnknown b.role) (cond (not b) (Some binding) (find (λ (b : Binding). not (is_role tables b.role)) bindings)) ≡ None → All (λ (b : Binding). is_role tables b.role ≡ true) (binding ∷ bindings)) [
      | true ↦ λ is h. All-cons (λ (b : Binding). is_role tables b.role ≡ true) binding bindings is (known_roles tables bindings h)
      | false ↦ λ is h. absurd (cc)
    ] refl none

-- ---- the tables with another policy

set_keeps : (tables : Tables) (node : NodeId) (bindings : List Binding) → Keeps tables → exists tables node ≡ true
    → unknown_role tables bindings ≡ None → count_members bindings ≤ limit_of PolicyMembers → count_groups bindings ≤ limit_of PolicyGroups
    → count_all_members (set_policy tables node bindings).allows ≤ limit_of Members → tables.org.changes + 1 ≤ limit_of Changes → Keeps (set_policy tables node bindings)
set_keeps tables node bindings keeps there roles few few_groups all_few changes =
    let policy : AllowPolicy = policy_after tables node bindings in
    let counts : count_members (filter has_members bindings) ≤ count_members bindings = kept_counts bindings in
    record {
      hierarchy = record {
        parents = keeps.hierarchy.parents;
        folders = record { depths = keeps.hierarchy.folders.depths; names = keeps.hierarchy.folders.names };
        active = keeps.hierarchy.active;
      };
      numbers = record {
        projects = keeps.numbers.projects;
        nodes = keeps.numbers.nodes;
        given = keeps.numbers.given;
        first = keeps.numbers.first;
        last = omega (arith, keeps.numbers.last);
      };
      policies = record {
        nodes = All-put (λ (p : AllowPolicy). exists tables p.node ≡ true) (order_in allow_part) policy tables.allows there keeps.policies.nodes;
        roles = All-put (λ (p : AllowPolicy). All (λ (b : Binding). is_role tables b.role ≡ true) p.bindings) (order_in allow_part) policy tables.allows
            (All-filter has_members (λ (b : Binding). is_role tables b.role ≡ true) bindings (known_roles tables bindings roles)) keeps.policies.roles;
      };
      limits = record {
        policies = All-put (λ (p : AllowPolicy). count_members p.bindings ≤ limit_of PolicyMembers) (order_in allow_part) policy tables.allows (omega (arith, counts, few)) keeps.limits.policies;
        groups = All-put (λ (p : AllowPolicy). count_groups p.bindings ≤ limit_of PolicyGroups) (order_in allow_part) policy tables.allows (subst (λ (n : ℕ). n ≤ limit_of PolicyGroups) (sym (kept_counts_groups bindings)) few_groups) keeps.limits.groups;
        folders = keeps.limits.folders;
        nodes = keeps.limits.nodes;
        members = all_few;
        changes = changes;
      };
      sets = All-put (λ (p : AllowPolicy). (1 ≤ p.set) × (p.set ≤ tables.org.changes + 1)) (order_in allow_part) policy tables.allows (omega arith, omega arith)
          (All-weaker (λ (p : AllowPolicy). (1 ≤ p.set) × (p.set ≤ tables.org.changes)) (λ (p : AllowPolicy). (1 ≤ p.set) × (p.set ≤ tables.org.changes + 1)) (λ p set. (set.0, omega (arith, set.1))) tables.allows keeps.sets);
    }

set_leads : (tables : Tables) (node : NodeId) (bindings : List Binding) → with_changes (facts_of tables) (set_changes tables node bindings) ≡ facts_of (set_policy tables node bindings)
set_leads tables node bindings =
    let policy : AllowPolicy = policy_after tables node bindings in
    let put_there : Tables = record tables { allows = put (order_in allow_part) policy tables.allows } in
    ap (put fact_order (fact.Org (changed tables.org))) (put_allow policy (tables.org ∷ []) tables)
    ∙ put_org (changed tables.org) (tables.org ∷ []) put_there
    ∙ ap (λ (orgs : List Org). all_facts (sections_with orgs put_there)) (org_put tables.org (changed tables.org) (tied_itself nat_list_cmp_total (org_part.key tables.org)))

set_formed : (tables : Tables) (node : NodeId) (bindings : List Binding) → Consistent tables → exists tables node ≡ true → All IsGiven bindings → All IsChange (set_changes tables node bindings)
set_formed tables node bindings consistent there given =
    let limit = consistent.keeps.limits.changes in
    All-cons IsChange (Put (fact.Allow (policy_after tables node bindings))) (Put (fact.Org (changed tables.org)) ∷ [])
    (record { node = existing_formed tables node consistent there; bindings = kept_stored bindings given; set = omega (arith, limit) })
    (All-cons IsChange (Put (fact.Org (changed tables.org))) [] (changed_formed tables consistent) (All-nil IsChange))

-- what a fitting command leads to at a node that is there
set_at : (tables : Tables) (node : NodeId) (bindings : List Binding) → Consistent tables → All IsGiven bindings → exists tables node ≡ true
    → first_of (middle_rules tables bindings) ≡ None → first_of (late_rules tables node bindings) ≡ None → Leads tables (set_changes tables node bindings) (set_policy tables node bindings)
set_at tables node bindings consistent given there middle late =
    let roles = first_of-None _ _ middle in
    let few = first_of-None _ _ roles.1 in
    let groups = first_of-None _ _ few.1 in
    let members = first_of-None _ _ late in
    let changes = first_of-None _ _ members.1 in
    record {
      formed = set_formed tables node bindings consistent there given;
      leads = set_leads tables node bindings;
      keeps = set_keeps tables node bindings consistent.keeps there roles.0
          (within_limit (count_members bindings) PolicyMembers few.0)
          (within_limit (count_groups bindings) PolicyGroups groups.0)
          (within_limit (count_all_members (set_policy tables node bindings).allows) Members members.0)
          (within_limit (tables.org.changes + 1) Changes changes.0);
      counted = refl;
    }

pub set_fits : (tables : Tables) (moment : Moment) (name : NodeName) (version : ℕ) (etag : Option ℕ) (bindings : List Binding) → Consistent tables → All IsGiven bindings
    → first_refusal ((set_allow name version etag bindings).rules moment tables) nothing_asked ≡ None
    → Leads tables ((set_allow name version etag bindings).changes moment tables) ((set_allow name version etag bindings).after moment tables)
set_fits tables moment name version etag bindings consistent given fits =
    let are : Fine ((set_allow name version etag bindings).rules moment tables) nothing_asked = fine ((set_allow name version etag bindings).rules moment tables) nothing_asked fits in
    go (resolve tables name) refl (first_of-None (missing tables name) [] are.names).0 are.middle are.late
  where
    go : (o : Option NodeId) → resolve tables name ≡ o → missing tables name ≡ None → first_of (option_map_or (λ node. middle_rules tables bindings) o []) ≡ None → first_of (option_map_or (λ node. late_rules tables node bindings) o []) ≡ None
        → Leads tables (option_map_or (λ node. set_changes tables node bindings) o []) (option_map_or (λ node. set_policy tables node bindings) o tables)
    go None is there middle late = absurd (not_missing tables name is there)
    go (Some node) is there middle late = set_at tables node bindings consistent given (resolved_exists tables name node is) middle late
