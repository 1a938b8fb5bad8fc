-- What the tables tell of allow policies.
use Rattle.std.specs.Prelude.{ℕ, ◌||◌, Bool, true, false, not, cond, List, [], ◌∷◌, flat_map, is_some, length, sum_by}
use Rattle.std.specs.declared.option.Option.{Option}
use Rattle.std.specs.List.{find, list_any}
use Rattle.std.specs.Option.{option_map_or}
use Rattle.std.specs.Str.{bytes_eq}
use Rattle.iam_names.specs.declared.member.Member.{Member}
use Rattle.iam_names.specs.declared.member.Member.TheVariants.{Group}
use Rattle.iam_names.specs.declared.node.NodeId.{NodeId}
use Rattle.iam_names.specs.declared.role.RoleName.{RoleName}
use Rattle.iam_types.specs.declared.allow.AllowPolicy.{AllowPolicy}
use Rattle.iam_types.specs.declared.allow.Binding.{Binding}
use Rattle.iam_types.specs.declared.tables.Tables.{Tables}
use Rattle.iam_model.specs.Presets.{is_preset}
use Rattle.iam_model.specs.Same.{same_node, same_role}

-- the policy of a node
abbrev pub policy_of : List AllowPolicy → NodeId → Option AllowPolicy
policy_of allows node = find (λ policy. same_node policy.node node) allows

-- the bindings of a node's policy; a policy that was never set has none
abbrev pub bindings_at : Tables → NodeId → List Binding
bindings_at tables node = option_map_or (λ policy. policy.bindings) (policy_of tables.allows node) []

-- the number of a node's policy, which is 0 where none was set
abbrev pub etag_of : Tables → NodeId → ℕ
etag_of tables node = option_map_or (λ policy. policy.set) (policy_of tables.allows node) 0

-- a predefined role, or a custom one of the tables
abbrev pub is_role : Tables → RoleName → Bool
is_role tables role = is_preset role || list_any (λ custom. same_role custom.name role) tables.roles

-- ---- bindings

abbrev pub is_empty_list : List Member → Bool
is_empty_list [] = true
is_empty_list (member ∷ members) = false

abbrev pub has_members : Binding → Bool
has_members binding = not (is_empty_list binding.members)

abbrev pub any_conditional : List Binding → Bool
any_conditional bindings = list_any (λ binding. is_some binding.condition) bindings

-- ---- counts

-- member appearances
abbrev pub count_members : List Binding → ℕ
count_members bindings = sum_by (λ binding. length binding.members) bindings

abbrev pub count_all_members : List AllowPolicy → ℕ
count_all_members allows = sum_by (λ policy. count_members policy.bindings) allows

-- the group that a member names, alone or none
abbrev pub group_of : Member → List (List ℕ)
group_of (Group email) = email ∷ []
group_of member = []

-- the groups that a policy names, as often as they stand there
abbrev pub groups_in : List Binding → List (List ℕ)
groups_in bindings = flat_map (λ binding. flat_map group_of binding.members) bindings

-- the texts, each once
abbrev pub different : List (List ℕ) → List (List ℕ)
different [] = []
different (text ∷ texts) = cond (list_any (bytes_eq text) texts) (different texts) (text ∷ different texts)

-- different groups
abbrev pub count_groups : List Binding → ℕ
count_groups bindings = length (different (groups_in bindings))
