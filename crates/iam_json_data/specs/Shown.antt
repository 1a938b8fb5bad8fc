-- What names, conditions, bindings and nodes are shown as.
use Rattle.std.specs.Prelude.{ℕ, List, Bool, true, false, Option, Some, None, codes}
use Rattle.serde_json.specs.Data.{Data, string, object, Members, no_members, member}
use Rattle.iam_names.specs.Permission.{permission_text}
use Rattle.iam_names.specs.declared.member.Member.{Member}
use Rattle.iam_names.specs.Member.{member_text}
use Rattle.iam_names.specs.Node.{node_id_text}
use Rattle.iam_names.specs.Role.{role_text}
use Rattle.iam_types.specs.declared.allow.Binding.{Binding}
use Rattle.iam_types.specs.declared.allow.Condition.{Condition}
use Rattle.iam_types.specs.declared.node.Node.{Node}
use Rattle.iam_json_data.specs.Printed.{list_data}

abbrev pub permission_data : List ℕ → Data
permission_data permission = string (permission_text permission)

abbrev pub member_data : Member → Data
member_data m = string (member_text m)

abbrev pub condition_data : Condition → Data
condition_data condition =
    object (member (codes "description") (string condition.description) (member (codes "expression") (string condition.expression)
    (member (codes "title") (string condition.title) no_members)))

-- a condition is shown where there is one
abbrev pub with_condition : Option Condition → Members → Members
with_condition None members = members
with_condition (Some condition) members = member (codes "condition") (condition_data condition) members

abbrev pub binding_data : Binding → Data
binding_data binding =
    object (with_condition binding.condition (member (codes "members") (list_data member_data binding.members)
    (member (codes "role") (string (role_text binding.role)) no_members)))

-- ---- nodes

abbrev pub state_text : Bool → List ℕ
state_text true = codes "ACTIVE"
state_text false = codes "DELETE_REQUESTED"

-- a project shows its id
abbrev pub with_project : Option (List ℕ) → Members → Members
with_project None members = members
with_project (Some id) members = member (codes "projectId") (string id) members

-- a folder or a project, by what is shown of it
abbrev pub shown_node : List ℕ → List ℕ → List ℕ → Option (List ℕ) → List ℕ → Data
shown_node display name parent project state =
    object (member (codes "displayName") (string display) (member (codes "name") (string name) (member (codes "parent") (string parent)
    (with_project project (member (codes "state") (string state) no_members)))))

-- it and its parent are named by their numbers
abbrev pub node_data : Node → Data
node_data node = shown_node node.display (node_id_text node.id) (node_id_text node.parent) node.project (state_text node.active)
