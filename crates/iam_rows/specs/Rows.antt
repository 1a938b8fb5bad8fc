-- The row of a fact.
use Rattle.std.specs.Prelude.{◌≡◌, ℕ, Bool, List, ◌++◌, Some, None, codes, IsSomeAnd}
use Rattle.std.specs.declared.option.Option.{Option}
use Rattle.std.specs.Fmt.{decimal}
use Rattle.serde_json.specs.Data.{Data, boolean, number, unsigned, string, object, Members, no_members, member}
use Rattle.iam_names.specs.Node.{node_id_text}
use Rattle.iam_names.specs.declared.node.NodeId.{NodeId}
use Rattle.iam_types.specs.declared.allow.AllowPolicy.{AllowPolicy}
use Rattle.iam_types.specs.declared.node.Node.{Node}
use Rattle.iam_types.specs.declared.node.Org.{Org}
use Rattle.iam_types.specs.declared.fact.Fact.{Fact}
use Rattle.iam_types.specs.declared.fact.Fact.TheVariants as fact
use Rattle.iam_model.specs.Parts.{part_of, key_of}
use Rattle.iam_outer.specs.declared.keeper.Row.{Row}
use Rattle.iam_json_data.specs.Printed.{printed, list_data}
use Rattle.iam_json_data.specs.Shown.{binding_data}

-- the form of all rows
abbrev pub schema : ℕ
schema = 1

abbrev pub org_name : ℕ → List ℕ
org_name n = codes "organizations/" ++ decimal n

abbrev pub org_data : Org → Data
org_data org =
    object (member (codes "changes") (number (unsigned org.changes)) (member (codes "customer") (string org.customer)
    (member (codes "domain") (string org.domain) (member (codes "next") (number (unsigned org.next))
    (member (codes "schema") (number (unsigned schema)) no_members)))))

-- the id of a project, where there is one
abbrev pub project_member : Option (List ℕ) → Members
project_member None = no_members
project_member (Some id) = member (codes "project") (string id) no_members

-- a folder, or a project with its id
abbrev pub node_members : Bool → List ℕ → NodeId → Option (List ℕ) → Data
node_members active display parent project =
    object (member (codes "active") (boolean active) (member (codes "display") (string display)
    (member (codes "parent") (string (node_id_text parent)) (project_member project))))

abbrev pub node_data : Node → Data
node_data node = node_members node.active node.display node.parent node.project

abbrev pub policy_data : AllowPolicy → Data
policy_data policy =
    object (member (codes "bindings") (list_data binding_data policy.bindings) (member (codes "set") (number (unsigned policy.set)) no_members))

abbrev pub IsRow : List ℕ → List ℕ → Data → Row → Type 0
IsRow part name shown row = (row.part ≡ part) × (row.name ≡ name) × (row.body ≡ printed shown)

-- what the body of a fact's row shows; nothing of the other kinds is kept yet
abbrev pub data_of : Fact → Option Data
data_of (fact.Org org) = Some (org_data org)
data_of (fact.Node node) = Some (node_data node)
data_of (fact.Key key) = None
data_of (fact.Value value) = None
data_of (fact.Tag binding) = None
data_of (fact.Group email) = None
data_of (fact.Edge edge) = None
data_of (fact.Role role) = None
data_of (fact.Allow policy) = Some (policy_data policy)
data_of (fact.Deny policy) = None
data_of (fact.Boundary boundary) = None
data_of (fact.Bound binding) = None

-- Its part, its key, which is a text for the kinds that are kept, and its body. A fact of a kind that isn't kept has no row.
abbrev pub HasRow : Fact → Row → Type 0
HasRow fact row = (row.part ≡ part_of fact) × (row.name ≡ key_of fact) × IsSomeAnd (data_of fact) (λ shown. row.body ≡ printed shown)
