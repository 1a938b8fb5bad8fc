-- Things, and the operations that made them, as JSON.
use Rattle.std.specs.Prelude.{ℕ, true, List, ◌++◌, codes}
use Rattle.std.specs.Fmt.{decimal}
use Rattle.serde_json.specs.Data.{Data, boolean, string, object, no_members, member}
use Rattle.iam_names.specs.Node.{node_id_text}
use Rattle.iam_names.specs.declared.node.NodeKind.TheVariants as kind
use Rattle.iam_types.specs.declared.answer.Resource.{Resource}
use Rattle.iam_types.specs.declared.answer.Resource.TheVariants.{Organization, Node, TagKey, TagValue, TagBinding, DenyPolicy, Boundary, BoundaryBinding, Nothing}
use Rattle.iam_json_data.specs.Shown.{node_data, state_text}

-- an organisation is called by its domain, and is always active
abbrev pub organization_data : ℕ → List ℕ → List ℕ → Data
organization_data number domain customer =
    object (member (codes "directoryCustomerId") (string customer) (member (codes "displayName") (string domain)
    (member (codes "name") (string (node_id_text (record { kind = kind.Organization; number = number })))
    (member (codes "state") (string (state_text true)) no_members))))

-- a thing; the kinds that no call gives yet are `{}`, and so is what is shown of a thing that is gone
abbrev pub resource_data : Resource → Data
resource_data (Organization number domain customer) = organization_data number domain customer
resource_data (Node node) = node_data node
resource_data (TagKey organization key) = object no_members
resource_data (TagValue organization short value) = object no_members
resource_data (TagBinding binding) = object no_members
resource_data (DenyPolicy policy) = object no_members
resource_data (Boundary organization boundary) = object no_members
resource_data (BoundaryBinding organization binding) = object no_members
resource_data Nothing = object no_members

-- a finished operation, which has the number of the change that it made in its name
abbrev pub operation_data : ℕ → Resource → Data
operation_data revision response =
    object (member (codes "done") (boolean true) (member (codes "name") (string (codes "operations/" ++ decimal revision))
    (member (codes "response") (resource_data response) no_members)))
