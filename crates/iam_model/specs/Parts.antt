-- The parts of the facts, one for each list of the tables and one for the organisation.
use Rattle.std.specs.Prelude.{ℕ, List, [], ◌∷◌, ◌++◌, Some, None, codes}
use Rattle.std.specs.declared.option.Option.{Option}
use Rattle.iam_names.specs.Member.{member_text}
use Rattle.iam_names.specs.Node.{node_id_text}
use Rattle.iam_names.specs.Role.{role_text}
use Rattle.iam_names.specs.declared.member.Leaf.{Leaf}
use Rattle.iam_names.specs.declared.member.Leaf.TheVariants as leaf
use Rattle.iam_names.specs.declared.member.Member.TheVariants.{User, Service, Group}
use Rattle.iam_types.specs.declared.allow.AllowPolicy.{AllowPolicy}
use Rattle.iam_types.specs.declared.boundary.Boundary.{Boundary}
use Rattle.iam_types.specs.declared.boundary.BoundaryBinding.{BoundaryBinding}
use Rattle.iam_types.specs.declared.deny.DenyPolicy.{DenyPolicy}
use Rattle.iam_types.specs.declared.fact.Fact.{Fact}
use Rattle.iam_types.specs.declared.fact.Fact.TheVariants as fact
use Rattle.iam_types.specs.declared.group.Edge.{Edge}
use Rattle.iam_types.specs.declared.node.Node.{Node}
use Rattle.iam_types.specs.declared.node.Org.{Org}
use Rattle.iam_types.specs.declared.role.Role.{Role}
use Rattle.iam_types.specs.declared.tag.TagBinding.{TagBinding}
use Rattle.iam_types.specs.declared.tag.TagKey.{TagKey}
use Rattle.iam_types.specs.declared.tag.TagValue.{TagValue}
use Rattle.iam_model.specs.Nodes.{node_of_org}
use Rattle.iam_model.specs.Part.{Part}

-- what stands between the parts of a name
abbrev pub space : ℕ
space = 32

abbrev pub leaf_text : Leaf → List ℕ
leaf_text (leaf.User email) = member_text (User email)
leaf_text (leaf.Service email) = member_text (Service email)
leaf_text (leaf.Group email) = member_text (Group email)

abbrev pub out_allow : Fact → Option AllowPolicy
out_allow (fact.Allow row) = Some row
out_allow other = None

-- allow policies, by their nodes
abbrev pub allow_part : Part AllowPolicy
allow_part = record { name = codes "allow"; wrap = λ row. fact.Allow row; out = out_allow; key = λ row. node_id_text row.node }

abbrev pub out_bound : Fact → Option BoundaryBinding
out_bound (fact.Bound row) = Some row
out_bound other = None

-- bindings of boundary policies, by their nodes and ids
abbrev pub bound_part : Part BoundaryBinding
bound_part = record { name = codes "bound"; wrap = λ row. fact.Bound row; out = out_bound; key = λ row. node_id_text row.node ++ space ∷ row.id }

abbrev pub out_boundary : Fact → Option Boundary
out_boundary (fact.Boundary row) = Some row
out_boundary other = None

-- boundary policies, by their ids
abbrev pub boundary_part : Part Boundary
boundary_part = record { name = codes "boundary"; wrap = λ row. fact.Boundary row; out = out_boundary; key = λ row. row.id }

abbrev pub out_deny : Fact → Option DenyPolicy
out_deny (fact.Deny row) = Some row
out_deny other = None

-- deny policies, by their nodes and ids
abbrev pub deny_part : Part DenyPolicy
deny_part = record { name = codes "deny"; wrap = λ row. fact.Deny row; out = out_deny; key = λ row. node_id_text row.node ++ space ∷ row.id }

abbrev pub out_edge : Fact → Option Edge
out_edge (fact.Edge row) = Some row
out_edge other = None

-- memberships, by their groups and members
abbrev pub edge_part : Part Edge
edge_part = record { name = codes "edge"; wrap = λ row. fact.Edge row; out = out_edge; key = λ row. row.group ++ space ∷ leaf_text row.member }

abbrev pub out_group : Fact → Option (List ℕ)
out_group (fact.Group row) = Some row
out_group other = None

-- groups, by their emails
abbrev pub group_part : Part (List ℕ)
group_part = record { name = codes "group"; wrap = λ row. fact.Group row; out = out_group; key = λ row. row }

abbrev pub out_key : Fact → Option TagKey
out_key (fact.Key row) = Some row
out_key other = None

-- tag keys, by their numbers, which rows tell in 19 digits
abbrev pub key_part : Part TagKey
key_part = record { name = codes "key"; wrap = λ row. fact.Key row; out = out_key; key = λ row. row.number ∷ [] }

abbrev pub out_node : Fact → Option Node
out_node (fact.Node row) = Some row
out_node other = None

-- nodes, by their names
abbrev pub node_part : Part Node
node_part = record { name = codes "node"; wrap = λ row. fact.Node row; out = out_node; key = λ row. node_id_text row.id }

abbrev pub out_org : Fact → Option Org
out_org (fact.Org row) = Some row
out_org other = None

-- organisations, by their names
abbrev pub org_part : Part Org
org_part = record { name = codes "org"; wrap = λ row. fact.Org row; out = out_org; key = λ row. node_id_text (node_of_org row) }

abbrev pub out_role : Fact → Option Role
out_role (fact.Role row) = Some row
out_role other = None

-- roles, by their names
abbrev pub role_part : Part Role
role_part = record { name = codes "role"; wrap = λ row. fact.Role row; out = out_role; key = λ row. role_text row.name }

abbrev pub out_tag : Fact → Option TagBinding
out_tag (fact.Tag row) = Some row
out_tag other = None

-- bound tags, by their nodes and values, whose numbers rows tell in 19 digits
abbrev pub tag_part : Part TagBinding
tag_part = record { name = codes "tag"; wrap = λ row. fact.Tag row; out = out_tag; key = λ row. node_id_text row.node ++ space ∷ row.value ∷ [] }

abbrev pub out_value : Fact → Option TagValue
out_value (fact.Value row) = Some row
out_value other = None

-- tag values, by their numbers, which rows tell in 19 digits
abbrev pub value_part : Part TagValue
value_part = record { name = codes "value"; wrap = λ row. fact.Value row; out = out_value; key = λ row. row.number ∷ [] }

-- the part of a fact
abbrev pub part_of : Fact → List ℕ
part_of (fact.Org row) = org_part.name
part_of (fact.Node row) = node_part.name
part_of (fact.Key row) = key_part.name
part_of (fact.Value row) = value_part.name
part_of (fact.Tag row) = tag_part.name
part_of (fact.Group row) = group_part.name
part_of (fact.Edge row) = edge_part.name
part_of (fact.Role row) = role_part.name
part_of (fact.Allow row) = allow_part.name
part_of (fact.Deny row) = deny_part.name
part_of (fact.Boundary row) = boundary_part.name
part_of (fact.Bound row) = bound_part.name

-- its key in its part
abbrev pub key_of : Fact → List ℕ
key_of (fact.Org row) = org_part.key row
key_of (fact.Node row) = node_part.key row
key_of (fact.Key row) = key_part.key row
key_of (fact.Value row) = value_part.key row
key_of (fact.Tag row) = tag_part.key row
key_of (fact.Group row) = group_part.key row
key_of (fact.Edge row) = edge_part.key row
key_of (fact.Role row) = role_part.key row
key_of (fact.Allow row) = allow_part.key row
key_of (fact.Deny row) = deny_part.key row
key_of (fact.Boundary row) = boundary_part.key row
key_of (fact.Bound row) = bound_part.key row
