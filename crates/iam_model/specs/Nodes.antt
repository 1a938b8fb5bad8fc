-- Nodes of the hierarchy: which there are, and what stands above them and below.
use Rattle.std.specs.Prelude.{ℕ, zero, suc, Bool, false, true, cond, ◌==◌, ◌&&◌, ◌||◌, List, [], ◌∷◌, Some, None, filter, is_some, length, reverse}
use Rattle.std.specs.declared.option.Option.{Option}
use Rattle.std.specs.declared.cmp.Ordering.{Ordering}
use Rattle.std.specs.List.{find, list_any}
use Rattle.std.specs.Option.{option_map, option_map_or}
use Rattle.std.specs.Ordering.{nat_cmp}
use Rattle.std.specs.Str.{bytes_eq}
use Rattle.iam_text.specs.Put.{placed}
use Rattle.iam_names.specs.declared.node.NodeKind.{NodeKind}
use Rattle.iam_names.specs.declared.node.NodeKind.TheVariants.{Organization as AnOrganization, Folder as AFolder, Project as AProject}
use Rattle.iam_names.specs.declared.node.NodeId.{NodeId}
use Rattle.iam_names.specs.declared.node.NodeName.{NodeName}
use Rattle.iam_names.specs.declared.node.NodeName.TheVariants.{Organization, Folder, ProjectNumber, ProjectId}
use Rattle.iam_types.specs.declared.node.Node.{Node}
use Rattle.iam_types.specs.declared.node.Org.{Org}
use Rattle.iam_types.specs.declared.tables.Tables.{Tables}
use Rattle.iam_model.specs.Same.{same_kind, same_node}

abbrev pub node_of_org : Org → NodeId
node_of_org org = record { kind = AnOrganization; number = org.number }

abbrev pub organization_of : Tables → NodeId
organization_of tables = node_of_org tables.org

abbrev pub is_folder : NodeId → Bool
is_folder node = same_kind node.kind AFolder

abbrev pub is_project : NodeId → Bool
is_project node = same_kind node.kind AProject

-- ---- which there are

-- the row of a folder or a project; the organisation has none
abbrev pub node_at : List Node → NodeId → Option Node
node_at nodes node = find (λ row. same_node row.id node) nodes

-- it's the row of the project with this id
abbrev pub has_project_id : List ℕ → Node → Bool
has_project_id id row = option_map_or (λ own. bytes_eq own id) row.project false

-- the row of the project with an id
abbrev pub project_with : List Node → List ℕ → Option Node
project_with nodes id = find (has_project_id id) nodes

abbrev pub exists : Tables → NodeId → Bool
exists tables node = same_node node (organization_of tables) || is_some (node_at tables.nodes node)

-- the node of a row that was found
abbrev pub found_node : Option Node → Option NodeId
found_node found = option_map (λ row. row.id) found

-- the node of a name, if it is there
abbrev pub resolve : Tables → NodeName → Option NodeId
resolve tables (Organization number) = cond (number == tables.org.number) (Some (organization_of tables)) None
resolve tables (Folder number) = found_node (node_at tables.nodes (record { kind = AFolder; number = number }))
resolve tables (ProjectNumber number) = found_node (node_at tables.nodes (record { kind = AProject; number = number }))
resolve tables (ProjectId id) = found_node (project_with tables.nodes id)

-- what a name says that its node is
abbrev pub kind_named : NodeName → NodeKind
kind_named (Organization number) = AnOrganization
kind_named (Folder number) = AFolder
kind_named (ProjectNumber number) = AProject
kind_named (ProjectId id) = AProject

-- the row of a name, if it is there; the organisation has none
abbrev pub row_named : Tables → NodeName → Option Node
row_named tables (Organization number) = None
row_named tables (Folder number) = node_at tables.nodes (record { kind = AFolder; number = number })
row_named tables (ProjectNumber number) = node_at tables.nodes (record { kind = AProject; number = number })
row_named tables (ProjectId id) = project_with tables.nodes id

-- ---- what stands above

-- the parent of a folder or a project; the organisation has none
abbrev pub parent_of : List Node → NodeId → Option NodeId
parent_of nodes node = option_map (λ row. row.parent) (node_at nodes node)

-- the organisation always is
abbrev pub is_active : List Node → NodeId → Bool
is_active nodes node = option_map_or (λ row. row.active) (node_at nodes node) true

-- a node, its parent, the parent of that and so on, at most so many of them
abbrev pub climb : ℕ → List Node → NodeId → List NodeId
climb zero nodes node = []
climb (suc more) nodes node = node ∷ option_map_or (climb more nodes) (parent_of nodes node) []

-- the most nodes of a path: the organisation, ten folders and a project
abbrev pub longest_path : ℕ
longest_path = 12

-- the nodes from a node up to the organisation
unfoldable pub way_up : List Node → NodeId → List NodeId
way_up nodes node = climb longest_path nodes node

-- the nodes from the organisation down to a node
abbrev pub path : Tables → NodeId → List NodeId
path tables node = reverse (way_up tables.nodes node)

-- how deep a folder stands whose parent this is: 1 below the organisation
abbrev pub depth_below : List Node → NodeId → ℕ
depth_below nodes parent = length (way_up nodes parent)

-- ---- what stands below

abbrev pub is_active_child : NodeKind → NodeId → Node → Bool
is_active_child kind parent row = row.active && same_kind row.id.kind kind && same_node row.parent parent

abbrev pub active_children : List Node → NodeKind → NodeId → List Node
active_children nodes kind parent = filter (is_active_child kind parent) nodes

-- anything ACTIVE
abbrev pub has_active_child : List Node → NodeId → Bool
has_active_child nodes parent = list_any (λ row. row.active && same_node row.parent parent) nodes

abbrev pub number_order : Node → Node → Ordering
number_order a b = nat_cmp a.id.number b.id.number

-- the ACTIVE folders or projects of a parent, in the order of their numbers
abbrev pub children_of : List Node → NodeKind → NodeId → List Node
children_of nodes kind parent = placed number_order (active_children nodes kind parent)
