-- What may stand in the hierarchy.
use Rattle.std.specs.Prelude.{◌≡◌, ℕ, zero, suc, Bool, true, false, not, ◌==◌, ◌&&◌, ◌||◌, nat_le, List, Some, length}
use Rattle.std.specs.declared.option.Option.{Option}
use Rattle.std.specs.List.{list_any}
use Rattle.std.specs.Option.{option_map_or}
use Rattle.std.specs.Str.{bytes_eq}
use Rattle.iam_names.specs.declared.node.NodeKind.TheVariants.{Folder}
use Rattle.iam_names.specs.declared.node.NodeId.{NodeId}
use Rattle.iam_types.specs.declared.node.Node.{Node}
use Rattle.iam_types.specs.declared.tables.Tables.{Tables}
use Rattle.iam_model.specs.Nodes.{active_children, depth_below, is_active, is_folder, organization_of, parent_of}
use Rattle.iam_model.specs.Same.{same_node}

-- ---- one row

-- the node is the root, or a folder whose parents lead there through folders, in at most so many steps
abbrev pub is_led_up : ℕ → NodeId → List Node → NodeId → Bool
is_led_up zero root nodes node = same_node node root
is_led_up (suc more) root nodes node =
    same_node node root || (is_folder node && option_map_or (is_led_up more root nodes) (parent_of nodes node) false)

-- in some number of steps
abbrev pub LeadsUp : Tables → NodeId → Type 0
LeadsUp tables node = (steps : ℕ) × (is_led_up steps (organization_of tables) tables.nodes node ≡ true)

-- the deepest that a folder may stand
abbrev pub deepest : ℕ
deepest = 10

-- a folder stands no deeper
abbrev pub is_shallow : List Node → Node → Bool
is_shallow nodes row = not (is_folder row.id) || nat_le (depth_below nodes row.parent) deepest

-- an ACTIVE node's parent is ACTIVE, or the organisation
abbrev pub is_below_active : List Node → Node → Bool
is_below_active nodes row = not row.active || is_active nodes row.parent

-- ---- two rows

abbrev pub are_different : Node → Node → Bool
are_different a b = not (same_node a.id b.id)

abbrev pub is_active_folder : Node → Bool
is_active_folder row = row.active && is_folder row.id

-- two ACTIVE folders with one parent have one name
abbrev pub are_namesakes : Node → Node → Bool
are_namesakes a b = are_different a b && is_active_folder a && is_active_folder b && same_node a.parent b.parent && bytes_eq a.display b.display

-- two nodes have one number
abbrev pub share_number : Node → Node → Bool
share_number a b = are_different a b && (a.id.number == b.id.number)

abbrev pub same_project_id : Option (List ℕ) → Option (List ℕ) → Bool
same_project_id (Some a) (Some b) = bytes_eq a b
same_project_id a b = false

-- two projects have one id
abbrev pub share_project_id : Node → Node → Bool
share_project_id a b = are_different a b && same_project_id a.project b.project

-- a row is like none of these
abbrev pub is_alone : (Node → Node → Bool) → List Node → Node → Bool
is_alone alike nodes row = not (list_any (alike row) nodes)

-- ---- all rows

-- the ACTIVE folders with a parent
abbrev pub count_folders : List Node → NodeId → ℕ
count_folders nodes parent = length (active_children nodes Folder parent)
