-- The creation of folders and projects.
use Rattle.std.specs.Prelude.{ℕ, ◌+◌, not, true, List, [], ◌∷◌, Some, None, is_some, length, nat_lt}
use Rattle.std.specs.declared.option.Option.{Option}
use Rattle.std.specs.Option.{option_map_or}
use Rattle.iam_text.specs.Put.{put}
use Rattle.iam_names.specs.Display.{IsFolderDisplay, IsProjectDisplay}
use Rattle.iam_names.specs.Node.{IsNodeName, IsProjectId}
use Rattle.iam_names.specs.declared.node.NodeId.{NodeId}
use Rattle.iam_names.specs.declared.node.NodeKind.{NodeKind}
use Rattle.iam_names.specs.declared.node.NodeKind.TheVariants.{Folder, Project}
use Rattle.iam_names.specs.declared.node.NodeName.{NodeName}
use Rattle.iam_types.specs.declared.fact.Fact.TheVariants as fact
use Rattle.iam_types.specs.declared.fact.FactChange.{FactChange}
use Rattle.iam_types.specs.declared.fact.FactChange.TheVariants.{Put}
use Rattle.iam_types.specs.declared.node.Node.{Node}
use Rattle.iam_types.specs.declared.node.Org.{Org}
use Rattle.iam_types.specs.declared.refusal.Fault.TheVariants.{Parent, Depth, SiblingName}
use Rattle.iam_types.specs.declared.refusal.LimitName.TheVariants.{ChildFolders, Nodes}
use Rattle.iam_types.specs.declared.refusal.Refusal.{Refusal}
use Rattle.iam_types.specs.declared.refusal.Refusal.TheVariants.{AlreadyExists, Hierarchy}
use Rattle.iam_types.specs.declared.tables.Tables.{Tables}
use Rattle.iam_model.specs.Hierarchy.{are_namesakes, count_folders, deepest, is_alone}
use Rattle.iam_model.specs.Limits.{beyond}
use Rattle.iam_model.specs.Meaning.{Meaning}
use Rattle.iam_model.specs.Nodes.{depth_below, is_project, project_with, resolve}
use Rattle.iam_model.specs.Part.{order_in}
use Rattle.iam_model.specs.Parts.{node_part}
use Rattle.iam_model.specs.Refusals.{refused_if}
use Rattle.iam_model.specs.Shared.{inactive, many_changes, missing, with_node}

-- ---- what it leads to

-- the next number is given
abbrev pub numbered : Org → Org
numbered org = record org { next = org.next + 1; changes = org.changes + 1 }

-- the rows with another one
unfoldable pub added : Node → List Node → List Node
added node nodes = put (order_in node_part) node nodes

abbrev pub with_node_added : Tables → Node → Tables
with_node_added tables node = record tables { org = numbered tables.org; nodes = added node tables.nodes }

-- the node is put, and the organisation with one more change
abbrev pub added_changes : Tables → Node → List FactChange
added_changes tables node = Put (fact.Node node) ∷ Put (fact.Org (numbered tables.org)) ∷ []

-- an ACTIVE node with the next number
abbrev pub new_node : Tables → NodeKind → NodeId → List ℕ → Option (List ℕ) → Node
new_node tables kind parent display project = record {
  id = record { kind = kind; number = tables.org.next };
  parent = parent;
  display = display;
  project = project;
  active = true;
}

abbrev pub new_folder : Tables → NodeId → List ℕ → Node
new_folder tables parent display = new_node tables Folder parent display None

abbrev pub new_project : Tables → List ℕ → NodeId → List ℕ → Node
new_project tables project parent display = new_node tables Project parent display (Some project)

-- ---- what is refused

-- there is a project with this id
abbrev pub taken_project_id : Tables → List ℕ → Option Refusal
taken_project_id tables project = refused_if (is_some (project_with tables.nodes project)) (AlreadyExists project)

-- nothing stands below a project
abbrev pub wrong_parent : NodeId → Option Refusal
wrong_parent parent = refused_if (is_project parent) (Hierarchy 0 0 Parent)

-- a folder would stand too deep below this parent
abbrev pub too_deep : List Node → NodeId → Option Refusal
too_deep nodes parent = refused_if (nat_lt deepest (depth_below nodes parent)) (Hierarchy (depth_below nodes parent) deepest Depth)

-- an ACTIVE folder with the same parent has the folder's name
abbrev pub taken_name : List Node → Node → Option Refusal
taken_name nodes node = refused_if (not (is_alone are_namesakes nodes node)) (Hierarchy 0 0 SiblingName)

-- what all tables with the new node count, and its place among them
abbrev pub late_folder_rules : Tables → NodeId → Node → List (Option Refusal)
late_folder_rules tables parent node =
    beyond (count_folders (added node tables.nodes) parent) ChildFolders
    ∷ beyond (length (added node tables.nodes)) Nodes
    ∷ many_changes tables
    ∷ wrong_parent parent
    ∷ too_deep (added node tables.nodes) parent
    ∷ taken_name (added node tables.nodes) node
    ∷ []

abbrev pub late_project_rules : Tables → NodeId → Node → List (Option Refusal)
late_project_rules tables parent node = beyond (length (added node tables.nodes)) Nodes ∷ many_changes tables ∷ wrong_parent parent ∷ []

-- ---- what it means

abbrev pub create_folder : NodeName → List ℕ → Meaning
create_folder name display = record {
  given = IsNodeName name × IsFolderDisplay display;
  rules = λ moment tables. record {
    names = missing tables name ∷ [];
    active = with_node tables name (λ parent. inactive tables name parent ∷ []);
    fresh = [];
    early = [];
    middle = [];
    late = with_node tables name (λ parent. late_folder_rules tables parent (new_folder tables parent display));
  };
  after = λ moment tables. option_map_or (λ parent. with_node_added tables (new_folder tables parent display)) (resolve tables name) tables;
  changes = λ moment tables. option_map_or (λ parent. added_changes tables (new_folder tables parent display)) (resolve tables name) [];
}

abbrev pub create_project : List ℕ → NodeName → List ℕ → Meaning
create_project project name display = record {
  given = IsProjectId project × IsNodeName name × IsProjectDisplay display;
  rules = λ moment tables. record {
    names = missing tables name ∷ [];
    active = with_node tables name (λ parent. inactive tables name parent ∷ []);
    fresh = taken_project_id tables project ∷ [];
    early = [];
    middle = [];
    late = with_node tables name (λ parent. late_project_rules tables parent (new_project tables project parent display));
  };
  after = λ moment tables. option_map_or (λ parent. with_node_added tables (new_project tables project parent display)) (resolve tables name) tables;
  changes = λ moment tables. option_map_or (λ parent. added_changes tables (new_project tables project parent display)) (resolve tables name) [];
}
