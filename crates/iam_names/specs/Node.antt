-- Names of organisations, folders and projects.
use Rattle.std.specs.Prelude.{◌≢◌, ℕ, ◌-◌, List, ◌++◌, length, slice_index, codes, IsTrue}
use Rattle.std.specs.Fmt.{decimal}
use Rattle.iam_names.specs.Bytes.{dash, is_lower, is_label_byte, IsWord}
use Rattle.iam_names.specs.Number.{IsNodeNumber}
use Rattle.iam_names.specs.declared.node.NodeKind.{NodeKind}
use Rattle.iam_names.specs.declared.node.NodeKind.TheVariants.{Organization as AnOrganization, Folder as AFolder, Project as AProject}
use Rattle.iam_names.specs.declared.node.NodeId.{NodeId}
use Rattle.iam_names.specs.declared.node.NodeName.{NodeName}
use Rattle.iam_names.specs.declared.node.NodeName.TheVariants.{Organization, Folder, ProjectNumber, ProjectId}

-- 6 to 30 lower-case letters, digits and `-`, beginning with a letter and not ending with `-`
abbrev pub IsProjectId : List ℕ → Type 0
IsProjectId text = IsWord 6 30 is_label_byte text × IsTrue (is_lower (slice_index text 0)) × (slice_index text (length text - 1) ≢ dash)

-- what stands before the number of a node
abbrev pub collection_of : NodeKind → List ℕ
collection_of AnOrganization = codes "organizations/"
collection_of AFolder = codes "folders/"
collection_of AProject = codes "projects/"

abbrev pub node_id_text : NodeId → List ℕ
node_id_text node = collection_of node.kind ++ decimal node.number

-- the name of the node of a kind with a number
abbrev pub name_of_kind : NodeKind → ℕ → NodeName
name_of_kind AnOrganization number = Organization number
name_of_kind AFolder number = Folder number
name_of_kind AProject number = ProjectNumber number

abbrev pub node_text : NodeName → List ℕ
node_text (Organization number) = codes "organizations/" ++ decimal number
node_text (Folder number) = codes "folders/" ++ decimal number
node_text (ProjectNumber number) = codes "projects/" ++ decimal number
node_text (ProjectId id) = codes "projects/" ++ id

abbrev pub IsNodeId : NodeId → Type 0
IsNodeId node = IsNodeNumber node.number

-- the name of a node by its number
abbrev pub name_of_node : NodeId → NodeName
name_of_node node = name_of_kind node.kind node.number

-- the names that are read: a project's id begins with a letter, so it is no number
abbrev pub IsNodeName : NodeName → Type 0
IsNodeName (Organization number) = IsNodeNumber number
IsNodeName (Folder number) = IsNodeNumber number
IsNodeName (ProjectNumber number) = IsNodeNumber number
IsNodeName (ProjectId id) = IsProjectId id
