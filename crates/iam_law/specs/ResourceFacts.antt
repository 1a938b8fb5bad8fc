-- What conditions see of a node.
use Rattle.std.specs.Prelude.{ℕ, List, codes}
use Rattle.iam_names.specs.Node.{node_id_text}
use Rattle.iam_names.specs.declared.node.NodeKind.{NodeKind}
use Rattle.iam_names.specs.declared.node.NodeKind.TheVariants.{Organization, Folder, Project}
use Rattle.iam_names.specs.declared.node.NodeId.{NodeId}
use Rattle.iam_types.specs.declared.query.ResourceFacts.{ResourceFacts}

-- its `resource.type`
abbrev pub kind_text : NodeKind → List ℕ
kind_text Organization = codes "cloudresourcemanager.googleapis.com/Organization"
kind_text Folder = codes "cloudresourcemanager.googleapis.com/Folder"
kind_text Project = codes "cloudresourcemanager.googleapis.com/Project"

abbrev pub facts_of_node : NodeId → ResourceFacts
facts_of_node node = record { kind = kind_text node.kind; service = codes "cloudresourcemanager.googleapis.com"; name = node_id_text node }
