-- Nodes that are to be created.
use Rattle.std.specs.Prelude.{◌≡◌, true}
use Rattle.iam_types.specs.declared.node.Node.{Node}
use Rattle.iam_types.specs.declared.tables.Tables.{Tables}
use Rattle.iam_model.specs.Consistent.{Consistent}
use Rattle.iam_model.specs.Creation.{new_folder, new_node}
use Rattle.iam_model.specs.Nodes.{exists}

-- a node with the next number
pub record IsNew (tables : Tables) (node : Node) : Type 0 where
  pub consistent : Consistent tables
  pub is : node ≡ new_node tables node.id.kind node.parent node.display node.project

-- a folder with the next number, whose parent is there
pub record IsNewFolder (tables : Tables) (node : Node) : Type 0 where
  pub consistent : Consistent tables
  pub there : exists tables node.parent ≡ true
  pub is : node ≡ new_folder tables node.parent node.display
