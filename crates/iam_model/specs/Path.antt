-- Paths, and lists of children, in the words of the hierarchy.
use Rattle.std.specs.Prelude.{◌≡◌, ◌↔◌, true, List, [], ◌∷◌, ◌++◌, Some, Contains}
use Rattle.iam_text.specs.Put.{IsInOrder}
use Rattle.iam_names.specs.declared.node.NodeId.{NodeId}
use Rattle.iam_names.specs.declared.node.NodeKind.{NodeKind}
use Rattle.iam_types.specs.declared.node.Node.{Node}
use Rattle.iam_types.specs.declared.tables.Tables.{Tables}
use Rattle.iam_model.specs.Nodes.{number_order, organization_of, parent_of}

abbrev pub BeginsWith : NodeId → List NodeId → Type 0
BeginsWith node nodes = (more : List NodeId) × (nodes ≡ node ∷ more)

abbrev pub EndsWith : NodeId → List NodeId → Type 0
EndsWith node nodes = (before : List NodeId) × (nodes ≡ (before ++ node ∷ []))

-- each but the first has the one before it as its parent
abbrev pub HaveParentsBefore : List Node → List NodeId → Type 0
HaveParentsBefore rows [] = Unit {0}
HaveParentsBefore rows (first ∷ []) = Unit {0}
HaveParentsBefore rows (upper ∷ lower ∷ more) = (parent_of rows lower ≡ Some upper) × HaveParentsBefore rows (lower ∷ more)

-- It begins with the organisation and ends with the node, and each node but the first has the one before it as its parent.
pub record IsPath (tables : Tables) (node : NodeId) (nodes : List NodeId) : Type 0 where
  pub begins : BeginsWith (organization_of tables) nodes
  pub ends : EndsWith node nodes
  pub parents : HaveParentsBefore tables.nodes nodes

-- a row is that of an ACTIVE folder, or of an ACTIVE project, with this parent
pub record IsChild (kind : NodeKind) (parent : NodeId) (row : Node) : Type 0 where
  pub is : row.id.kind ≡ kind
  pub below : row.parent ≡ parent
  pub active : row.active ≡ true

-- in the order of their numbers, exactly the ACTIVE children
pub record AreChildren (tables : Tables) (kind : NodeKind) (parent : NodeId) (children : List Node) : Type 0 where
  pub ordered : IsInOrder number_order children
  pub exactly : (row : Node) → Contains children row ↔ (Contains tables.nodes row × IsChild kind parent row)
