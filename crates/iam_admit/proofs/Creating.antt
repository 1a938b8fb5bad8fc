-- Nodes that are to be created.
use Rattle.std.proofs.Common.{◌≡◌, refl, sym, subst}
use Rattle.iam_types.specs.declared.node.Node.{Node}
use Rattle.iam_types.specs.declared.tables.Tables.{Tables}
use Rattle.iam_model.specs.Creation.{new_node}
use Rattle.iam_admit.specs.Creating.{IsNew, IsNewFolder}

-- a new folder is a new node
pub folder_is_new : (tables : Tables) (node : Node) → IsNewFolder tables node → IsNew tables node
folder_is_new tables node new = record {
  consistent = new.consistent;
  is = subst (λ (n : Node). n ≡ new_node tables n.id.kind n.parent n.display n.project) (sym new.is) refl;
}
