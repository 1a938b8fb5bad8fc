-- Steps up the hierarchy.
use Rattle.std.proofs.Common.{◌≡◌, ℕ, zero, suc, ◌+◌, ◌-◌, ◌<◌, true, false, List, Some, refl, arith}
use Rattle.iam_names.specs.declared.node.NodeId.{NodeId}
use Rattle.iam_types.specs.declared.node.Node.{Node}
use Rattle.iam_model.specs.Hierarchy.{is_led_up}
use Rattle.iam_model.specs.Nodes.{is_folder, parent_of}
use Rattle.iam_model.specs.Same.{same_node}

-- one step up, at a counter of the steps that were made
pub leads_on : (end counter : ℕ) (root : NodeId) (nodes : List Node) (at parent : NodeId) → counter < end → same_node at root ≡ false → is_folder at ≡ true → parent_of nodes at ≡ Some parent
    → is_led_up (end - counter) root nodes at ≡ is_led_up (end - (counter + 1)) root nodes parent
leads_on end counter root nodes at parent lt below folder up =
    let e : end - counter ≡ suc (end - (counter + 1)) = omega arith in
    rw (e, below, folder, up) refl

-- the way ends below the root at a node that is no folder
pub leads_nowhere : (steps : ℕ) (root : NodeId) (nodes : List Node) (at : NodeId) → same_node at root ≡ false → is_folder at ≡ false → is_led_up steps root nodes at ≡ false
leads_nowhere zero root nodes at below other = below
leads_nowhere (suc steps) root nodes at below other = rw (below, other) refl

pub leads_there : (steps : ℕ) (root : NodeId) (nodes : List Node) (at : NodeId) → same_node at root ≡ true → is_led_up steps root nodes at ≡ true
leads_there zero root nodes at here = here
leads_there (suc steps) root nodes at here = rw here refl
