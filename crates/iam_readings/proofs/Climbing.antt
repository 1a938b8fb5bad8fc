-- Steps up the hierarchy, and names that lead into it.
use Rattle.std.proofs.Common.{◌≡◌, ℕ, suc, ◌+◌, ◌-◌, ◌<◌, true, List, [], ◌∷◌, Option, Some, None, refl, sym, arith}
use Rattle.std.specs.Prelude.{IfSome}
use Rattle.std.specs.Option.{option_map_or}
use Rattle.iam_names.specs.declared.node.NodeId.{NodeId}
use Rattle.iam_names.specs.declared.node.NodeName.{NodeName}
use Rattle.iam_types.specs.declared.node.Node.{Node}
use Rattle.iam_types.specs.declared.tables.Tables.{Tables}
use Rattle.iam_model.specs.Nodes.{climb, exists, parent_of, resolve}

-- one node more, at a counter of those that were gone over
pub climbs : (end counter : ℕ) (nodes : List Node) (at : NodeId) → counter < end → climb (end - counter) nodes at ≡ at ∷ option_map_or (climb (end - (counter + 1)) nodes) (parent_of nodes at) []
climbs end counter nodes at lt =
    let e : end - counter ≡ suc (end - (counter + 1)) = omega arith in
    rw e refl

-- a node that is found by a name exists
pub found_there : ((tables : Tables) (name : NodeName) (node : NodeId) → resolve tables name ≡ Some node → exists tables node ≡ true)
    → (tables : Tables) (name : NodeName) (found : Option NodeId) → found ≡ resolve tables name → IfSome found (λ node. exists tables node ≡ true)
found_there there tables name None is = tt
found_there there tables name (Some node) is = there tables name node (sym is)
