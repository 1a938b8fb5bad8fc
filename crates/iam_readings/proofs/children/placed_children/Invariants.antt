use Rattle.std.proofs.Common.{◌≡◌, ◌≤◌, drop, length}
use Rattle.iam_model.specs.Nodes.{children_of}
use Rattle.iam_readings.proofs.children.placed_children.Given as goal

abbrev pub invariant-loop-left : goal.invariant-loop-left
invariant-loop-left l = (l.left ≤ length l.nodes) × (l.rows ≡ children_of (drop l.left l.nodes) l.kind l.parent)

abbrev pub decreases-loop-left : goal.decreases-loop-left
decreases-loop-left l = l.left
