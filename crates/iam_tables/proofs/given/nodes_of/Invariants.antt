use Rattle.std.proofs.Common.{◌≡◌, ◌≤◌, drop, length}
use Rattle.iam_model.specs.Part.{table_of}
use Rattle.iam_model.specs.Parts.{node_part}
use Rattle.iam_tables.proofs.given.nodes_of.Given as goal

abbrev pub invariant-loop-left : goal.invariant-loop-left
invariant-loop-left l = (l.left ≤ length l.facts) × (l.rows ≡ table_of node_part (drop l.left l.facts))

abbrev pub decreases-loop-left : goal.decreases-loop-left
decreases-loop-left l = l.left
