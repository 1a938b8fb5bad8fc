use Rattle.std.proofs.Common.{◌≡◌, take}
use Rattle.iam_readings.proofs.children.children_of.Given as goal

abbrev pub invariant-loop-child : goal.invariant-loop-child
invariant-loop-child l = l.rows ≡ take l.child-index l.child-items
