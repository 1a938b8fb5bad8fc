use Rattle.std.proofs.Common.{◌≡◌, ◌≤◌, length, drop}
use Rattle.iam_text.specs.Put.{placed}
use Rattle.iam_outer.specs.Rows.{row_order}
use Rattle.iam_outer.proofs.memory.keeper.placed_rows.Given as goal

abbrev pub invariant-loop-at : goal.invariant-loop-at
invariant-loop-at l = record { within : l.at ≤ length l.rows; so_far : l.placed ≡ placed row_order (drop l.at l.rows) }

abbrev pub decreases-loop-at : goal.decreases-loop-at
decreases-loop-at l = l.at
