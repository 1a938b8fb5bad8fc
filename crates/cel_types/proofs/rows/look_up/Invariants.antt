use Rattle.std.proofs.Common.{◌≡◌, drop}
use Rattle.cel_types.specs.Rows.{look_up}
use Rattle.cel_types.proofs.rows.look_up.Given as goal

abbrev pub invariant-loop-row : goal.invariant-loop-row
invariant-loop-row l = look_up (drop l.row-index l.rows) l.left l.right ≡ look_up l.rows l.left l.right
