use Rattle.std.proofs.Common.{◌≡◌, map, take}
use Rattle.iam_sqlite.specs.Shown.{columns_of, shown}
use Rattle.iam_sqlite.proofs.table.rows_of.Given as goal

abbrev pub invariant-loop-row : goal.invariant-loop-row
invariant-loop-row l = map columns_of (take l.row-index l.found) ≡ map shown l.rows
