use Rattle.std.proofs.Common.{◌≡◌, ◌+◌, ◌≤◌, drop}
use Rattle.iam_model.specs.Hierarchy.{count_folders}
use Rattle.iam_readings.proofs.children.count_folders.Given as goal

-- those so far, and those behind
abbrev pub invariant-loop-row : goal.invariant-loop-row
invariant-loop-row l = (l.count ≤ l.row-index) × (l.count + count_folders (drop l.row-index l.tables.nodes) l.parent ≡ count_folders l.tables.nodes l.parent)
