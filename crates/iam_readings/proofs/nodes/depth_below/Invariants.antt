use Rattle.std.proofs.Common.{◌≡◌, ◌≤◌, ◌+◌, ◌-◌, [], length}
use Rattle.std.specs.Option.{option_map_or}
use Rattle.iam_model.specs.Nodes.{climb}
use Rattle.iam_readings.proofs.nodes.depth_below.Given as goal

-- the nodes so far, and those from the next one up, are counted
abbrev pub invariant-loop : goal.invariant-loop
invariant-loop l = (l.depth ≤ l.counter) × (l.depth + length (option_map_or (climb (12 - l.counter) l.tables.nodes) l.next []) ≡ length (climb 12 l.tables.nodes l.fn.parent))
