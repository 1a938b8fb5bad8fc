use Rattle.std.proofs.Common.{◌≡◌, ◌-◌, ◌++◌, []}
use Rattle.std.specs.Option.{option_map_or}
use Rattle.iam_model.specs.Nodes.{climb}
use Rattle.iam_readings.proofs.nodes.way_up.Given as goal

-- the nodes so far, and those from the next one up
abbrev pub invariant-loop : goal.invariant-loop
invariant-loop l = l.way ++ option_map_or (climb (12 - l.counter) l.tables.nodes) l.next [] ≡ climb 12 l.tables.nodes l.fn.node
