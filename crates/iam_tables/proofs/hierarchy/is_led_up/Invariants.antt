use Rattle.std.proofs.Common.{◌≡◌, ◌-◌}
use Rattle.iam_model.specs.Hierarchy.{is_led_up}
use Rattle.iam_model.specs.Nodes.{organization_of}
use Rattle.iam_tables.proofs.hierarchy.is_led_up.Given as goal

-- the answer is that for the node that was reached, in the steps that are left
abbrev pub invariant-loop : goal.invariant-loop
invariant-loop l = is_led_up (l.steps - l.counter) (organization_of l.tables) l.tables.nodes l.at ≡ is_led_up l.steps (organization_of l.tables) l.tables.nodes l.fn.node
