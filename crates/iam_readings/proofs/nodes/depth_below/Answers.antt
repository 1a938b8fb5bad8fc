use Rattle.std.proofs.Common.{◌<◌, List, length, ap, arith}
use Rattle.iam_names.specs.declared.node.NodeId.{NodeId}
use Rattle.iam_readings.proofs.Climbing.{climbs}
use Rattle.iam_readings.proofs.nodes.depth_below.Goals as goal

pub loop-preserved : goal.loop-preserved
loop-preserved c =
    let within : c.loop.counter < 12 = omega arith in
    let step = ap (λ (way : List NodeId). length way) (climbs 12 c.loop.counter c.args.tables.now.nodes c.in-Some.at within) in
    let before = rw c.in-Some.is at c.loop.invariant.1 in
    (omega arith, rw c.parent_of-next.ensures (omega (arith, step, before)))
