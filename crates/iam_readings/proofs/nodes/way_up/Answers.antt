use Rattle.std.proofs.Common.{◌<◌, append_assoc, arith}
use Rattle.iam_readings.proofs.Climbing.{climbs}
use Rattle.iam_readings.proofs.nodes.way_up.Goals as goal

pub loop-preserved : goal.loop-preserved
loop-preserved c =
    let within : c.loop.counter < 12 = omega arith in
    let step = climbs 12 c.loop.counter c.args.tables.now.nodes c.in-Some.at within in
    rw (c.in_ok-push.ensures.ok, c.parent_of-next.ensures, append_assoc, ← step) (rw c.in-Some.is at c.loop.invariant)
