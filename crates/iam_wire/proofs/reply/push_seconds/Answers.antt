use Rattle.std.proofs.Common.{w64}
use Rattle.std.proofs.lemmas.Int.{to_z-of_z}
use Rattle.iam_wire.proofs.reply.push_seconds.Goals as goal

pub returns : goal.returns
returns c = rw (to_z-of_z w64 c.args.seconds c.ranges.seconds) at c.write.ensures.bytes
