use Rattle.std.proofs.Common.{length}
use Rattle.cel_meaning.proofs.durations.+parts_nanos.Given as goal

abbrev pub decreases-parts_nanos : goal.decreases-parts_nanos
decreases-parts_nanos l = length l.units.now
