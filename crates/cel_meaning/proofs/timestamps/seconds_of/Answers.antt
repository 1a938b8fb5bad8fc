use Rattle.std.proofs.Common.{arith}
use Rattle.std.proofs.lemmas.Int.{ints}
use Rattle.cel_meaning.proofs.timestamps.seconds_of.Goals as goal

pub returns : goal.returns
returns c = omega (arith, ints)
