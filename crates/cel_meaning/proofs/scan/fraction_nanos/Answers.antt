use Rattle.std.proofs.Common.{arith, length}
use Rattle.std.proofs.Math.Nat.{one-le-pow}
use Rattle.cel_meaning.proofs.scan.fraction_nanos.Goals as goal

pub nonzero_div-result : goal.nonzero_div-result
nonzero_div-result c = omega (arith, one-le-pow (length c.args.digits.now) 10 (omega arith), c.pow.ensures)
