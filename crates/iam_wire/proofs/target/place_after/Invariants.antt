use Rattle.std.proofs.Common.{◌≡◌, take}
use Rattle.iam_wire.specs.Target.{run}
use Rattle.iam_wire.specs.declared.target.Place.TheVariants.{Blank}
use Rattle.iam_wire.proofs.target.place_after.Given as goal

abbrev pub invariant-loop-byte : goal.invariant-loop-byte
invariant-loop-byte l = l.place ≡ run Blank (take l.byte-index l.bytes)
