use Rattle.std.proofs.Common.{◌≡◌}
use Rattle.iam_wire.proofs.Named.{left}
use Rattle.iam_wire.proofs.values.first_named.Given as goal

abbrev pub invariant-loop-i : goal.invariant-loop-i
invariant-loop-i l = left l.name l.buf l.headers l.i ≡ left l.name l.buf l.headers 0
