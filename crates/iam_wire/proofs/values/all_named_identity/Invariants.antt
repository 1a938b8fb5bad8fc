use Rattle.std.proofs.Common.{◌≡◌}
use Rattle.std.specs.List.{list_all}
use Rattle.iam_wire.specs.Front.{is_identity}
use Rattle.iam_wire.proofs.Named.{left}
use Rattle.iam_wire.proofs.values.all_named_identity.Given as goal

abbrev pub invariant-loop-header : goal.invariant-loop-header
invariant-loop-header l = list_all is_identity (left l.name l.buf l.headers l.header-index) ≡ list_all is_identity (left l.name l.buf l.headers 0)
