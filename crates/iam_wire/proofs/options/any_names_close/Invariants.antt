use Rattle.std.proofs.Common.{◌≡◌}
use Rattle.std.specs.List.{list_any}
use Rattle.iam_wire.specs.Front.{names_close}
use Rattle.iam_wire.proofs.Named.{left}
use Rattle.iam_wire.proofs.options.any_names_close.Given as goal

abbrev pub invariant-loop-header : goal.invariant-loop-header
invariant-loop-header l = list_any names_close (left l.name l.buf l.headers l.header-index) ≡ list_any names_close (left l.name l.buf l.headers 0)
