use Rattle.std.proofs.Common.{◌≡◌, bytes_eq}
use Rattle.std.specs.List.{list_all}
use Rattle.iam_wire.proofs.Named.{left}
use Rattle.iam_wire.proofs.values.all_named_are.Given as goal

abbrev pub invariant-loop-header : goal.invariant-loop-header
invariant-loop-header l = list_all (bytes_eq l.value) (left l.name l.buf l.headers l.header-index) ≡ list_all (bytes_eq l.value) (left l.name l.buf l.headers 0)
