use Rattle.std.proofs.Common.{◌≡◌, ◌+◌, ◌≤◌, length}
use Rattle.iam_wire.proofs.Named.{left}
use Rattle.iam_wire.proofs.fields.count_named.Given as goal

abbrev pub invariant-loop-header : goal.invariant-loop-header
invariant-loop-header l = record {
  few : l.count ≤ l.header-index;
  so : l.count + length (left l.name l.buf l.headers l.header-index) ≡ length (left l.name l.buf l.headers 0);
}
