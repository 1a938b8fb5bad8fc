use Rattle.std.proofs.Common.{◌≡◌, ◌≤◌, ◌-◌, length}
use Rattle.iam_office.specs.Answering.{MOST_HELD}
use Rattle.iam_office.proofs.Streaming.{ReadSo}
use Rattle.iam_office.proofs.exchange.next_message.Given as goal

abbrev pub invariant-pieces : goal.invariant-pieces
invariant-pieces g l = record {
  so : ReadSo (g.L.Source.left l.initial.line) (g.L.Source.left l.line) l.initial.wire l.wire;
  later : g.L.Source.read_faults l.initial.line ≤ g.L.Source.read_faults l.line;
  taken : g.L.Sink.taken l.line ≡ g.L.Sink.taken l.initial.line;
  write_faults : g.L.Sink.write_faults l.line ≡ g.L.Sink.write_faults l.initial.line;
}

abbrev pub decreases-pieces : goal.decreases-pieces
decreases-pieces g l = MOST_HELD - length l.wire
