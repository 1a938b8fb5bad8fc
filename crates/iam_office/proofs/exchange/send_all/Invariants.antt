use Rattle.std.proofs.Common.{◌≡◌, ◌≤◌, ◌-◌, take, length}
use Rattle.std.specs.Io.KnownBytes.{Appends}
use Rattle.iam_office.proofs.exchange.send_all.Given as goal

abbrev pub invariant-loop-at : goal.invariant-loop-at
invariant-loop-at g l = record {
  within : l.at ≤ length l.bytes;
  sent : Appends (g.L.Sink.taken l.initial.line) (g.L.Sink.taken l.line) (take l.at l.bytes);
  later : g.L.Sink.write_faults l.initial.line ≤ g.L.Sink.write_faults l.line;
  left : g.L.Source.left l.line ≡ g.L.Source.left l.initial.line;
  read_faults : g.L.Source.read_faults l.line ≡ g.L.Source.read_faults l.initial.line;
}

abbrev pub decreases-loop-at : goal.decreases-loop-at
decreases-loop-at g l = length l.bytes - l.at
