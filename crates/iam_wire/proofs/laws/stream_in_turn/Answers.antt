use Rattle.iam_wire.proofs.Streams.{takes_another, reads_rest, takes_first}
use Rattle.iam_wire.proofs.laws.stream_in_turn.Goals as goal

pub returns : goal.returns
returns c = record { more = takes_another; whole = reads_rest; first = takes_first }
