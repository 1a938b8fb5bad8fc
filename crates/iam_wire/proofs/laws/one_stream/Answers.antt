use Rattle.iam_wire.proofs.Streams.{one_stream}
use Rattle.iam_wire.proofs.laws.one_stream.Goals as goal

pub returns : goal.returns
returns c = one_stream
