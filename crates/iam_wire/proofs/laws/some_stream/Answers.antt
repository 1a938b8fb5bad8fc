use Rattle.iam_wire.proofs.Streams.{some_stream}
use Rattle.iam_wire.proofs.laws.some_stream.Goals as goal

pub returns : goal.returns
returns c = some_stream
