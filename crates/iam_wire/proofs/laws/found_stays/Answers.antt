use Rattle.iam_wire.proofs.Fronts.{message_more, fault_more}
use Rattle.iam_wire.proofs.Streams.{taken_more}
use Rattle.iam_wire.proofs.laws.found_stays.Goals as goal

pub returns : goal.returns
returns c = record { message = message_more; fault = fault_more; taken = taken_more }
