use Rattle.iam_wire.proofs.Fronts.{message_no_prefix, message_no_fault, prefix_no_fault, one_fault}
use Rattle.iam_wire.proofs.laws.one_front.Goals as goal

pub returns : goal.returns
returns c = record { whole = message_no_prefix; good = message_no_fault; prefix = prefix_no_fault; fault = one_fault }
