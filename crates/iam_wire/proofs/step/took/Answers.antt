use Rattle.std.proofs.Common.{arith}
use Rattle.iam_wire.proofs.Steps.{method_text, target_text, end_within, took_message}
use Rattle.iam_wire.proofs.step.took.Goals as goal

pub overflow_add-end : goal.overflow_add-end
overflow_add-end c = omega (arith, end_within c.args.bytes.now c.args.head c.args.size c.requires)

pub message_of-requires-clause-method : goal.message_of-requires-clause-method
message_of-requires-clause-method c = method_text c.args.bytes.now c.args.head c.args.size c.requires

pub message_of-requires-clause-target : goal.message_of-requires-clause-target
message_of-requires-clause-target c = target_text c.args.bytes.now c.args.head c.args.size c.requires

pub returns : goal.returns
returns c = (took_message c.args.bytes.now c.args.head c.args.size _ c.requires c.in_ok-message.ensures, end_within c.args.bytes.now c.args.head c.args.size c.requires)
