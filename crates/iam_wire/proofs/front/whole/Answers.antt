use Rattle.std.proofs.Common.{arith}
use Rattle.iam_wire.proofs.Looks.{found_front, short_front, len_within, faulty_front}
use Rattle.iam_wire.proofs.front.whole.Goals as goal

pub overflow_sub-bytes : goal.overflow_sub-bytes
overflow_sub-bytes c = len_within c.args.bytes.now c.args.head c.requires

pub returns-then-bytes-head : goal.returns-then-bytes-head
returns-then-bytes-head c = found_front c.args.bytes.now c.args.head c.in-Sized.size c.requires c.in-Sized.is (omega arith)

pub returns-else-bytes-head : goal.returns-else-bytes-head
returns-else-bytes-head c = short_front c.args.bytes.now c.args.head c.in-Sized.size c.requires c.in-Sized.is (omega arith)

pub returns-in-Faulty : goal.returns-in-Faulty
returns-in-Faulty c = faulty_front c.args.bytes.now c.args.head c.in-Faulty.fault c.requires c.in-Faulty.is
