use Rattle.iam_wire.proofs.Streams.{end_as_read, fault_as_read, last_as_read, first_as_read, one_more_as_read, first_of_all, reads_begin}
use Rattle.iam_wire.proofs.laws.stream_as_read.Goals as goal

pub returns : goal.returns
returns c = record { end = end_as_read; fault = fault_as_read; last = last_as_read; taken = first_as_read; more = one_more_as_read; first = first_of_all; all = reads_begin }
