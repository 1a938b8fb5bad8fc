use Rattle.std.proofs.Common.{refl, subst, sym, ap}
use Rattle.iam_office.specs.Answering.{Finishes, failed_writes}
use Rattle.iam_office.specs.Stops.{end_of}
use Rattle.iam_office.specs.Turns.{Rise}
use Rattle.iam_office.proofs.Finishing.{memory_ends, stays, writes_on}
use Rattle.iam_office.proofs.closing.finish.Goals as goal

pub returns-in-Fault-clause-finished : goal.returns-in-Fault-clause-finished
returns-in-Fault-clause-finished g c = rw c.in-Fault.is c.end_frame.ensures.finished

pub returns-in-Fault-clause-writes : goal.returns-in-Fault-clause-writes
returns-in-Fault-clause-writes g c = rw c.in-Fault.is c.end_frame.ensures.writes

pub returns-in-OutOfMemory-clause-finished : goal.returns-in-OutOfMemory-clause-finished
returns-in-OutOfMemory-clause-finished g c = rw c.in-OutOfMemory.is (memory_ends _ _ _ _ _ _ _ c.out_of_memory.ensures.ends refl)

pub returns-in-OutOfMemory-clause-writes : goal.returns-in-OutOfMemory-clause-writes
returns-in-OutOfMemory-clause-writes g c = rw c.in-OutOfMemory.is (λ first before. writes_on _ _ _ _ _ _ _ _ refl c.out_of_memory.ensures.ends before)

pub returns-in-AtEnd-clause-finished : goal.returns-in-AtEnd-clause-finished
returns-in-AtEnd-clause-finished g c = stays _ _ _ _ c.in-AtEnd.is c.end_of.ensures

pub returns-in-AtEnd-clause-writes : goal.returns-in-AtEnd-clause-writes
returns-in-AtEnd-clause-writes g c = rw c.end_of.ensures (λ first before. before)
