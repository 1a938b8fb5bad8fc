use Rattle.iam_wire.specs.declared.fault.FrameFault.{FrameFault}
use Rattle.iam_office.specs.declared.stop.Stop.TheVariants.{Fault, OutOfMemory}
use Rattle.iam_office.proofs.Streaming.{without_reading}
use Rattle.iam_office.proofs.exchange.look.Goals as goal

pub returns-in-Fault-clause-looked : goal.returns-in-Fault-clause-looked
returns-in-Fault-clause-looked g c = without_reading _ _ (Fault c.in-Fault.fault) c.in-Fault.ensures.0

pub returns-in-OutOfMemory-clause-looked : goal.returns-in-OutOfMemory-clause-looked
returns-in-OutOfMemory-clause-looked g c = without_reading _ c.args.wire.now OutOfMemory tt
