use Rattle.cel_types.proofs.KindOf.{fault_iff, kind_iff}
use Rattle.cel_types.proofs.laws.kinds_are_computed.Goals as goal

pub returns-clause-kind : goal.returns-clause-kind
returns-clause-kind c = kind_iff

pub returns-clause-fault : goal.returns-clause-fault
returns-clause-fault c = fault_iff
