use Rattle.cel_meaning.proofs.Dates.{part_iff}
use Rattle.cel_meaning.proofs.laws.parts_are_computed.Goals as goal

pub returns : goal.returns
returns c = part_iff
