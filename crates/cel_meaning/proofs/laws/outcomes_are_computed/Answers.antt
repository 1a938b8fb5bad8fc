use Rattle.cel_meaning.proofs.Meaning.{outcome_iff}
use Rattle.cel_meaning.proofs.laws.outcomes_are_computed.Goals as goal

pub returns : goal.returns
returns c = outcome_iff
