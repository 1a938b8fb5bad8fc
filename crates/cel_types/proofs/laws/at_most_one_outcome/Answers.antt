use Rattle.cel_types.proofs.OneOutcome.{one_outcome}
use Rattle.cel_types.proofs.laws.at_most_one_outcome.Goals as goal

pub returns : goal.returns
returns c = λ x e o p h i. one_outcome h p i
