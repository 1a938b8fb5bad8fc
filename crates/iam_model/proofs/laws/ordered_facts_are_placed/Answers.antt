use Rattle.iam_model.proofs.Places.{ordered_placed}
use Rattle.iam_model.proofs.laws.ordered_facts_are_placed.Goals as goal

pub returns : goal.returns
returns c = ordered_placed
