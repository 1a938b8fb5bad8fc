use Rattle.cel_types.proofs.OneKind.{one_fault}
use Rattle.cel_types.proofs.laws.at_most_one_fault.Goals as goal

pub returns : goal.returns
returns c = λ place e f g h i. one_fault h g i
