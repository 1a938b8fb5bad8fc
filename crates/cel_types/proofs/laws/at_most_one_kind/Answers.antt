use Rattle.cel_types.proofs.OneKind.{one_kind}
use Rattle.cel_types.proofs.laws.at_most_one_kind.Goals as goal

pub returns : goal.returns
returns c = λ place e k l h i. one_kind h l i
