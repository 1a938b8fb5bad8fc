use Rattle.cel_types.proofs.OneKind.{no_kind}
use Rattle.cel_types.proofs.laws.faults_have_no_kind.Goals as goal

pub returns : goal.returns
returns c = λ place e fault k h. no_kind h k
