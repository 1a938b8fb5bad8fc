use Rattle.cel_types.proofs.OneKind.{no_fault}
use Rattle.cel_types.proofs.laws.conditions_have_no_fault.Goals as goal

pub returns : goal.returns
returns c = λ place e fault h f. no_fault f h
