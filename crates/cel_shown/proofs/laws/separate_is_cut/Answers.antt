use Rattle.cel_shown.proofs.Cutting.{printed}
use Rattle.cel_shown.proofs.laws.separate_is_cut.Goals as goal

pub returns : goal.returns
returns c = λ ps s. printed ps s
