use Rattle.cel_lexer.proofs.Only.{only}
use Rattle.cel_lexer.proofs.cutting.one_cut.Goals as goal

pub returns : goal.returns
returns c = only
