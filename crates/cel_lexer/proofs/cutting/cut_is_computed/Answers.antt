use Rattle.cel_lexer.proofs.Only.{is_cut, cut_is_of}
use Rattle.cel_lexer.proofs.cutting.cut_is_computed.Goals as goal

pub returns : goal.returns
returns c = λ text cut. (is_cut text cut, cut_is_of text cut)
