use Rattle.cel_grammar.specs.Position.{start_of}
use Rattle.cel_shown.proofs.Light.{lighter}
use Rattle.cel_shown.proofs.laws.written_is_no_larger.Goals as goal

pub returns : goal.returns
returns c = λ tokens others a d e. lighter (start_of tokens) d.0 a others d.2 e
