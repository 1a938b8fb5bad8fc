use Rattle.cel_shown.proofs.Named.{derived_reads}
use Rattle.cel_shown.proofs.laws.derived_is_readable.Goals as goal

pub returns : goal.returns
returns c = λ tokens a h d. derived_reads d.2 h
