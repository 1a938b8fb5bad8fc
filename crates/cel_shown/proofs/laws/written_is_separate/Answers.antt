use Rattle.std.proofs.Common.{false}
use Rattle.cel_grammar.specs.declared.level.Sort.TheVariants.{Whole}
use Rattle.cel_shown.proofs.Separated.{runs}
use Rattle.cel_shown.proofs.laws.written_is_separate.Goals as goal

pub returns : goal.returns
returns c = λ a h. (runs a).at h false Whole false
