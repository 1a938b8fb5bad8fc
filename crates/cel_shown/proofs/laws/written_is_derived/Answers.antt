use Rattle.cel_grammar.specs.declared.level.Sort.TheVariants.{Whole}
use Rattle.std.proofs.Common.{false}
use Rattle.cel_shown.proofs.Again.{again}
use Rattle.cel_shown.proofs.laws.written_is_derived.Goals as goal

pub returns : goal.returns
returns c = λ a h i j t. (again a).at h Whole false i j t
