use Rattle.std.proofs.Common.{◌∙◌}
use Rattle.iam_plan.proofs.Words.{among_texts}
use Rattle.iam_plan.proofs.pairs.is_option.Goals as goal

pub returns : goal.returns
returns c = c.any_word_of.ensures ∙ among_texts c.args.names.now c.args.word.now
