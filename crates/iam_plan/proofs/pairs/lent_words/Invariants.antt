use Rattle.std.proofs.Common.{◌≡◌, take}
use Rattle.iam_plan.specs.Values.{texts}
use Rattle.iam_plan.proofs.pairs.lent_words.Given as goal

abbrev pub invariant-loop-word : goal.invariant-loop-word
invariant-loop-word l = texts l.lent.items ≡ take l.word-index l.words
