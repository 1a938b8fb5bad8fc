use Rattle.cel_grammar.proofs.Whole.{at_most_one}
use Rattle.cel_grammar.proofs.law.one_tree.Goals as goal

pub returns : goal.returns
returns c = at_most_one
