use Rattle.cel_grammar.proofs.Whole.{is_tree, tree_is}
use Rattle.cel_grammar.proofs.law.tree_is_computed.Goals as goal

pub returns : goal.returns
returns c = λ tokens a. (is_tree tokens a, tree_is tokens a)
