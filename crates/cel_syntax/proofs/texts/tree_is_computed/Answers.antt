use Rattle.cel_syntax.proofs.Computed.{is_text, text_is, is_fault, fault_is}
use Rattle.cel_syntax.proofs.texts.tree_is_computed.Goals as goal

pub returns-clause-tree : goal.returns-clause-tree
returns-clause-tree c = λ text a. (is_text text a, text_is text a)

pub returns-clause-fault : goal.returns-clause-fault
returns-clause-fault c = λ text f. (is_fault text f, fault_is text f)
