use Rattle.iam_model.proofs.KeepCreation.{depth_counted, folders_counted, names_counted, nodes_counted}
use Rattle.iam_model.proofs.laws.new_nodes_are_counted.Goals as goal

pub returns-clause-nodes : goal.returns-clause-nodes
returns-clause-nodes c = nodes_counted

pub returns-clause-folders : goal.returns-clause-folders
returns-clause-folders c = folders_counted

pub returns-clause-depth : goal.returns-clause-depth
returns-clause-depth c = depth_counted

pub returns-clause-names : goal.returns-clause-names
returns-clause-names c = names_counted
