use Rattle.std.proofs.Common.{Some, None}
use Rattle.iam_names.specs.Node.{name_of_node}
use Rattle.iam_names.specs.declared.node.NodeName.TheVariants.{ProjectId}
use Rattle.iam_names.proofs.Forms.{no_node_name, node_name_back, number_named}
use Rattle.iam_names.proofs.node.NodeName.read.Goals as goal

pub returns-in-Some-clause-back : goal.returns-in-Some-clause-back
returns-in-Some-clause-back c = rw c.name.ensures (node_name_back c.args.text.now (Some (name_of_node c.in-Some.node)) (number_named c.args.text.now c.in-Some.node c.in-Some.ensures.read))

pub returns-in_default-project_id_behind-clause-read : goal.returns-in_default-project_id_behind-clause-read
returns-in_default-project_id_behind-clause-read c = no_node_name c.args.text.now c.in_default.ensures.read c.in_default-project_id_behind.ensures.none

pub returns-in_default-project_id_behind-clause-back : goal.returns-in_default-project_id_behind-clause-back
returns-in_default-project_id_behind-clause-back c = node_name_back c.args.text.now None (no_node_name c.args.text.now c.in_default.ensures.read c.in_default-project_id_behind.ensures.none)

pub returns-clause-back : goal.returns-clause-back
returns-clause-back c = rw c.in_ok-of.ensures (node_name_back c.args.text.now (Some (ProjectId c.in-Some-project_id_behind.id.now)) c.in-Some-project_id_behind.ensures.some)
