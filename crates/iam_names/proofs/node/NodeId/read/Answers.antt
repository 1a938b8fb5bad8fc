use Rattle.std.proofs.Common.{Some, None}
use Rattle.iam_names.specs.declared.node.NodeKind.TheVariants.{Organization}
use Rattle.iam_names.proofs.Forms.{no_node_id, node_id_back}
use Rattle.iam_names.proofs.node.NodeId.read.Goals as goal

pub returns-in-Some-clause-back : goal.returns-in-Some-clause-back
returns-in-Some-clause-back c = node_id_back c.args.text.now (Some (record { kind = Organization; number = c.in-Some.number })) c.in-Some.ensures.read

pub returns-in_default-number_behind-2-clause-read : goal.returns-in_default-number_behind-2-clause-read
returns-in_default-number_behind-2-clause-read c = no_node_id c.args.text.now c.in_default.ensures.read c.in_default-number_behind.ensures.read c.in_default-number_behind-2.ensures.read

pub returns-in_default-number_behind-2-clause-back : goal.returns-in_default-number_behind-2-clause-back
returns-in_default-number_behind-2-clause-back c = node_id_back c.args.text.now None (no_node_id c.args.text.now c.in_default.ensures.read c.in_default-number_behind.ensures.read c.in_default-number_behind-2.ensures.read)
