use Rattle.iam_readings.proofs.Climbing.{found_there}
use Rattle.iam_readings.proofs.nodes.resolve.Goals as goal

pub returns-clause-there : goal.returns-clause-there
returns-clause-there c = found_there c.named_nodes_exist.ensures c.args.tables.now c.args.name.now c.node_of.result c.node_of.ensures
