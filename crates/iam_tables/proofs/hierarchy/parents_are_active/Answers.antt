use Rattle.iam_model.specs.Hierarchy.{is_below_active}
use Rattle.iam_tables.proofs.Tested.{all_shown}
use Rattle.iam_tables.proofs.hierarchy.parents_are_active.Goals as goal

pub returns : goal.returns
returns c = all_shown (is_below_active c.args.tables.now.nodes) c.args.tables.now.nodes c.all_below_active.result c.all_below_active.ensures
