use Rattle.iam_tables.proofs.Tested.{lead_shown}
use Rattle.iam_tables.proofs.hierarchy.parents_lead.Goals as goal

pub returns : goal.returns
returns c = lead_shown c.ways_are_short.ensures c.args.tables.now c.all_lead.result c.all_lead.ensures
