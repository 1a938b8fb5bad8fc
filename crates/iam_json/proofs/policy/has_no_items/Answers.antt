use Rattle.iam_json.proofs.Lists.{view_of_none}
use Rattle.iam_json.proofs.policy.has_no_items.Goals as goal

pub returns : goal.returns
returns c = view_of_none c.args.items.now _ c.is_empty.ensures
