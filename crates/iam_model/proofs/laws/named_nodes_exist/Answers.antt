use Rattle.iam_model.proofs.Existing.{resolved_exists}
use Rattle.iam_model.proofs.laws.named_nodes_exist.Goals as goal

pub returns : goal.returns
returns c = resolved_exists
