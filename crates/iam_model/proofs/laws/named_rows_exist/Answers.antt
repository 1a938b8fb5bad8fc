use Rattle.iam_model.proofs.KeepNodeChanges.{named_row_exists}
use Rattle.iam_model.proofs.laws.named_rows_exist.Goals as goal

pub returns : goal.returns
returns c = named_row_exists
