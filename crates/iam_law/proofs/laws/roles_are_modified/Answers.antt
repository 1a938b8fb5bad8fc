use Rattle.iam_law.proofs.Modified.{modified}
use Rattle.iam_law.proofs.laws.roles_are_modified.Goals as goal

pub returns : goal.returns
returns c = modified
