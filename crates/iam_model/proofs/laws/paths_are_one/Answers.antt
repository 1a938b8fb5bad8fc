use Rattle.iam_model.proofs.Paths.{path_one}
use Rattle.iam_model.proofs.laws.paths_are_one.Goals as goal

pub returns : goal.returns
returns c = path_one
