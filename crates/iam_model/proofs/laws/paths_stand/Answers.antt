use Rattle.iam_model.proofs.Paths.{path_few, path_stands}
use Rattle.iam_model.proofs.laws.paths_stand.Goals as goal

pub returns-clause-path : goal.returns-clause-path
returns-clause-path c = path_stands

pub returns-clause-few : goal.returns-clause-few
returns-clause-few c = path_few
