use Rattle.iam_answer.proofs.Known.{list_folders_is_known}
use Rattle.iam_answer.proofs.nodes.folders.Goals as goal

pub forbidden-requires-clause-permission : goal.forbidden-requires-clause-permission
forbidden-requires-clause-permission c = list_folders_is_known
