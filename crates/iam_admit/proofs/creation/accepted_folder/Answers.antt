use Rattle.iam_admit.proofs.Known.{folder_creation_is_known}
use Rattle.iam_admit.proofs.creation.accepted_folder.Goals as goal

pub may-requires-clause-permission : goal.may-requires-clause-permission
may-requires-clause-permission c = folder_creation_is_known
