use Rattle.iam_admit.proofs.Known.{project_creation_is_known}
use Rattle.iam_admit.proofs.creation.accepted_project.Goals as goal

pub may-requires-clause-permission : goal.may-requires-clause-permission
may-requires-clause-permission c = project_creation_is_known
