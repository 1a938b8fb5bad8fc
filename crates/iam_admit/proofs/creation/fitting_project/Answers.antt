use Rattle.std.proofs.Common.{refl}
use Rattle.iam_admit.proofs.creation.fitting_project.Goals as goal

pub project_fits-requires-clause-new : goal.project_fits-requires-clause-new
project_fits-requires-clause-new c = rw c.in_ok-node.ensures (record { consistent = c.requires.consistent; is = refl })
