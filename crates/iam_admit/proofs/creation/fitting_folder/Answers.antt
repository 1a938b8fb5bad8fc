use Rattle.std.proofs.Common.{refl}
use Rattle.iam_admit.proofs.creation.fitting_folder.Goals as goal

pub folder_fits-requires-clause-new : goal.folder_fits-requires-clause-new
folder_fits-requires-clause-new c = rw c.in_ok-node.ensures (record { consistent = c.requires.consistent; there = c.requires.parent; is = refl })
