use Rattle.iam_admit.proofs.Creating.{folder_is_new}
use Rattle.iam_admit.proofs.creation.folder_fits.Goals as goal

pub few_nodes-requires : goal.few_nodes-requires
few_nodes-requires c = folder_is_new c.args.tables.now c.args.node.now c.requires.new
