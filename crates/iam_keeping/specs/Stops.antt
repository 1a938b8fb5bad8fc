-- Why nothing is opened, where a call of the keeper stopped.
use Rattle.iam_outer.specs.declared.keeper.KeeperStop.{KeeperStop}
use Rattle.iam_outer.specs.declared.keeper.KeeperStop.TheVariants as keeper
use Rattle.iam_keeping.specs.declared.stop.OpenStop.{OpenStop}
use Rattle.iam_keeping.specs.declared.stop.OpenStop.TheVariants as opened

-- the keeper failed, or memory was refused
abbrev pub stop_of : KeeperStop → OpenStop
stop_of keeper.Failed = opened.Keeper
stop_of keeper.OutOfMemory = opened.OutOfMemory
