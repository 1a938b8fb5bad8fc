-- What is known of a keeper over a database.
use Rattle.std.specs.Prelude.{◌≡◌, ◌↔◌, ℕ, IsErrOf}
use Rattle.std.specs.Result.{IsErr}
use Rattle.std.specs.declared.option.Option.{Option}
use Rattle.std.specs.declared.result.Result.{Result}
use Rattle.sqlite.specs.declared.error.Error.{Error}
use Rattle.sqlite.specs.declared.error.Error.TheVariants.{SqliteFailure}
use Rattle.sqlite.specs.declared.error.ErrorCode.TheVariants as code
use Rattle.iam_outer.specs.declared.keeper.KeeperStop.{KeeperStop}
use Rattle.iam_outer.specs.declared.keeper.KeeperStop.TheVariants.{OutOfMemory}

-- why there is no database, where it couldn't be opened, and how many calls failed
pub record Known : Type 0 where
  pub failure : Option Error
  pub faults : ℕ

-- memory was refused exactly where the database says so
abbrev pub IsStopFor : Error → KeeperStop → Type 0
IsStopFor error stop = (stop ≡ OutOfMemory) ↔ (error ≡ SqliteFailure code.OutOfMemory)

-- a call answers the failure: as a want of memory where it is one, and else as a fault
pub record AnswersFailure {T : Type 0} (result : Result T KeeperStop) (error : Error) : Type 0 where
  pub refused : IsErr result
  pub named : IsErrOf result OutOfMemory ↔ (error ≡ SqliteFailure code.OutOfMemory)
