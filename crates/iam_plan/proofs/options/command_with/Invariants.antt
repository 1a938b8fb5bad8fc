use Rattle.std.proofs.Common.{◌≡◌, take}
use Rattle.clap.specs.Words.{app_of}
use Rattle.iam_plan.specs.Clap.{app_with}
use Rattle.iam_plan.specs.Values.{texts}
use Rattle.iam_plan.proofs.options.command_with.Given as goal

abbrev pub invariant-loop-name : goal.invariant-loop-name
invariant-loop-name l = app_of l.command ≡ app_with (texts (take l.name-index l.names))
