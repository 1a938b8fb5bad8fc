use Rattle.std.proofs.Common.{◌≡◌, take}
use Rattle.std.specs.Prelude.{filter}
use Rattle.iam_model.specs.Policies.{has_members}
use Rattle.iam_readings.proofs.made.with_members.Given as goal

abbrev pub invariant-loop-binding : goal.invariant-loop-binding
invariant-loop-binding l = l.kept ≡ filter has_members (take l.binding-index l.bindings)
