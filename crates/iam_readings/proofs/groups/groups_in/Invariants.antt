use Rattle.std.proofs.Common.{◌≡◌, take}
use Rattle.iam_model.specs.Policies.{groups_in}
use Rattle.iam_readings.proofs.groups.groups_in.Given as goal

abbrev pub invariant-loop-binding : goal.invariant-loop-binding
invariant-loop-binding l = l.groups ≡ groups_in (take l.binding-index l.bindings)
