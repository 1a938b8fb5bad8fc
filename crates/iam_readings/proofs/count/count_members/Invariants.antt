use Rattle.std.proofs.Common.{◌≡◌, take}
use Rattle.iam_model.specs.Policies.{count_members}
use Rattle.iam_readings.proofs.count.count_members.Given as goal

abbrev pub invariant-loop-binding : goal.invariant-loop-binding
invariant-loop-binding l = l.count ≡ count_members (take l.binding-index l.bindings)
