use Rattle.std.proofs.Common.{◌≡◌, take}
use Rattle.iam_model.specs.Policies.{count_all_members}
use Rattle.iam_readings.proofs.count.count_all_members.Given as goal

abbrev pub invariant-loop-policy : goal.invariant-loop-policy
invariant-loop-policy l = l.count ≡ count_all_members (take l.policy-index l.allows)
