use Rattle.std.proofs.Common.{◌≡◌, ◌+◌, ◌≤◌, drop, length}
use Rattle.iam_model.specs.Policies.{different}
use Rattle.iam_readings.proofs.groups.count_different.Given as goal

abbrev pub invariant-loop-at : goal.invariant-loop-at
invariant-loop-at l = (l.count ≤ l.at) × (l.count + length (different (drop l.at l.groups)) ≡ length (different l.groups))
