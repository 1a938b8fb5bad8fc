use Rattle.std.proofs.Common.{◌≡◌, ◌++◌, take}
use Rattle.std.specs.List.{flat_map}
use Rattle.iam_model.specs.Policies.{group_of}
use Rattle.iam_readings.proofs.groups.push_groups.Given as goal

abbrev pub invariant-loop-member : goal.invariant-loop-member
invariant-loop-member l = l.groups ≡ l.initial.groups ++ flat_map group_of (take l.member-index l.members)
