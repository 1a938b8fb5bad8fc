use Rattle.std.proofs.Common.{◌≡◌, filter, take}
use Rattle.iam_answer.specs.Asking.{is_allowed}
use Rattle.iam_answer.proofs.testing.allowed_of.Given as goal

abbrev pub invariant-loop-permission : goal.invariant-loop-permission
invariant-loop-permission l = l.allowed ≡ filter (is_allowed l.index l.node l.caller l.moment) (take l.permission-index l.permissions)
