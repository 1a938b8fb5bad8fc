use Rattle.std.proofs.Common.{arith}
use Rattle.iam_answer.specs.Asking.{is_allowed}
use Rattle.iam_answer.proofs.Tests.{filter-more}
use Rattle.iam_answer.proofs.testing.allowed_of.Goals as goal

pub loop-permission-preserved : goal.loop-permission-preserved
loop-permission-preserved c = filter-more (is_allowed c.args.index.now c.args.node c.args.caller.now c.args.moment) c.args.permissions.now c.loop-permission.allowed _ c.loop-permission.permission-index c.permission-item.result (omega arith) c.permission-item.is c.loop-permission.invariant c.in_ok-push_allowed.ensures
