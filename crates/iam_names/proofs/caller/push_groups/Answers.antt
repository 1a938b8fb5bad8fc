use Rattle.std.proofs.Common.{rules}
use Rattle.iam_names.proofs.Groups.{one_more_group}
use Rattle.iam_names.proofs.caller.push_groups.Goals as goal

pub loop-group-preserved : goal.loop-group-preserved
loop-group-preserved c = record {
  written = one_more_group c.args.groups.now c.loop-group.group-index c.group-item.result c.loop-group.separator.now _ _ _ c.loop-group-test.true c.group-item.is (search rules) c.loop-group.invariant.written;
  separator_is_text = search rules;
}
