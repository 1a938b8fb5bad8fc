use Rattle.std.proofs.Common.{Option, subst, sym, ◌∙◌}
use Rattle.std.specs.Prelude.{Err}
use Rattle.iam_names.specs.declared.node.NodeId.{NodeId}
use Rattle.iam_types.specs.declared.refusal.Refusal.{Refusal}
use Rattle.iam_admit.specs.Follows.{Follows}
use Rattle.iam_admit.proofs.Following.{behind_permission, later_rules, stops}
use Rattle.iam_admit.proofs.allow.keeps_rules.Goals as goal

pub returns-in-Ok-clause-follows : goal.returns-in-Ok-clause-follows
returns-in-Ok-clause-follows c =
    behind_permission c.args.index.now c.tables-tables.result.now c.args.entry.now.caller c.args.entry.now.moment c.args.name.now c.args.version c.args.etag c.args.bindings.now c.as_slice-given.result.now c.in_ok-node.node
    c.tables-tables.ensures.tables c.as_slice-given.ensures c.in_ok-node.ensures.node c.in_ok-active.ensures c.in_ok-may_set.ensures
    ∙ c.in-Ok.ensures

pub returns-in-Err-clause-follows : goal.returns-in-Err-clause-follows
returns-in-Err-clause-follows c =
    let behind = behind_permission c.args.index.now c.tables-tables.result.now c.args.entry.now.caller c.args.entry.now.moment c.args.name.now c.args.version c.args.etag c.args.bindings.now c.as_slice-given.result.now c.in_ok-node.node
    c.tables-tables.ensures.tables c.as_slice-given.ensures c.in_ok-node.ensures.node c.in_ok-active.ensures c.in_ok-may_set.ensures in
    subst (λ (refusal : Option Refusal). Follows {X = NodeId} (Err c.in-Err.stop) refusal) (sym behind)
    (stops (Unit {0}) NodeId c.in-Err.stop (later_rules c.tables-tables.result.now c.in_ok-node.node c.args.version c.args.etag c.args.bindings.now) c.in-Err.ensures)
