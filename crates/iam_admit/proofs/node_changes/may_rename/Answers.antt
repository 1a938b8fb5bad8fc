use Rattle.std.proofs.Common.{[], sym, subst}
use Rattle.std.specs.Prelude.{codes}
use Rattle.iam_names.specs.declared.node.NodeKind.{NodeKind}
use Rattle.iam_law.specs.Asked.{forbidden, permission_at, query_on}
use Rattle.iam_admit.specs.Follows.{Follows}
use Rattle.iam_admit.proofs.Known.{renaming_is_known}
use Rattle.iam_admit.proofs.node_changes.may_rename.Goals as goal

pub may-requires-clause-permission : goal.may-requires-clause-permission
may-requires-clause-permission c = renaming_is_known

pub returns : goal.returns
returns c =
    subst (λ (kind : NodeKind). Follows c.may.result (forbidden c.args.index.now (query_on c.args.entry.now.caller c.args.entry.now.moment [] (permission_at kind (codes "update")) c.args.row.now.id)))
    (sym c.requires.name) c.may.ensures
