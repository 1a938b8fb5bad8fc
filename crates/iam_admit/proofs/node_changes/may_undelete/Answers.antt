use Rattle.std.proofs.Common.{ℕ, List, sym, subst}
use Rattle.std.specs.Prelude.{IsTrue}
use Rattle.iam_model.specs.Catalogue.{is_permission}
use Rattle.iam_model.specs.Nodes.{kind_named}
use Rattle.iam_admit.proofs.Known.{undeletion_is_known}
use Rattle.iam_admit.proofs.node_changes.may_undelete.Goals as goal

pub may-requires-clause-permission : goal.may-requires-clause-permission
may-requires-clause-permission c = subst (λ (text : List ℕ). IsTrue (is_permission text)) (sym c.undelete_text-text.ensures) (undeletion_is_known (kind_named c.args.name.now) c.requires.name)
