use Rattle.std.proofs.Common.{List, ℕ, IsTrue, sym, subst}
use Rattle.iam_model.specs.Catalogue.{is_permission}
use Rattle.iam_answer.proofs.Known.{get_is_known}
use Rattle.iam_answer.proofs.nodes.node.Goals as goal

pub forbidden-requires-clause-permission : goal.forbidden-requires-clause-permission
forbidden-requires-clause-permission c = subst (λ (text : List ℕ). IsTrue (is_permission text)) (sym c.get_text.ensures) (get_is_known c.args.node.kind)
