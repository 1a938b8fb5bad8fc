use Rattle.std.proofs.Common.{List, ℕ, IsTrue, sym, subst}
use Rattle.iam_model.specs.Catalogue.{is_permission}
use Rattle.iam_judge.proofs.asking.forbidden.Goals as goal

pub decision_on-requires-clause-permission : goal.decision_on-requires-clause-permission
decision_on-requires-clause-permission c = subst (λ (text : List ℕ). IsTrue (is_permission text)) (sym c.in_ok-permission.ensures) c.requires.permission
