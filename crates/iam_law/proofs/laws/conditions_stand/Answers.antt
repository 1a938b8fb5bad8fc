use Rattle.iam_law.proofs.Conditions.{conditions_stand}
use Rattle.iam_law.proofs.laws.conditions_stand.Goals as goal

pub returns : goal.returns
returns c = λ tables consistent. conditions_stand tables (c.policies_are_formed.ensures tables consistent) (c.nothing_else_is_kept.ensures tables consistent)
