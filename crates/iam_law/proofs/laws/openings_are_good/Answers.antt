use Rattle.iam_model.specs.Opening.{opening_tables}
use Rattle.iam_law.proofs.laws.openings_are_good.Goals as goal

pub returns : goal.returns
returns c = λ opening formed. let consistent = c.openings_are_consistent.ensures opening formed in (consistent, c.conditions_stand.ensures (opening_tables opening) consistent)
