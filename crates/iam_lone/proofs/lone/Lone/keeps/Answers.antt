use Rattle.iam_lone.proofs.Waiting.{counted_waiting, good_waiting}
use Rattle.iam_lone.proofs.lone.Lone.keeps.Goals as goal

pub returns-clause-good : goal.returns-clause-good
returns-clause-good g c = rw (← c.self.view_is) (good_waiting c.changes_keep_good.ensures c.self.inside.index c.self.inside.waiting c.tables-tables.ensures.good c.self.invariant.0)

pub returns-clause-counted : goal.returns-clause-counted
returns-clause-counted g c = rw (← c.self.view_is) (counted_waiting c.accepted_changes_are_counted.ensures c.self.inside.index c.self.inside.waiting c.tables-tables.ensures.good c.self.invariant.0)
