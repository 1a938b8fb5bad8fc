use Rattle.iam_lone.proofs.Standing.{ahead_here, reached_here}
use Rattle.iam_lone.proofs.lone.LoneOffice.at_least.Goals as goal

pub returns-then-floor-known-clause-told : goal.returns-then-floor-known-clause-told
returns-then-floor-known-clause-told g c = ahead_here (Unit {0}) c.histories.ensures c.args.self.now c.take_up.new.self _ _ c.in-Ok.ensures.ok c.number-known.ensures.number c.if-floor-known.true

pub returns-clause-told : goal.returns-clause-told
returns-clause-told g c = reached_here c.histories.ensures c.args.self.now c.take_up.new.self _ _ (tt {0}) c.in-Ok.ensures.ok c.number-known.ensures.number c.if-floor-known.false
