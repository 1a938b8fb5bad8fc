use Rattle.std.proofs.Common.{arith, sym}
use Rattle.iam_text.proofs.InOrder.{put-set}
use Rattle.iam_text.proofs.ordered.place_of.Goals as goal

pub returns-in-Equal : goal.returns-in-Equal
returns-in-Equal g c =
    (omega arith, put-set g.T.Ordered.order c.args.row.now c.args.rows.now c.loop-at.at c.index-rows-at.result (omega arith) c.index-rows-at.is (sym c.in-Equal.ensures) c.loop-at.invariant)
