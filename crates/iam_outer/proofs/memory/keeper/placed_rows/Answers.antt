use Rattle.std.proofs.Common.{arith}
use Rattle.iam_outer.proofs.Keeping.{placed-one_more}
use Rattle.iam_outer.proofs.memory.keeper.placed_rows.Goals as goal

pub loop-at-preserved : goal.loop-at-preserved
loop-at-preserved c = record {
  within = omega (arith, c.loop-at.invariant.within);
  so_far = placed-one_more c.args.rows.now c.loop-at.placed _ c.loop-at.at c.in_ok-copy.field-0 c.index-rows-at.result c.loop-at-test.true c.loop-at.invariant.within c.index-rows-at.is c.in_ok-copy.ensures c.loop-at.invariant.so_far c.in_ok-put_row.ensures.ok;
}
