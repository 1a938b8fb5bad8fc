use Rattle.std.proofs.Common.{◌≡◌, ◌∙◌, ap, Some}
use Rattle.iam_text.specs.Put.{placed}
use Rattle.iam_outer.specs.Rows.{row_order, after_writes}
use Rattle.iam_outer.specs.Memory.{Keeping}
use Rattle.iam_outer.proofs.Keeping.{placed-after_writes}
use Rattle.iam_outer.proofs.memory.keeper.MemoryKeeperKeeper.commit.Goals as goal

pub returns-clause-ok : goal.returns-clause-ok
returns-clause-ok c =
    let was : c.in_ok-rows.rows ≡ placed row_order c.args.self.now.rows = c.in_ok-rows.ensures ∙ ap (placed row_order) c.as_slice.ensures ∙ ap (λ (k : Keeping). placed row_order k.rows) c.self.view_is in
    let is : c.make_all.new.rows ≡ after_writes c.args.writes.now (placed row_order c.args.self.now.rows) = c.in_ok-make_all.ensures ∙ ap (after_writes c.args.writes.now) was in
    ap Some (ap (placed row_order) is ∙ placed-after_writes c.args.writes.now c.args.self.now.rows)
