use Rattle.std.proofs.Common.{sym, subst}
use Rattle.iam_rows.specs.Kept.{KeepsTables}
use Rattle.iam_lone.proofs.Waiting.{advanced_same, advanced_waits}
use Rattle.iam_lone.proofs.lone.Lone.take_up.Goals as goal

pub invariant_of-self : goal.invariant_of-self
invariant_of-self g c = (
  advanced_waits _ _ _ _ _ c.advance.ensures.ok c.advance.ensures.err c.self.invariant.0,
  subst (KeepsTables (g.P.Keeper.rows c.self.inside.keeper)) (sym (advanced_same _ _ _ _ _ c.advance.ensures.ok c.advance.ensures.err)) c.self.invariant.1,
)
