use Rattle.std.proofs.Common.{◌∙◌, ap, sym}
use Rattle.iam_outer.specs.Given.{moment_at}
use Rattle.iam_outer.specs.Memory.{Ticking}
use Rattle.iam_outer.proofs.Telling.{gives_one}
use Rattle.iam_outer.proofs.memory.clock.MemoryClockClock.now.Goals as goal

pub returns-clause-given : goal.returns-clause-given
returns-clause-given c =
    let is = c.next-moment.ensures.moment ∙ ap (λ (k : Ticking). moment_at k.moments k.given) (sym c.self.view_is) in
    rw (← c.self.view_is) (gives_one _ _ _ _ is c.saturating_add-self-inside.ensures)
