use Rattle.std.proofs.Common.{◌∙◌, ap, refl, sym}
use Rattle.iam_law.specs.Admit.{admission}
use Rattle.iam_lone.specs.Lone.{Alone}
use Rattle.iam_lone.proofs.Standing.{refused_here}
use Rattle.iam_lone.proofs.Waiting.{as_unjudged, judged_here}
use Rattle.iam_lone.proofs.lone.Lone.judge.Goals as goal

pub returns-in-Ok-Ok-clause-told : goal.returns-in-Ok-Ok-clause-told
returns-in-Ok-Ok-clause-told g c = judged_here c.args.self.now _ c.args.entry _ c.requires.none (rw (← c.self.view_is) c.store.ensures.told)

pub returns-in-Ok-Err-clause-told : goal.returns-in-Ok-Err-clause-told
returns-in-Ok-Err-clause-told g c =
    let refused = rw c.in-Ok-Err.field-0-is at c.in-Ok-Err.ensures.refused in
    refused_here c.args.self.now c.args.entry _ _ c.requires.none c.number.ensures.number
    (ap (λ (l : Alone g.row.P.Denot). admission l.tables c.args.entry) (sym c.self.view_is) ∙ refused)

pub returns-in-Err-clause-told : goal.returns-in-Err-clause-told
returns-in-Err-clause-told g c = as_unjudged _ _ c.args.entry refl
