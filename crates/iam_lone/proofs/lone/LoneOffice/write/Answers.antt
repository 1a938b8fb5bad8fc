use Rattle.std.proofs.Common.{◌∙◌, ◌+◌, ap, sym}
use Rattle.iam_office.specs.Office.{accepted_by}
use Rattle.iam_lone.proofs.Standing.{judged_told, judged_counted}
use Rattle.iam_lone.proofs.lone.LoneOffice.write.Goals as goal

pub returns-clause-told : goal.returns-clause-told
returns-clause-told g c = judged_told c.histories.ensures _ _ c.args.entry _ c.requires c.attempt-told.ensures.told

pub returns-clause-accepted : goal.returns-clause-accepted
returns-clause-accepted g c =
    sym c.keeps-2.ensures.counted
    ∙ judged_counted c.histories.ensures c.written_answers_accept.ensures _ _ c.args.entry _ c.keeps.ensures.good c.requires c.attempt-told.ensures.told
    ∙ ap (λ n. n + accepted_by c.attempt-told.result) c.keeps.ensures.counted
