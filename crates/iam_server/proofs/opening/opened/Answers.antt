use Rattle.std.proofs.Common.{inl, ap, ◌∙◌}
use Rattle.std.specs.Prelude.{Err}
use Rattle.iam_server.specs.declared.ends.Status.TheVariants.{Rows}
use Rattle.iam_server.proofs.opening.opened.Goals as goal

pub returns-in-Err-Rows-clause-unopened : goal.returns-in-Err-Rows-clause-unopened
returns-in-Err-Rows-clause-unopened g c =
    let fault = c.in-Err-Rows.ensures.fault c.in-Err-Rows.fault (ap Err c.in-Err-Rows.field-0-is) in
    let status = c.without_talk.ensures.status ∙ ap Rows c.in-Err-Rows.fault-is in
    (c.in-Err-Rows.ensures.err, inl (_, status, fault))
