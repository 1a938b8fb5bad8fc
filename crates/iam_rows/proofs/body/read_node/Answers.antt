use Rattle.std.proofs.lemmas.Result.{err_from_is_err_and}
use Rattle.serde_json.specs.View.{view}
use Rattle.iam_rows.proofs.Back.{no_project_read}
use Rattle.iam_rows.proofs.body.read_node.Goals as goal

pub returns-in_err-read_member : goal.returns-in_err-read_member
returns-in_err-read_member c =
    let stop = c.in_err-read_member.field-0.0 in
    let p = err_from_is_err_and c.from_residual-in_err-read_member.result c.from_residual-in_err-read_member.ensures.1 in
    rw (p.1, p.2)
    (no_project_read (view c.args.value.now) c.in_ok-active.active c.in_ok-display.display c.in_ok-parent.parent stop
    c.in_ok-active.ensures c.in_ok-display.ensures c.in_ok-parent.ensures c.in_err-read_member.ensures)
