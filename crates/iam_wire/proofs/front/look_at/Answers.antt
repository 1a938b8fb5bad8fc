use Rattle.httparse.specs.Spans.{IsRequestOf}
use Rattle.iam_wire.proofs.Looks.{whole_from}
use Rattle.iam_wire.proofs.front.look_at.Goals as goal

pub returns-in-Ok-Complete : goal.returns-in-Ok-Complete
returns-in-Ok-Complete c =
    let found : IsRequestOf c.args.buf.now c.parse_request.new.headers c.in-Ok-Complete.spans = rw c.in-Ok-Complete.field-0-is at c.in-Ok-Complete.ensures.complete in
    whole_from c.args.buf.now c.parse_request.new.headers c.in-Ok-Complete.spans c.head_of.result found c.head_of.ensures
