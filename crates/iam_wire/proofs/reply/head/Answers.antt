use Rattle.iam_wire.proofs.reply.head.Goals as goal

pub returns : goal.returns
returns c =
    rw (c.in_ok-push_str-4.ensures.bytes, c.in_ok-write-2.ensures.bytes, c.in_ok-push_str-3.ensures.bytes, c.in_ok-push_str-2.ensures.bytes, c.in_ok-push_str.ensures.bytes, c.in_ok-write.ensures.bytes, c.in_ok-text.ensures.ok, c.phrase.ensures)
