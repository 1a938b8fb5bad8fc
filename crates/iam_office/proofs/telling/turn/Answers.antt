use Rattle.iam_office.proofs.telling.turn.Goals as goal

pub returns-clause-turned : goal.returns-clause-turned
returns-clause-turned g c = record { reply = _; handled = c.handle-told.ensures.handled; sent = c.send_reply-sent.ensures.sent }
