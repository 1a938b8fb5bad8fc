use Rattle.iam_office.proofs.telling.send_stored.Goals as goal

pub returns-clause-sent : goal.returns-clause-sent
returns-clause-sent g c = rw c.bytes.ensures at c.send.ensures.sent
