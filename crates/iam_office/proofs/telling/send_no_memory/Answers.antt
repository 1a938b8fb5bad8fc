use Rattle.iam_office.proofs.telling.send_no_memory.Goals as goal

pub returns-clause-sent : goal.returns-clause-sent
returns-clause-sent g c = rw c.no_memory_reply.ensures at c.send.ensures.sent
