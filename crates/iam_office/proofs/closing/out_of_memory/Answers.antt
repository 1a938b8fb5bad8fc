use Rattle.iam_office.proofs.closing.out_of_memory.Goals as goal

pub returns-clause-ends : goal.returns-clause-ends
returns-clause-ends g c = rw c.no_memory_reply.ensures at c.end_with.ensures.ends
