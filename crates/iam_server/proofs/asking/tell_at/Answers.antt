use Rattle.iam_server.proofs.asking.tell_at.Goals as goal

pub returns-in-Ok-clause-wrote : goal.returns-in-Ok-clause-wrote
returns-in-Ok-clause-wrote g c = rw (c.in-Ok.ensures, c.as_str-permission.ensures.value) at c.write_line.ensures.wrote
