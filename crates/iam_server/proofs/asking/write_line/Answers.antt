use Rattle.iam_server.proofs.asking.write_line.Goals as goal

pub returns-in-Ok-clause-wrote : goal.returns-in-Ok-clause-wrote
returns-in-Ok-clause-wrote g c = rw (c.as_bytes.ensures.value, c.as_str.ensures.value) at c.in-Ok.ensures.ok

pub returns-in-Err-clause-wrote : goal.returns-in-Err-clause-wrote
returns-in-Err-clause-wrote g c = rw (c.as_bytes.ensures.value, c.as_str.ensures.value) at c.in-Err.ensures.err

pub returns-in-Err-clause-causes : goal.returns-in-Err-clause-causes
returns-in-Err-clause-causes g c = λ keeper keeper_later clock clock_later. record {
  of_keeper = λ is. cc is;
  of_reading = λ is. cc is;
  of_writing = λ _. c.in-Err.ensures.cause.failed;
  of_clock = λ is. cc is;
}
