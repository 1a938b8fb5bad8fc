use Rattle.std.proofs.Common.{inl, inr, refl}
use Rattle.iam_server.proofs.Endings.{early_causes, same_rows}
use Rattle.iam_server.proofs.asking.ask.Goals as goal

pub returns-in-Ok-clause-came : goal.returns-in-Ok-clause-came
returns-in-Ok-clause-came g c = λ db. inr (record {
  tables = _;
  opened = c.in-Ok.ensures.opened;
  told = rw c.without_talk.ensures.status c.tell-status.ensures.told;
  unread = (c.tell-status.ensures.left, c.tell-status.ensures.read_faults);
  kept = same_rows _ _ c.in-Ok.ensures.left;
  traceless = c.without_talk.ensures.trace;
})

pub returns-in-Ok-clause-causes : goal.returns-in-Ok-clause-causes
returns-in-Ok-clause-causes g c = rw c.without_talk.ensures.status (c.tell-status.ensures.causes _ _)

pub returns-in-Ok-clause-clock : goal.returns-in-Ok-clause-clock
returns-in-Ok-clause-clock g c = rw c.without_talk.ensures.trace c.tell-status.ensures.clock

pub returns-in-Err-clause-came : goal.returns-in-Err-clause-came
returns-in-Err-clause-came g c = λ db. inl (c.in-Err.ensures.unopened, (refl, refl, c.in-Err.ensures.traceless))

pub returns-in-Err-clause-causes : goal.returns-in-Err-clause-causes
returns-in-Err-clause-causes g c = early_causes _ _ _ _ _ _ _ _ _ _ _ _ c.in-Err.ensures.unopened c.in-Err.ensures.cause
