use Rattle.std.proofs.Common.{inl, inr, refl}
use Rattle.iam_server.proofs.asking.tell.Goals as goal

pub returns-in-Ok-clause-told : goal.returns-in-Ok-clause-told
returns-in-Ok-clause-told g c = inr (_, c.in-Ok.ensures.given, c.tell_at.ensures.wrote)

pub returns-in-Ok-clause-causes : goal.returns-in-Ok-clause-causes
returns-in-Ok-clause-causes g c = λ keeper later. c.tell_at.ensures.causes keeper later _ _

pub returns-in-Err-clause-told : goal.returns-in-Err-clause-told
returns-in-Err-clause-told g c = inl (refl, c.in-Err.ensures.given, refl)

pub returns-in-Err-clause-causes : goal.returns-in-Err-clause-causes
returns-in-Err-clause-causes g c = λ keeper later. record {
  of_keeper = λ is. cc is;
  of_reading = λ is. cc is;
  of_writing = λ is. cc is;
  of_clock = λ _. c.in-Err.ensures.cause.failed;
}
