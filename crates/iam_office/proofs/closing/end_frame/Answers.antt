use Rattle.std.proofs.Common.{refl}
use Rattle.iam_office.proofs.Finishing.{frame_ends, frame_without_memory, writes_on}
use Rattle.iam_office.proofs.closing.end_frame.Goals as goal

pub returns-in_default-clause-finished : goal.returns-in_default-clause-finished
returns-in_default-clause-finished g c = frame_without_memory _ _ _ _ _ _ _ _ c.out_of_memory.ensures.ends refl

pub returns-in_default-clause-writes : goal.returns-in_default-clause-writes
returns-in_default-clause-writes g c = λ first before. writes_on _ _ _ _ _ _ _ _ refl c.out_of_memory.ensures.ends before

pub returns-in_default-push-clause-finished : goal.returns-in_default-push-clause-finished
returns-in_default-push-clause-finished g c = frame_without_memory _ _ _ _ _ _ _ _ c.out_of_memory-in_default-push.ensures.ends c.in_default-push.ensures.err

pub returns-in_default-push-clause-writes : goal.returns-in_default-push-clause-writes
returns-in_default-push-clause-writes g c = λ first before. writes_on _ _ _ _ _ _ _ _ refl c.out_of_memory-in_default-push.ensures.ends before

pub returns-clause-finished : goal.returns-clause-finished
returns-clause-finished g c = frame_ends _ _ _ _ _ _ _ _ (rw (c.as_slice.ensures, c.in-Ok.ensures) at c.end_with.ensures.ends) c.in-Ok-push.ensures.ok

pub returns-clause-writes : goal.returns-clause-writes
returns-clause-writes g c = λ first before. writes_on _ _ _ _ _ _ _ _ refl c.end_with.ensures.ends before
