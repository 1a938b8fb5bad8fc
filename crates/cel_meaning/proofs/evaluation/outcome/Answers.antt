use Rattle.std.proofs.Common.{sym}
use Rattle.cel_meaning.proofs.evaluation.outcome.Goals as goal

pub returns-in-Ok : goal.returns-in-Ok
returns-in-Ok g c = sym c.in-Ok.ensures
