use Rattle.cel_types.proofs.OfKind.{kept}
use Rattle.cel_types.proofs.laws.outcomes_are_of_the_kind.Goals as goal

pub returns : goal.returns
returns c = λ x place e k o h m. kept m place k h
