use Rattle.cel_value.specs.declared.value.Outcome.{Outcome}
use Rattle.cel_value.specs.declared.value.Outcome.TheVariants.{Given, Stopped}
use Rattle.cel_types.specs.Laws.{IsTruthOrFault}
use Rattle.cel_types.specs.OfKind as of
use Rattle.cel_types.specs.OfKind.{OutcomeIsOf}
use Rattle.cel_types.specs.Kinds.{truth}
use Rattle.cel_types.proofs.OfKind.{kept, truth_value}
use Rattle.cel_types.proofs.laws.conditions_come_to_truths.Goals as goal

truth_or_fault : (o : Outcome) → OutcomeIsOf o truth → IsTruthOrFault o
truth_or_fault (Given v) (of.given h) = truth_value v h
truth_or_fault (Stopped fault) of.stopped = tt

pub returns : goal.returns
returns c = λ x place e o h m. truth_or_fault o (kept m place truth h)
