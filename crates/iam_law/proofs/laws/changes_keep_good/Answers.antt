use Rattle.iam_model.specs.Commands.{after}
use Rattle.iam_law.proofs.laws.changes_keep_good.Goals as goal

pub returns : goal.returns
returns c = λ tables entry good formed accepted. let consistent = c.changes_keep_consistent.ensures tables entry good.0 formed (c.accepted_entries_fit.ensures tables entry accepted) in (consistent, c.conditions_stand.ensures (after tables entry) consistent)
