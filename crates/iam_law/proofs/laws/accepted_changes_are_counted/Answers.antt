use Rattle.iam_law.proofs.laws.accepted_changes_are_counted.Goals as goal

pub returns : goal.returns
returns c = λ tables entry good formed accepted. c.changes_are_counted.ensures tables entry good.0 formed (c.accepted_entries_fit.ensures tables entry accepted)
