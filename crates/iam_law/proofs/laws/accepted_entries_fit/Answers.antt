use Rattle.iam_model.specs.Commands.{rules_of}
use Rattle.iam_law.specs.Admit.{asked_of}
use Rattle.iam_law.proofs.laws.accepted_entries_fit.Goals as goal

pub returns : goal.returns
returns c = λ tables entry. c.accepted_rules_fit.ensures (rules_of tables entry) (asked_of tables entry)
