use Rattle.iam_law.proofs.Histories.{accepted_more, state_more}
use Rattle.iam_law.proofs.laws.histories_grow.Goals as goal

pub returns-clause-legal : goal.returns-clause-legal
returns-clause-legal c = λ tables entries entry legal formed accepted. (legal.0, accepted_more entries tables entry legal.1 formed accepted)

pub returns-clause-grown : goal.returns-clause-grown
returns-clause-grown c = λ tables entries entry. state_more entries tables entry
