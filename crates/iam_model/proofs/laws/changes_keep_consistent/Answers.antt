use Rattle.iam_model.specs.Commands.{after, changes_of}
use Rattle.iam_model.proofs.Fitting.{leads_consistent}
use Rattle.iam_model.proofs.Keeping.{entry_leads}
use Rattle.iam_model.proofs.laws.changes_keep_consistent.Goals as goal

pub returns : goal.returns
returns c = λ tables entry consistent formed fitting. leads_consistent tables (changes_of tables entry) (after tables entry) consistent (entry_leads tables entry consistent formed fitting)
