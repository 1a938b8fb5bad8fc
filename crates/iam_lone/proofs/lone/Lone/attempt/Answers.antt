use Rattle.std.proofs.Common.{ap}
use Rattle.iam_lone.specs.Lone.{current}
use Rattle.iam_lone.proofs.Waiting.{as_unjudged}
use Rattle.iam_lone.proofs.lone.Lone.attempt.Goals as goal

pub returns-in-Err-clause-told : goal.returns-in-Err-clause-told
returns-in-Err-clause-told g c = as_unjudged _ _ c.args.entry (ap current c.in-Err.ensures.err)
