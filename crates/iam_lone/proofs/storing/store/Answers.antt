use Rattle.std.proofs.Common.{ap}
use Rattle.iam_lone.specs.Lone.{with_waiting}
use Rattle.iam_lone.proofs.Waiting.{as_failed, as_kept, as_unjudged}
use Rattle.iam_lone.proofs.storing.store.Goals as goal

pub returns-in-Ok-clause-told : goal.returns-in-Ok-clause-told
returns-in-Ok-clause-told g c = as_kept _ _ c.args.entry _ c.finish.ensures.kept

pub returns-in-Err-Failed-clause-told : goal.returns-in-Err-Failed-clause-told
returns-in-Err-Failed-clause-told g c = as_failed _ _ c.args.entry c.requires.accepted (ap (with_waiting c.args.index.now) c.requires.none)

pub returns-in-Err-OutOfMemory-clause-told : goal.returns-in-Err-OutOfMemory-clause-told
returns-in-Err-OutOfMemory-clause-told g c = as_unjudged _ _ c.args.entry (ap (with_waiting c.args.index.now) c.requires.none)
