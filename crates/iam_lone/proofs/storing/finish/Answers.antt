use Rattle.iam_lone.proofs.Waiting.{kept_now, none_waits}
use Rattle.iam_lone.proofs.storing.finish.Goals as goal

pub returns-in-Ok-clause-kept : goal.returns-in-Ok-clause-kept
returns-in-Ok-clause-kept c = kept_now _ _ _ c.args.entry _ c.requires.accepted c.requires.none c.in-Ok.ensures.ok c.answer_to-told.ensures

pub returns-in-Ok-clause-waiting : goal.returns-in-Ok-clause-waiting
returns-in-Ok-clause-waiting c = none_waits _ _ c.requires.none
