use Rattle.std.proofs.Common.{sym}
use Rattle.cel_meaning.proofs.Extracting.{nowhere, splits}
use Rattle.cel_meaning.proofs.texts.behind_text.Goals as goal

pub returns-in-Some : goal.returns-in-Some
returns-in-Some c = sym (splits c.args.part.now c.args.text.now _ _ c.in-Some.ensures.cases).0

pub returns-in-None : goal.returns-in-None
returns-in-None c = sym (nowhere c.args.part.now c.args.text.now c.in-None.ensures.cases).behind
