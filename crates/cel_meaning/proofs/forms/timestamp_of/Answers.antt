use Rattle.std.proofs.Common.{sym, ◌∙◌}
use Rattle.cel_types.specs.TimeText.{timestamp_outcome}
use Rattle.cel_meaning.proofs.forms.timestamp_of.Goals as goal

pub returns-in-Some : goal.returns-in-Some
returns-in-Some c = c.timestamp.ensures ∙ sym (c.in-Some.ensures timestamp_outcome)

pub returns-in-None : goal.returns-in-None
returns-in-None c = sym (c.in-None.ensures timestamp_outcome)
