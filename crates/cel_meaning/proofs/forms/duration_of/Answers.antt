use Rattle.std.proofs.Common.{sym, ◌∙◌}
use Rattle.cel_types.specs.TimeText.{duration_outcome}
use Rattle.cel_meaning.proofs.forms.duration_of.Goals as goal

pub returns-in-Some : goal.returns-in-Some
returns-in-Some c = c.duration.ensures ∙ sym (c.in-Some.ensures duration_outcome)

pub returns-in-None : goal.returns-in-None
returns-in-None c = sym (c.in-None.ensures duration_outcome)
