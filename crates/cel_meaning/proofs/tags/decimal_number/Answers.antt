use Rattle.std.proofs.Common.{ℕ, Ok, Err, ◌∙◌}
use Rattle.cel_meaning.proofs.Tagging.{decimal_is}
use Rattle.cel_meaning.proofs.tags.decimal_number.Goals as goal

pub returns-in-Ok : goal.returns-in-Ok
returns-in-Ok c = c.as_written.ensures ∙ decimal_is {E = ℕ} c.args.text.now (Ok c.in-Ok.number) c.in-Ok.ensures.value.0

pub returns-in-Err : goal.returns-in-Err
returns-in-Err c = decimal_is {E = ℕ} c.args.text.now (Err 0) c.in-Err.ensures.value.0
