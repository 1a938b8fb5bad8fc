use Rattle.std.proofs.Common.{rules, ap, ◌∙◌, FitsSigned}
use Rattle.std.specs.Int.{w128}
use Rattle.std.proofs.lemmas.Int.{to_z-of_z}
use Rattle.cel_types.specs.TimeText.{length_of_text, length_or_fault}
use Rattle.cel_meaning.proofs.durations.duration.Goals as goal

pub returns-in-Some : goal.returns-in-Some
returns-in-Some c =
    let fits : FitsSigned w128 c.in-Some.nanos = search rules in
    let found = simp to_z-of_z at c.checked_length.ensures in
    found ∙ ap length_or_fault (c.in-Some.ensures ∙ ap length_of_text c.as_bytes.ensures.value)

pub returns-in-None : goal.returns-in-None
returns-in-None c = ap length_or_fault (c.in-None.ensures ∙ ap length_of_text c.as_bytes.ensures.value)
