use Rattle.std.proofs.Common.{rules, sym, ap, ◌∙◌, FitsSigned, w16}
use Rattle.std.specs.Int.{w128}
use Rattle.std.proofs.lemmas.Int.{to_z-of_z}
use Rattle.cel_meaning.specs.Apply.{shifted_part}
use Rattle.cel_meaning.proofs.forms.part_in_zone.Goals as goal

pub returns-in-Some : goal.returns-in-Some
returns-in-Some c =
    let fits : FitsSigned w128 c.in-Some.time = search rules in
    let small : FitsSigned w16 c.args.minutes = c.ranges.minutes in
    let found = simp to_z-of_z at c.part_in.ensures in
    found ∙ sym (c.in-Some.ensures (shifted_part c.args.asked c.args.minutes))

pub returns-in-None : goal.returns-in-None
returns-in-None c = sym (c.in-None.ensures (shifted_part c.args.asked c.args.minutes))
