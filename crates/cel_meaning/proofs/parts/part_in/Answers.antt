use Rattle.std.proofs.Common.{rules, sym, ap, subst, ◌∙◌, FitsSigned, w16, ◌+ℤ◌}
use Rattle.std.specs.Int.{w128}
use Rattle.std.proofs.lemmas.Int.{to_z-of_z}
use Rattle.cel_types.specs.Bounds.{nanos_of_minutes}
use Rattle.cel_types.specs.Calendar as has
use Rattle.cel_meaning.specs.Dates.{part_outcome}
use Rattle.cel_meaning.proofs.Dates.{part_iff}
use Rattle.cel_meaning.proofs.Ranges.{beyond}
use Rattle.cel_meaning.proofs.parts.part_in.Goals as goal

pub returns-in-Some : goal.returns-in-Some
returns-in-Some c =
    let time : FitsSigned w128 c.args.time = c.ranges.time in
    let minutes : FitsSigned w16 c.args.minutes = c.ranges.minutes in
    let nanos : FitsSigned w128 c.nanos_of_minutes.result = record { sfits = c.nanos_of_minutes.type_inv } in
    let shifted : FitsSigned w128 c.in-Some.shifted = search rules in
    let found = simp to_z-of_z at c.part.ensures in
    let sum = simp to_z-of_z at c.in-Some.ensures in
    let by = simp to_z-of_z at c.nanos_of_minutes.ensures in
    found ∙ ap (part_outcome c.args.part_asked) (sum.1 ∙ ap (λ z. c.args.time +ℤ z) by)

pub returns-in-None : goal.returns-in-None
returns-in-None c =
    let time : FitsSigned w128 c.args.time = c.ranges.time in
    let minutes : FitsSigned w16 c.args.minutes = c.ranges.minutes in
    let nanos : FitsSigned w128 c.nanos_of_minutes.result = record { sfits = c.nanos_of_minutes.type_inv } in
    let lacks = simp to_z-of_z at c.in-None.ensures in
    let by = simp to_z-of_z at c.nanos_of_minutes.ensures in
    sym ((part_iff c.args.part_asked (c.args.time +ℤ nanos_of_minutes c.args.minutes) _).1
    (has.outside (beyond _ (subst (λ z. ¬ FitsSigned w128 (c.args.time +ℤ z)) by lacks))))
