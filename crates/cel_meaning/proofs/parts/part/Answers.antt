use Rattle.std.proofs.Common.{◌≡◌, true, false, sym, ap, ◌∙◌, FitsSigned, w64}
use Rattle.std.specs.Int.{w128}
use Rattle.std.proofs.lemmas.Int.{to_z-of_z}
use Rattle.cel_value.specs.declared.value.Outcome.TheVariants.{Given}
use Rattle.cel_value.specs.declared.value.Value.TheVariants as value
use Rattle.cel_types.specs.Bounds.{is_time}
use Rattle.cel_types.specs.Calendar as has
use Rattle.cel_meaning.proofs.Dates.{part_iff}
use Rattle.cel_meaning.proofs.parts.part.Goals as goal

pub returns-then-not-is_time : goal.returns-then-not-is_time
returns-then-not-is_time c =
    let fits : FitsSigned w128 c.args.time = c.ranges.time in
    let asked = simp to_z-of_z at c.is_time.ensures in
    let beyond : is_time c.args.time ≡ false = cc in
    sym ((part_iff c.args.part c.args.time _).1 (has.outside beyond))

pub returns : goal.returns
returns c =
    let fits : FitsSigned w128 c.args.time = c.ranges.time in
    let held : FitsSigned w64 c.part_of.result = record { sfits = c.part_of.type_inv } in
    let asked = simp to_z-of_z at c.is_time.ensures in
    let yes : is_time c.args.time ≡ true = cc in
    let nanos = simp to_z-of_z at c.from_nanosecond_in_range-at.ensures in
    simp to_z-of_z
    (ap (λ z. Given (value.Int z)) c.part_of.ensures
    ∙ sym ((part_iff c.args.part c.args.time _).1 (has.within c.from_nanosecond_in_range-at.result yes nanos)))
