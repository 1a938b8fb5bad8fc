use Rattle.std.proofs.Common.{◌≡◌, rules, true, ap, ap₂, ◌∙◌, Some, ℤ, pos, ◌+ℤ◌, ◌-ℤ◌, ◌*ℤ◌, FitsSigned, w16, w32, w64}
use Rattle.std.specs.Int.{w128}
use Rattle.std.proofs.lemmas.Int.{to_z-of_z}
use Rattle.cel_types.specs.TimeText.{fraction_at, fraction_nanos, has_fraction, utc_offset}
use Rattle.cel_types.specs.Bounds.{nanos_of_seconds}
use Rattle.cel_meaning.proofs.TimeTexts.{offset_is}
use Rattle.cel_meaning.proofs.timestamps.with_offset.Goals as goal

pub returns : goal.returns
returns c =
    let minutes : ℤ = c.in_ok-minutes.minutes in
    let shown : ℤ = c.args.day *ℤ pos 86_400 +ℤ pos c.args.clock in
    let minutes_fit : FitsSigned w16 minutes = search rules in
    let seconds_fit : FitsSigned w64 c.seconds_of.result = record { sfits = c.seconds_of.type_inv } in
    let nanos_fit : FitsSigned w128 c.nanos_of.result = record { sfits = c.nanos_of.type_inv } in
    let seconds : c.seconds_of.result ≡ shown -ℤ minutes *ℤ pos 60 =
    c.seconds_of.ensures ∙ ap₂ (λ d m. d *ℤ pos 86_400 +ℤ pos c.args.clock -ℤ m *ℤ pos 60) (to_z-of_z w32 c.args.day c.ranges.day) (to_z-of_z w16 minutes minutes_fit) in
    let fraction : c.fraction_nanos-fraction.result ≡ fraction_nanos 1_000_000_000 (fraction_at c.args.text.now) =
    c.fraction_nanos-fraction.ensures.value ∙ ap (fraction_nanos 1_000_000_000) c.fraction_at.ensures.value in
    let is : c.nanos_of.result ≡ nanos_of_seconds (shown -ℤ minutes *ℤ pos 60) +ℤ pos (fraction_nanos 1_000_000_000 (fraction_at c.args.text.now)) =
    c.nanos_of.ensures ∙ ap₂ (λ s n. nanos_of_seconds s +ℤ pos n) (to_z-of_z w64 c.seconds_of.result seconds_fit ∙ seconds) fraction in
    let has : has_fraction c.args.text.now ≡ true = cc in
    ap Some (to_z-of_z w128 c.nanos_of.result nanos_fit ∙ is) ∙ offset_is c.args.text.now shown minutes has (c.in_ok-minutes.ensures ∙ ap utc_offset c.behind_fraction.ensures)
