use Rattle.std.proofs.Common.{List, Option, ℕ, ap, sym, ◌∙◌}
use Rattle.std.specs.List.{find}
use Rattle.std.specs.Option.{option_map}
use Rattle.iam_types.specs.declared.allow.Binding.{Binding}
use Rattle.iam_types.specs.declared.query.Decision.TheVariants.{Allowed}
use Rattle.iam_types.specs.declared.query.Query.{Query}
use Rattle.iam_types.specs.declared.tables.Tables.{Tables}
use Rattle.iam_law.specs.Decide.{binding_grants, in_turn}
use Rattle.iam_judge.proofs.decide.grant_at.Goals as goal

abbrev first_place : Tables → Query → List Binding → Option ℕ
first_place tables query bindings = option_map (λ (turn : ℕ × Binding). turn.0) (find (λ turn. binding_grants tables query turn.1) (in_turn bindings))

pub returns-in-Some : goal.returns-in-Some
returns-in-Some c =
    let place = sym c.in-Some.is ∙ c.in_ok-place.ensures ∙ ap (first_place c.args.tables.now c.args.query.now) c.bindings_at.ensures in
    ap (λ (place : Option ℕ). option_map (λ (p : ℕ). Allowed c.args.node p) place) place

pub returns-in-None : goal.returns-in-None
returns-in-None c =
    let place = sym c.in-None.is ∙ c.in_ok-place.ensures ∙ ap (first_place c.args.tables.now c.args.query.now) c.bindings_at.ensures in
    ap (λ (place : Option ℕ). option_map (λ (p : ℕ). Allowed c.args.node p) place) place
