use Rattle.std.proofs.Common.{◌+◌, Bool, true, false, List, Option, Bor, ℕ, arith, ap, subst, sym, take, ◌∙◌}
use Rattle.std.proofs.lemmas.List.{take_all}
use Rattle.std.specs.Option.{option_map}
use Rattle.iam_types.specs.declared.allow.Binding.{Binding}
use Rattle.iam_law.specs.Decide.{binding_grants}
use Rattle.iam_law.specs.First.{IsFirstOf}
use Rattle.iam_judge.proofs.Leading.{first_found, next_first, place_kept}
use Rattle.iam_judge.proofs.decide.place_in.Goals as goal
use Rattle.iam_judge.proofs.decide.place_in.Goals.{then-branch, else-branch}

abbrev seen : Option (ℕ × Bor Binding) → Option (ℕ × Binding)
seen best = option_map (λ (found : ℕ × Bor Binding). (found.0, found.1.now)) best

pub loop-binding-preserved : goal.loop-binding-preserved
loop-binding-preserved c =
    let grants = binding_grants c.args.tables.now c.args.query.now in
    let next = λ (leads : Bool). next_first grants c.args.bindings.now c.loop-binding.binding-index c.loop-binding.place c.binding-item.result (seen c.loop-binding.best) leads
    c.loop-binding-test.true c.binding-item.is c.loop-binding.invariant.counted in
    let first = λ (best : Option (ℕ × Bor Binding)). IsFirstOf grants (take (c.loop-binding.binding-index + 1) c.args.bindings.now) (seen best) in
    elim c.if-branch.branch [
      | then-branch w ↦ record {
        counted = omega arith;
        first = subst first (sym w.best-is) (next true (sym w.if-branch.true ∙ c.in_ok-leads.ensures) c.loop-binding.invariant.first);
      }
      | else-branch w ↦ record {
        counted = omega arith;
        first = subst first (sym w.best-is) (next false (sym w.if-branch.false ∙ c.in_ok-leads.ensures) c.loop-binding.invariant.first);
      }
    ]

pub returns : goal.returns
returns c =
    let grants = binding_grants c.args.tables.now c.args.query.now in
    let all = take_all c.loop-binding.binding-index c.args.bindings.now (omega arith) in
    let first = subst (λ (bindings : List Binding). IsFirstOf grants bindings (seen c.loop-binding.best)) all c.loop-binding.invariant.first in
    c.place_of.ensures ∙ place_kept c.loop-binding.best
    ∙ ap (λ (best : Option (ℕ × Binding)). option_map (λ (turn : ℕ × Binding). turn.0) best)
    (first_found c.grants_are_first.ensures c.firsts_are_one.ensures grants c.args.bindings.now (seen c.loop-binding.best) first)
