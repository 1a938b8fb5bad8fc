use Rattle.std.proofs.Common.{◌≡◌, ◌≤◌, ℕ, List, subst, refl, ap, ◌∙◌, arith}
use Rattle.std.specs.List.{All}
use Rattle.std.proofs.lemmas.List.{take_all}
use Rattle.std.proofs.lemmas.List.Elements.{All-more}
use Rattle.iam_types.specs.declared.allow.AllowPolicy.{AllowPolicy}
use Rattle.iam_types.specs.declared.refusal.LimitName.TheVariants.{PolicyMembers}
use Rattle.iam_model.specs.Limits.{limit_of}
use Rattle.iam_model.specs.Policies.{count_members}
use Rattle.iam_tables.proofs.consistent.members_within.Goals as goal

abbrev few : AllowPolicy → Type 0
few policy = count_members policy.bindings ≤ limit_of PolicyMembers

pub loop-policy-preserved : goal.loop-policy-preserved
loop-policy-preserved c =
    let counted : c.in_ok-count.count ≡ count_members c.policy-item.result.bindings = c.in_ok-count.ensures ∙ ap count_members c.as_slice.ensures in
    let here : few c.policy-item.result = subst (λ (n : ℕ). n ≤ limit_of PolicyMembers) counted (omega (arith, c.limit_of.ensures)) in
    All-more few c.args.allows.now c.loop-policy.policy-index c.policy-item.result (omega arith) c.loop-policy.invariant (subst few c.policy-item.is here)

pub returns : goal.returns
returns c = (λ _. subst (λ (rows : List AllowPolicy). All few rows) (take_all c.loop-policy.policy-index c.args.allows.now (omega arith)) c.loop-policy.invariant, λ _. refl)
