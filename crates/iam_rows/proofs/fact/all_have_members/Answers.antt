use Rattle.std.proofs.Common.{arith, refl, ◌≡◌, true, sym, ◌∙◌, ap, subst}
use Rattle.std.specs.Prelude.{List, All}
use Rattle.std.proofs.lemmas.List.Elements.{All-get_or, All-more}
use Rattle.std.proofs.lemmas.List.{take_all}
use Rattle.iam_types.specs.declared.allow.Binding.{Binding}
use Rattle.iam_model.specs.Policies.{has_members}
use Rattle.iam_rows.proofs.Back.{HasMembers}
use Rattle.iam_rows.proofs.fact.all_have_members.Goals as goal

pub returns-then-not-has_members : goal.returns-then-not-has_members
returns-then-not-has_members c = (
  λ t. absurd (cc t),
  λ all.
      let here = All-get_or HasMembers c.args.bindings.now c.loop-binding.binding-index c.binding-item.result (omega arith) all in
      let same : has_members c.binding-item.result ≡ true = ap has_members c.binding-item.is ∙ here in
      cc (same, c.has_members.ensures, c.if-not-has_members.true),
)

pub loop-binding-preserved : goal.loop-binding-preserved
loop-binding-preserved c =
    All-more HasMembers c.args.bindings.now c.loop-binding.binding-index c.binding-item.result (omega arith) c.loop-binding.invariant
    (ap has_members (sym c.binding-item.is) ∙ sym c.has_members.ensures ∙ c.if-not-has_members.false)

pub returns : goal.returns
returns c = (
  λ t. subst (λ (bs : List Binding). All HasMembers bs) (take_all c.loop-binding.binding-index c.args.bindings.now (omega arith)) c.loop-binding.invariant,
  λ all. refl,
)
