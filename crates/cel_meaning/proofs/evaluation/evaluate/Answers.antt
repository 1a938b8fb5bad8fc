use Rattle.std.proofs.Common.{sym, ap, ◌∙◌}
use Rattle.std.proofs.lemmas.Result.{IfOk-weaker}
use Rattle.cel_types.specs.Kinds.{truth}
use Rattle.cel_meaning.specs.OutcomeOf.{outcome_of}
use Rattle.cel_meaning.specs.Results.{at}
use Rattle.cel_meaning.proofs.Meaning.{outcome_iff}
use Rattle.cel_types.specs.Sight.{sight_of}
use Rattle.cel_meaning.proofs.evaluation.evaluate.Goals as goal

pub returns-clause-meaning : goal.returns-clause-meaning
returns-clause-meaning g c =
    let s = at (g.F.Facts.context c.args.facts.now) in
    let typed = c.args.typed.now in
    IfOk-weaker c.outcome.result _ _
    (λ o is. (outcome_iff s (sight_of typed.place) typed.expr truth o c.expr.ensures.typed).0 (ap (outcome_of s) (sym c.expr.ensures.value) ∙ sym is))
    c.outcome.ensures

pub returns-clause-truth : goal.returns-clause-truth
returns-clause-truth g c =
    let s = at (g.F.Facts.context c.args.facts.now) in
    let typed = c.args.typed.now in
    IfOk-weaker c.outcome.result _ _
    (λ o means. c.conditions_come_to_truths.ensures s (sight_of typed.place) typed.expr o c.expr.ensures.typed means)
    (returns-clause-meaning g c)
