use Rattle.std.proofs.Common.{◌≡◌, drop, map}
use Rattle.cel_meaning.specs.OutcomeOf.{all_values, outcome_of}
use Rattle.cel_meaning.specs.Results.{at, behind}
use Rattle.cel_meaning.proofs.evaluation.+evaluation.Given as goal

abbrev pub invariant-values-loop-expr : goal.invariant-values-loop-expr
invariant-values-loop-expr g l =
    let known = outcome_of (at (g.F.Facts.context l.facts)) in
    behind l.found (all_values (map known (drop l.expr-index l.exprs))) ≡ behind l.initial.found (all_values (map known l.exprs))
