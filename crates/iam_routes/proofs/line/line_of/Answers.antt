use Rattle.std.proofs.Common.{List, ℕ, ◌+◌, Option, sym, subst}
use Rattle.std.specs.Borrow.{Bor}
use Rattle.std.specs.Option.{option_map}
use Rattle.iam_routes.specs.declared.line.Found.{Found}
use Rattle.iam_routes.proofs.Lines.{IsOpenOn, same_text, other_text, same_one, other_one, next_other, next_method, found_here, all_looked_at}
use Rattle.iam_routes.proofs.line.line_of.Goals.{then-same_verb+else-eq, else-same_verb}
use Rattle.iam_routes.proofs.line.line_of.Goals as goal

pub loop-line-preserved : goal.loop-line-preserved
loop-line-preserved c =
    let verb : Option (List ℕ) = option_map (λ (text : Bor (List ℕ)). text.now) c.args.verb in
    elim c.if-same_verb.branch [
      | then-same_verb+else-eq w ↦
          let step = next_method c.args.lines.now c.loop-line.line-index _ c.args.method.now verb c.loop-line.found c.loop-line-test.true c.loop-line.invariant (same_one _ _ _ c.same_verb.ensures w.if-same_verb.true) (other_text _ _ _ w.eq.ensures w.if-eq.false) in
          subst (λ (f : Found). IsOpenOn c.args.lines.now (c.loop-line.line-index + 1) c.args.method.now verb f) (sym w.found-is) step
      | else-same_verb w ↦
          let step = next_other c.args.lines.now c.loop-line.line-index _ c.args.method.now verb c.loop-line.found c.loop-line-test.true c.loop-line.invariant (other_one _ _ _ c.same_verb.ensures w.if-same_verb.false) in
          subst (λ (f : Found). IsOpenOn c.args.lines.now (c.loop-line.line-index + 1) c.args.method.now verb f) (sym w.found-is) step
    ]

pub returns : goal.returns
returns c = all_looked_at _ _ _ _ _ c.loop-line-test.false c.loop-line.invariant

pub returns-then-eq : goal.returns-then-eq
returns-then-eq c =
    found_here c.args.lines.now c.loop-line.line-index _ c.args.method.now _ c.loop-line-test.true (same_one _ _ _ c.same_verb.ensures c.if-same_verb.true) (same_text _ _ _ c.eq.ensures c.if-eq.true)
