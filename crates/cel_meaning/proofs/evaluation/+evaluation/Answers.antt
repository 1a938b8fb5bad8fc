-- Each arm by the lemma on its kind of node.
use Rattle.std.proofs.Common.{sym, ap, ◌∙◌}
use Rattle.std.proofs.lemmas.Result.{err_from_is_err_and}
use Rattle.cel_meaning.specs.Results.{at, side_of}
use Rattle.cel_meaning.proofs.Nodes.{first_branch, junction_is, leaf_is, method_is, method_stops, no_branch, operand_is, other_branch, row_is, two_is, two_stops, undecided, whole_is}
use Rattle.cel_meaning.proofs.evaluation.+evaluation.Goals as goal

pub value-returns-in-Bool : goal.value-returns-in-Bool
value-returns-in-Bool g t c =
    leaf_is (at (g.F.Facts.context c.args.facts.now)) c.args.expr.now c.new-in-Bool.result c.headed-in-Bool.result c.in-Bool.is c.new-in-Bool.ensures c.headed-in-Bool.ensures

pub value-returns-in-Call : goal.value-returns-in-Call
value-returns-in-Call g t c =
    row_is (at (g.F.Facts.context c.args.facts.now)) c.args.expr.now c.in-Call.items c.as_slice-in-Call.result.now c.new-in-Call.result c.values-found-in-Call.result c.headed-in-Call.result
    c.in-Call.is c.as_slice-in-Call.ensures c.new-in-Call.ensures c.values-found-in-Call.ensures c.headed-in-Call.ensures

pub value-returns-then-is_whole : goal.value-returns-then-is_whole
value-returns-then-is_whole g t c =
    whole_is (at (g.F.Facts.context c.args.facts.now)) c.args.expr.now _ c.get-base.result.now _ _ c.as_str.result.now _ c.new.result c.headed.result
    c.in-Method.is c.get-base.ensures c.as_str.ensures.value (sym c.is_whole.ensures ∙ c.if-is_whole.true) c.new.ensures c.headed.ensures

pub value-returns-in_ok-first-in-Method : goal.value-returns-in_ok-first-in-Method
value-returns-in_ok-first-in-Method g t c =
    method_is (at (g.F.Facts.context c.args.facts.now)) c.args.expr.now _ c.get-base.result.now _ _ c.as_str.result.now _ c.as_slice.result.now c.new-in-Method.result c.in_ok-first-in-Method.first
    c.values-found.result c.headed-in-Method.result
    c.in-Method.is c.get-base.ensures c.as_str.ensures.value c.as_slice.ensures (sym c.is_whole.ensures ∙ c.if-is_whole.false) c.new-in-Method.ensures c.in_ok-first-in-Method.ensures
    c.values-found.ensures c.headed-in-Method.ensures

pub value-returns-in_err-first-in-Method : goal.value-returns-in_err-first-in-Method
value-returns-in_err-first-in-Method g t c =
    let p = err_from_is_err_and c.from_residual.result c.from_residual.ensures.1 in
    rw (p.1, p.2) (method_stops (at (g.F.Facts.context c.args.facts.now)) c.args.expr.now _ c.get-base.result.now _ _ c.as_str.result.now _ c.new-in-Method.result _
    c.in-Method.is c.get-base.ensures c.as_str.ensures.value (sym c.is_whole.ensures ∙ c.if-is_whole.false) c.new-in-Method.ensures c.in_err-first-in-Method.ensures)

pub value-returns-in-Not : goal.value-returns-in-Not
value-returns-in-Not g t c =
    operand_is (at (g.F.Facts.context c.args.facts.now)) c.args.expr.now c.in-Not.operand c.get-in-Not.result.now c.new-in-Not.result c.with_value-found-in-Not.result c.headed-in-Not.result
    c.in-Not.is c.get-in-Not.ensures c.new-in-Not.ensures c.with_value-found-in-Not.ensures c.headed-in-Not.ensures

pub value-returns-in_ok-left-in-Some : goal.value-returns-in_ok-left-in-Some
value-returns-in_ok-left-in-Some g t c =
    junction_is (at (g.F.Facts.context c.args.facts.now)) c.args.expr.now _ _ c.get.result.now c.get-in-Some.result.now _ _ _ c.in-Some.truth c.in_ok-left-in-Some.left c.either.result
    c.in-Two.is c.get.ensures c.get-in-Some.ensures c.decisive.ensures c.in-Some.is c.in_ok-left-in-Some.ensures c.either.ensures

pub value-returns-in_ok-first-in-None : goal.value-returns-in_ok-first-in-None
value-returns-in_ok-first-in-None g t c =
    two_is (at (g.F.Facts.context c.args.facts.now)) c.args.expr.now _ _ c.get-in-None.result.now c.get-in-None-2.result.now _ _ _ c.new-in-None.result c.in_ok-first-in-None.first
    c.with_value-found.result c.headed-in-None.result
    c.in-Two.is c.get-in-None.ensures c.get-in-None-2.ensures c.decisive.ensures c.in-None.is c.new-in-None.ensures c.in_ok-first-in-None.ensures c.with_value-found.ensures c.headed-in-None.ensures

pub value-returns-in_err-first-in-None : goal.value-returns-in_err-first-in-None
value-returns-in_err-first-in-None g t c =
    let p = err_from_is_err_and c.from_residual-in_err-first-in-None.result c.from_residual-in_err-first-in-None.ensures.1 in
    rw (p.1, p.2) (two_stops (at (g.F.Facts.context c.args.facts.now)) c.args.expr.now _ _ c.get-in-None.result.now _ _ _ c.new-in-None.result _
    c.in-Two.is c.get-in-None.ensures c.decisive.ensures c.in-None.is c.new-in-None.ensures c.in_err-first-in-None.ensures)

pub side-returns-in-Ok : goal.side-returns-in-Ok
side-returns-in-Ok g t c =
    c.side_of.ensures ∙ ap (side_of c.args.decisive) (sym c.in-Ok.ensures)

pub value-returns-else-branch : goal.value-returns-else-branch
value-returns-else-branch g t c =
    other_branch (at (g.F.Facts.context c.args.facts.now)) c.args.expr.now _ _ _ c.get-in-Pick.result.now c.get-else-branch.result.now _ c.in_ok-condition-in-Pick.condition c.in_ok-decision-in-Pick.field-0 c.value-else-branch.result
    c.in-Pick.is c.get-in-Pick.ensures c.get-else-branch.ensures c.in_ok-condition-in-Pick.ensures c.in_ok-decision-in-Pick.ensures c.if-branch.false c.value-else-branch.ensures

pub value-returns-then-branch : goal.value-returns-then-branch
value-returns-then-branch g t c =
    first_branch (at (g.F.Facts.context c.args.facts.now)) c.args.expr.now _ _ _ c.get-in-Pick.result.now c.get-then-branch.result.now _ c.in_ok-condition-in-Pick.condition c.in_ok-decision-in-Pick.field-0 c.value-then-branch.result
    c.in-Pick.is c.get-in-Pick.ensures c.get-then-branch.ensures c.in_ok-condition-in-Pick.ensures c.in_ok-decision-in-Pick.ensures c.if-branch.true c.value-then-branch.ensures

pub value-returns-in_err-condition-in-Pick : goal.value-returns-in_err-condition-in-Pick
value-returns-in_err-condition-in-Pick g t c =
    let p = err_from_is_err_and c.from_residual-in_err-condition-in-Pick.result c.from_residual-in_err-condition-in-Pick.ensures.1 in
    rw (p.1, p.2) (undecided (at (g.F.Facts.context c.args.facts.now)) c.args.expr.now _ _ _ c.get-in-Pick.result.now _ _ c.in-Pick.is c.get-in-Pick.ensures c.in_err-condition-in-Pick.ensures)

pub value-returns-in_err-decision-in-Pick : goal.value-returns-in_err-decision-in-Pick
value-returns-in_err-decision-in-Pick g t c =
    let p = err_from_is_err_and c.from_residual-in_err-decision-in-Pick.result c.from_residual-in_err-decision-in-Pick.ensures.1 in
    rw (p.1, p.2) (no_branch (at (g.F.Facts.context c.args.facts.now)) c.args.expr.now _ _ _ c.get-in-Pick.result.now _ c.in_ok-condition-in-Pick.condition _ c.in-Pick.is c.get-in-Pick.ensures c.in_ok-condition-in-Pick.ensures c.in_err-decision-in-Pick.ensures)
