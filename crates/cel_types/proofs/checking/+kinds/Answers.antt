-- Each arm's kind or fault, by the lemma on its node.
use Rattle.std.proofs.Common.{◌-◌, ◌++◌, [], ◌∷◌, List, length, drop, take, refl, sym, ap, ◌∙◌, subst, true, false, Some, None}
use Rattle.std.proofs.lemmas.List.{take_all, take_more}
use Rattle.std.proofs.lemmas.Result.{err_from_is_err_and}
use Rattle.cel_tree.specs.declared.tree.Expr.{Expr, out-Expr}
use Rattle.cel_tree.specs.declared.tree.Expr.TheVariants.{outs-Select, outs-Call, outs-Method, outs-Many, outs-Two, outs-Pick}
use Rattle.cel_types.specs.declared.kind.Kind.{Kind}
use Rattle.cel_types.specs.HasKind as rule
use Rattle.cel_types.specs.HasKind.{HaveKinds, FirstFaultAmong}
use Rattle.cel_types.proofs.Walk.{node_by, fault_by, has_kind, has_fault, leaf_parts, negation_parts, field_parts, whole_is, method_parts, keeps_none, keeps_some, call_node, method_by_one, list_by_other, none_so_far, one_more, fault_at, no_item, first_and_others}
use Rattle.cel_types.specs.Sight.{sight_of}
use Rattle.cel_types.proofs.checking.+kinds.Goals as goal

pub kind_of-returns-in_err-kind_of-in-None : goal.kind_of-returns-in_err-kind_of-in-None
kind_of-returns-in_err-kind_of-in-None t c =
    let known = field_parts c.in-Select.base _ c.in-Select.field _ c.in-Select.field-0 None c.get.ensures c.as_str.ensures.value (sym c.attribute_of.ensures ∙ c.in-None.is) in
    let fault = c.in_err-kind_of-in-None.field-0.0 in
    let p = err_from_is_err_and c.from_residual.result c.from_residual.ensures.1 in
    rw (p.1, p.2)
    (fault_by _ _ _ _ (ap out-Expr c.in-Select.is ∙ outs-Select _ _ _)
    (subst (λ (z : List Expr). FirstFaultAmong (sight_of c.args.place) z fault) (sym known) (rule.first (has_fault _ _ c.get-in-None.ensures c.in_err-kind_of-in-None.ensures))))

pub kind_of-returns-in-Some : goal.kind_of-returns-in-Some
kind_of-returns-in-Some t c =
    let known = field_parts c.in-Select.base _ c.in-Select.field _ c.in-Select.field-0 (Some c.in-Some.field-0) c.get.ensures c.as_str.ensures.value (sym c.attribute_of.ensures ∙ c.in-Some.is) in
    node_by _ _ _ [] [] _ (ap out-Expr c.in-Select.is ∙ outs-Select _ _ _) (subst (λ (z : List Expr). HaveKinds (sight_of c.args.place) z []) (sym known) rule.none) refl c.node.ensures

pub kind_of-returns-in_ok-kind_of-in-None : goal.kind_of-returns-in_ok-kind_of-in-None
kind_of-returns-in_ok-kind_of-in-None t c =
    let known = field_parts c.in-Select.base _ c.in-Select.field _ c.in-Select.field-0 None c.get.ensures c.as_str.ensures.value (sym c.attribute_of.ensures ∙ c.in-None.is) in
    let k = c.in_ok-kind_of-in-None.field-0 in
    node_by _ _ _ (k ∷ []) (k ∷ []) _ (ap out-Expr c.in-Select.is ∙ outs-Select _ _ _)
    (subst (λ (z : List Expr). HaveKinds (sight_of c.args.place) z (k ∷ [])) (sym known) (rule.more (has_kind _ _ c.get-in-None.ensures c.in_ok-kind_of-in-None.ensures) rule.none))
    refl c.node-in-None.ensures

pub kind_of-returns-in_err-kinds_among-in-Call : goal.kind_of-returns-in_err-kinds_among-in-Call
kind_of-returns-in_err-kinds_among-in-Call t c =
    let fault = c.in_err-kinds_among-in-Call.field-0.0 in
    let p = err_from_is_err_and c.from_residual-in_err-kinds_among-in-Call.result c.from_residual-in_err-kinds_among-in-Call.ensures.1 in
    rw (p.1, p.2)
    (fault_by _ _ _ _ (ap out-Expr c.in-Call.is ∙ outs-Call _ _ _) (subst (λ (z : List Expr). FirstFaultAmong (sight_of c.args.place) z fault) c.as_slice.ensures c.in_err-kinds_among-in-Call.ensures))

pub kind_of-returns-in-None-2 : goal.kind_of-returns-in-None-2
kind_of-returns-in-None-2 t c =
    node_by _ _ _ [] [] _ (ap out-Expr c.in-Call.is ∙ outs-Call _ _ _)
    (subst (λ (z : List Expr). HaveKinds (sight_of c.args.place) z []) c.as_slice.ensures (keeps_none c.in-None-2.is c.in_ok-kinds_among-in-Call.ensures))
    refl c.node-in-None-2.ensures

pub kind_of-returns-in-Some-2 : goal.kind_of-returns-in-Some-2
kind_of-returns-in-Some-2 t c =
    let k = c.in-Some-2.argument in
    let h = keeps_some k c.in-Some-2.field-0-1 c.in-Some-2.is c.in_ok-kinds_among-in-Call.ensures in
    let have = subst (λ (z : List Expr). HaveKinds (sight_of c.args.place) z (k ∷ h.0)) c.as_slice.ensures h.1 in
    call_node _ _ _ _ _ k h.0 _ (ap out-Expr c.in-Call.is ∙ outs-Call _ _ _) have c.node-in-Some-2.ensures

pub kind_of-returns-then-is_whole : goal.kind_of-returns-then-is_whole
kind_of-returns-then-is_whole t c =
    let part = whole_is c.in-Method.base _ c.in-Method.name _ true c.get-base.ensures c.as_str-in-Method.ensures.value (sym c.is_whole.ensures ∙ c.if-is_whole.true) in
    let known = method_parts c.in-Method.base c.in-Method.name c.in-Method.arguments c.in-Method.field-0 true part in
    node_by _ _ _ [] [] _ (ap out-Expr c.in-Method.is ∙ outs-Method _ _ _ _) (subst (λ (z : List Expr). HaveKinds (sight_of c.args.place) z []) (sym known) rule.none) refl c.node-then-is_whole.ensures

pub kind_of-returns-in_err-kind-in-Method : goal.kind_of-returns-in_err-kind-in-Method
kind_of-returns-in_err-kind-in-Method t c =
    let part = whole_is c.in-Method.base _ c.in-Method.name _ false c.get-base.ensures c.as_str-in-Method.ensures.value (sym c.is_whole.ensures ∙ c.if-is_whole.false) in
    let known = method_parts c.in-Method.base c.in-Method.name c.in-Method.arguments c.in-Method.field-0 false part in
    let fault = c.in_err-kind-in-Method.field-0.0 in
    let p = err_from_is_err_and c.from_residual-in_err-kind-in-Method.result c.from_residual-in_err-kind-in-Method.ensures.1 in
    rw (p.1, p.2)
    (fault_by _ _ _ _ (ap out-Expr c.in-Method.is ∙ outs-Method _ _ _ _)
    (subst (λ (z : List Expr). FirstFaultAmong (sight_of c.args.place) z fault) (sym known) (rule.first (has_fault _ _ c.get-base.ensures c.in_err-kind-in-Method.ensures))))

pub kind_of-returns-in_err-kinds_among-in-Method : goal.kind_of-returns-in_err-kinds_among-in-Method
kind_of-returns-in_err-kinds_among-in-Method t c =
    let part = whole_is c.in-Method.base _ c.in-Method.name _ false c.get-base.ensures c.as_str-in-Method.ensures.value (sym c.is_whole.ensures ∙ c.if-is_whole.false) in
    let known = method_parts c.in-Method.base c.in-Method.name c.in-Method.arguments c.in-Method.field-0 false part in
    let fault = c.in_err-kinds_among-in-Method.field-0.0 in
    let others = subst (λ (z : List Expr). FirstFaultAmong (sight_of c.args.place) z fault) c.as_slice-in-Method.ensures c.in_err-kinds_among-in-Method.ensures in
    let p = err_from_is_err_and c.from_residual-in_err-kinds_among-in-Method.result c.from_residual-in_err-kinds_among-in-Method.ensures.1 in
    rw (p.1, p.2)
    (fault_by _ _ _ _ (ap out-Expr c.in-Method.is ∙ outs-Method _ _ _ _) (subst (λ (z : List Expr). FirstFaultAmong (sight_of c.args.place) z fault) (sym known) (rule.later (has_kind _ _ c.get-base.ensures c.in_ok-kind-in-Method.ensures) others)))

pub kind_of-returns-in-None-3 : goal.kind_of-returns-in-None-3
kind_of-returns-in-None-3 t c =
    let part = whole_is c.in-Method.base _ c.in-Method.name _ false c.get-base.ensures c.as_str-in-Method.ensures.value (sym c.is_whole.ensures ∙ c.if-is_whole.false) in
    let known = method_parts c.in-Method.base c.in-Method.name c.in-Method.arguments c.in-Method.field-0 false part in
    let k = c.in_ok-kind-in-Method.kind in
    let others = subst (λ (z : List Expr). HaveKinds (sight_of c.args.place) z []) c.as_slice-in-Method.ensures (keeps_none c.in-None-3.is c.in_ok-kinds_among-in-Method.ensures) in
    node_by _ _ _ (k ∷ []) (k ∷ []) _ (ap out-Expr c.in-Method.is ∙ outs-Method _ _ _ _) (subst (λ (z : List Expr). HaveKinds (sight_of c.args.place) z (k ∷ [])) (sym known) (rule.more (has_kind _ _ c.get-base.ensures c.in_ok-kind-in-Method.ensures) others)) refl c.node-in-None-3.ensures

pub kind_of-returns-in-Some-3 : goal.kind_of-returns-in-Some-3
kind_of-returns-in-Some-3 t c =
    let part = whole_is c.in-Method.base _ c.in-Method.name _ false c.get-base.ensures c.as_str-in-Method.ensures.value (sym c.is_whole.ensures ∙ c.if-is_whole.false) in
    let known = method_parts c.in-Method.base c.in-Method.name c.in-Method.arguments c.in-Method.field-0 false part in
    let b = c.in_ok-kind-in-Method.kind in
    let k = c.in-Some-3.argument in
    let h = keeps_some k c.in-Some-3.field-0-1 c.in-Some-3.is c.in_ok-kinds_among-in-Method.ensures in
    let others = subst (λ (z : List Expr). HaveKinds (sight_of c.args.place) z (k ∷ h.0)) c.as_slice-in-Method.ensures h.1 in
    let have = subst (λ (z : List Expr). HaveKinds (sight_of c.args.place) z (b ∷ k ∷ h.0)) (sym known) (rule.more (has_kind _ _ c.get-base.ensures c.in_ok-kind-in-Method.ensures) others) in
    node_by _ _ _ (b ∷ k ∷ h.0) (b ∷ k ∷ []) _ (ap out-Expr c.in-Method.is ∙ outs-Method _ _ _ _) have (method_by_one _ c.in-Method.field-0 _ c.in-Method.name _ b k h.0 part others) c.node-in-Some-3.ensures

pub kind_of-returns-in_err-kinds_among-in-Many : goal.kind_of-returns-in_err-kinds_among-in-Many
kind_of-returns-in_err-kinds_among-in-Many t c =
    let fault = c.in_err-kinds_among-in-Many.field-0.0 in
    let p = err_from_is_err_and c.from_residual-in_err-kinds_among-in-Many.result c.from_residual-in_err-kinds_among-in-Many.ensures.1 in
    rw (p.1, p.2)
    (fault_by _ _ _ _ (ap out-Expr c.in-Many.is ∙ outs-Many _ _) (subst (λ (z : List Expr). FirstFaultAmong (sight_of c.args.place) z fault) c.as_slice-in-Many.ensures c.in_err-kinds_among-in-Many.ensures))

pub kind_of-returns-in-None-4 : goal.kind_of-returns-in-None-4
kind_of-returns-in-None-4 t c =
    node_by _ _ _ [] [] _ (ap out-Expr c.in-Many.is ∙ outs-Many _ _)
    (subst (λ (z : List Expr). HaveKinds (sight_of c.args.place) z []) c.as_slice-in-Many.ensures (keeps_none c.in-None-4.is c.in_ok-kinds_among-in-Many.ensures))
    refl c.node-in-None-4.ensures

pub kind_of-returns-in-Some-4 : goal.kind_of-returns-in-Some-4
kind_of-returns-in-Some-4 t c =
    let first = c.in-Some-4.first in
    let other = c.in-Some-4.other in
    let h = keeps_some first other c.in-Some-4.is c.in_ok-kinds_among-in-Many.ensures in
    let have = subst (λ (z : List Expr). HaveKinds (sight_of c.args.place) z (first ∷ h.0)) c.as_slice-in-Many.ensures h.1 in
    node_by _ _ _ (first ∷ h.0) (first ∷ other ∷ []) _ (ap out-Expr c.in-Many.is ∙ outs-Many _ _) have (list_by_other (sight_of c.args.place) c.in-Many.field-0 c.in-Many.items first other h.0 h.2) c.node-in-Some-4.ensures

pub kind_of-returns-in_err-left-in-Two : goal.kind_of-returns-in_err-left-in-Two
kind_of-returns-in_err-left-in-Two t c =
    let p = err_from_is_err_and c.from_residual-in_err-left-in-Two.result c.from_residual-in_err-left-in-Two.ensures.1 in
    rw (p.1, p.2)
    (fault_by _ _ _ _ (ap out-Expr c.in-Two.is ∙ outs-Two _ _ _ _) (rule.first (has_fault _ _ c.get-in-Two.ensures c.in_err-left-in-Two.ensures)))

pub kind_of-returns-in_err-right-in-Two : goal.kind_of-returns-in_err-right-in-Two
kind_of-returns-in_err-right-in-Two t c =
    let p = err_from_is_err_and c.from_residual-in_err-right-in-Two.result c.from_residual-in_err-right-in-Two.ensures.1 in
    rw (p.1, p.2)
    (fault_by _ _ _ _ (ap out-Expr c.in-Two.is ∙ outs-Two _ _ _ _) (rule.later (has_kind _ _ c.get-in-Two.ensures c.in_ok-left-in-Two.ensures) (rule.first (has_fault _ _ c.get-in-Two-2.ensures c.in_err-right-in-Two.ensures))))

pub kind_of-returns-in_ok-right-in-Two : goal.kind_of-returns-in_ok-right-in-Two
kind_of-returns-in_ok-right-in-Two t c =
    let l = c.in_ok-left-in-Two.left in
    let r = c.in_ok-right-in-Two.right in
    node_by _ _ _ (l ∷ r ∷ []) (l ∷ r ∷ []) _ (ap out-Expr c.in-Two.is ∙ outs-Two _ _ _ _) (rule.more (has_kind _ _ c.get-in-Two.ensures c.in_ok-left-in-Two.ensures) (rule.more (has_kind _ _ c.get-in-Two-2.ensures c.in_ok-right-in-Two.ensures) rule.none)) refl c.node-in-Two.ensures

pub kind_of-returns-in_err-condition-in-Pick : goal.kind_of-returns-in_err-condition-in-Pick
kind_of-returns-in_err-condition-in-Pick t c =
    let p = err_from_is_err_and c.from_residual-in_err-condition-in-Pick.result c.from_residual-in_err-condition-in-Pick.ensures.1 in
    rw (p.1, p.2)
    (fault_by _ _ _ _ (ap out-Expr c.in-Pick.is ∙ outs-Pick _ _ _ _) (rule.first (has_fault _ _ c.get-in-Pick.ensures c.in_err-condition-in-Pick.ensures)))

pub kind_of-returns-in_err-picked-in-Pick : goal.kind_of-returns-in_err-picked-in-Pick
kind_of-returns-in_err-picked-in-Pick t c =
    let p = err_from_is_err_and c.from_residual-in_err-picked-in-Pick.result c.from_residual-in_err-picked-in-Pick.ensures.1 in
    rw (p.1, p.2)
    (fault_by _ _ _ _ (ap out-Expr c.in-Pick.is ∙ outs-Pick _ _ _ _) (rule.later (has_kind _ _ c.get-in-Pick.ensures c.in_ok-condition-in-Pick.ensures) (rule.first (has_fault _ _ c.get-in-Pick-2.ensures c.in_err-picked-in-Pick.ensures))))

pub kind_of-returns-in_err-other-in-Pick : goal.kind_of-returns-in_err-other-in-Pick
kind_of-returns-in_err-other-in-Pick t c =
    let p = err_from_is_err_and c.from_residual-in_err-other-in-Pick.result c.from_residual-in_err-other-in-Pick.ensures.1 in
    rw (p.1, p.2)
    (fault_by _ _ _ _ (ap out-Expr c.in-Pick.is ∙ outs-Pick _ _ _ _)
    (rule.later (has_kind _ _ c.get-in-Pick.ensures c.in_ok-condition-in-Pick.ensures) (rule.later (has_kind _ _ c.get-in-Pick-2.ensures c.in_ok-picked-in-Pick.ensures) (rule.first (has_fault _ _ c.get-in-Pick-3.ensures c.in_err-other-in-Pick.ensures)))))

pub kind_of-returns-in_ok-other-in-Pick : goal.kind_of-returns-in_ok-other-in-Pick
kind_of-returns-in_ok-other-in-Pick t c =
    let ks = c.in_ok-condition-in-Pick.condition ∷ c.in_ok-picked-in-Pick.picked ∷ c.in_ok-other-in-Pick.other ∷ [] in
    node_by _ _ _ ks ks _ (ap out-Expr c.in-Pick.is ∙ outs-Pick _ _ _ _)
    (rule.more (has_kind _ _ c.get-in-Pick.ensures c.in_ok-condition-in-Pick.ensures) (rule.more (has_kind _ _ c.get-in-Pick-2.ensures c.in_ok-picked-in-Pick.ensures) (rule.more (has_kind _ _ c.get-in-Pick-3.ensures c.in_ok-other-in-Pick.ensures) rule.none))) refl c.node-in-Pick.ensures

pub kind_of-returns-in_err-kind-in-Not : goal.kind_of-returns-in_err-kind-in-Not
kind_of-returns-in_err-kind-in-Not t c =
    let below = negation_parts c.args.expr.now c.in-Not.operand c.in-Not.is in
    let fault = c.in_err-kind-in-Not.field-0.0 in
    let p = err_from_is_err_and c.from_residual-in_err-kind-in-Not.result c.from_residual-in_err-kind-in-Not.ensures.1 in
    rw (p.1, p.2)
    (fault_by _ _ (out-Expr c.args.expr.now) _ refl
    (subst (λ (z : List Expr). FirstFaultAmong (sight_of c.args.place) z fault) (sym below) (rule.first (has_fault _ _ c.get-in-Not.ensures c.in_err-kind-in-Not.ensures))))

pub kind_of-returns-in_ok-kind-in-Not : goal.kind_of-returns-in_ok-kind-in-Not
kind_of-returns-in_ok-kind-in-Not t c =
    let below = negation_parts c.args.expr.now c.in-Not.operand c.in-Not.is in
    let k = c.in_ok-kind-in-Not.kind in
    node_by _ _ (out-Expr c.args.expr.now) (k ∷ []) (k ∷ []) _ refl
    (subst (λ (z : List Expr). HaveKinds (sight_of c.args.place) z (k ∷ [])) (sym below) (rule.more (has_kind _ _ c.get-in-Not.ensures c.in_ok-kind-in-Not.ensures) rule.none))
    refl c.node-in-Not.ensures

pub kind_of-returns-in-Bool : goal.kind_of-returns-in-Bool
kind_of-returns-in-Bool t c =
    node_by _ _ (out-Expr c.args.expr.now) [] [] _ refl
    (subst (λ (z : List Expr). HaveKinds (sight_of c.args.place) z []) (sym (leaf_parts c.args.expr.now c.in-Bool.is)) rule.none) refl c.node-in-Bool.ensures

pub kinds_among-returns-in_default : goal.kinds_among-returns-in_default
kinds_among-returns-in_default t c =
    ([], subst (λ (z : List Expr). HaveKinds (sight_of c.args.place) z []) (sym (no_item c.args.exprs.now c.in_default.len_below)) rule.none, refl)

pub kinds_among-returns-in_err-first : goal.kinds_among-returns-in_err-first
kinds_among-returns-in_err-first t c =
    let whole = first_and_others c.args.exprs.now c.first-item.result c.in-len1-up.len_at_least c.first-item.is in
    let fault = c.in_err-first.field-0.0 in
    let p = err_from_is_err_and c.from_residual.result c.from_residual.ensures.1 in
    rw (p.1, p.2)
    (subst (λ (z : List Expr). FirstFaultAmong (sight_of c.args.place) z fault) whole (rule.first c.in_err-first.ensures))

pub kinds_among-loop-expr-init : goal.kinds_among-loop-expr-init
kinds_among-loop-expr-init t c =
    none_so_far (sight_of c.args.place) c.in_ok-first.first

pub kinds_among-returns-in_err-kind : goal.kinds_among-returns-in_err-kind
kinds_among-returns-in_err-kind t c =
    let whole = first_and_others c.args.exprs.now c.first-item.result c.in-len1-up.len_at_least c.first-item.is in
    let rest = take (length c.args.exprs.now - 1) (drop 1 c.args.exprs.now) in
    let fault = c.in_err-kind.field-0.0 in
    let among = fault_at (sight_of c.args.place) c.in_ok-first.first c.loop-expr.other rest c.loop-expr.expr-index c.expr-item.result fault c.loop-expr.invariant c.loop-expr-test.true c.expr-item.is c.in_err-kind.ensures in
    let p = err_from_is_err_and c.from_residual-in_err-kind.result c.from_residual-in_err-kind.ensures.1 in
    rw (p.1, p.2)
    (subst (λ (z : List Expr). FirstFaultAmong (sight_of c.args.place) z fault) whole (rule.later c.in_ok-first.ensures among))

pub kinds_among-loop-expr-preserved : goal.kinds_among-loop-expr-preserved
kinds_among-loop-expr-preserved t c =
    let rest = take (length c.args.exprs.now - 1) (drop 1 c.args.exprs.now) in
    let i = c.loop-expr.expr-index in
    let more = take_more rest i c.expr-item.result c.loop-expr-test.true ∙ ap (λ (z : Expr). take i rest ++ z ∷ []) (sym c.expr-item.is) in
    one_more _ _ _ _ _ _ _ _ c.loop-expr.invariant c.in_ok-kind.ensures more c.differing-other.ensures

pub kinds_among-returns : goal.kinds_among-returns
kinds_among-returns t c =
    let whole = first_and_others c.args.exprs.now c.first-item.result c.in-len1-up.len_at_least c.first-item.is in
    let rest = take (length c.args.exprs.now - 1) (drop 1 c.args.exprs.now) in
    let so_far = c.loop-expr.invariant in
    let all = take_all c.loop-expr.expr-index rest c.loop-expr-test.false in
    let others = subst (λ (z : List Expr). HaveKinds (sight_of c.args.place) z so_far.kinds) all so_far.have in (
      c.in_ok-first.first ∷ so_far.kinds,
      subst (λ (z : List Expr). HaveKinds (sight_of c.args.place) z (c.in_ok-first.first ∷ so_far.kinds)) whole (rule.more c.in_ok-first.ensures others),
      ap (λ (z : Kind). Some (c.in_ok-first.first, z)) so_far.is,
    )
