use Rattle.std.proofs.Common.{◌≡◌, ◌-◌, length, take, drop, false, true, sym, ap, ◌∙◌}
use Rattle.cel_shown.specs.Shown.{within, shown}
use Rattle.cel_print.specs.Own.{own}
use Rattle.cel_print.proofs.Bytes.{places, list_begins, list_goes_on, list_ends}
use Rattle.cel_print.proofs.Arms.{select_arm, call_arm, method_arm, many_arm, not_arm, neg_arm, two_arm, pick_arm, bracket_arm, bare_arm, call_part, prefixed_part, appended_part}
use Rattle.cel_print.proofs.trees.+write.Goals as goal

pub bare-returns-in_ok-sign-in-Select : goal.bare-returns-in_ok-sign-in-Select
bare-returns-in_ok-sign-in-Select t c =
    select_arm c.put-in-Select.result c.args.expr.now c.args.after_minus c.args.out.now c.put-in-Select.new.self _ c.get.result.now _ _ c.as_str-in-Select.result.now c.write.new.out c.sign.new.self
    c.in-Select.is c.get.ensures c.in_ok-write-in-Select.ensures c.in_ok-sign-in-Select.ensures c.as_str-in-Select.ensures.value c.put-in-Select.ensures

pub bare-returns-in-Call : goal.bare-returns-in-Call
bare-returns-in-Call t c =
    call_arm c.call.result c.args.expr.now c.args.after_minus c.args.out.now c.call.new.out _ _ c.as_str-in-Call.result.now _ c.as_slice.result.now
    c.in-Call.is c.as_str-in-Call.ensures.value c.as_slice.ensures c.call.ensures

pub bare-returns-in_ok-sign-in-Method : goal.bare-returns-in_ok-sign-in-Method
bare-returns-in_ok-sign-in-Method t c =
    method_arm c.call-in-Method.result c.args.expr.now c.args.after_minus c.args.out.now c.call-in-Method.new.out _ c.get-in-Method.result.now _ _ c.as_str-in-Method.result.now _ c.as_slice-in-Method.result.now
    c.write-in-Method.new.out c.sign-in-Method.new.self
    c.in-Method.is c.get-in-Method.ensures c.in_ok-write-in-Method.ensures c.in_ok-sign-in-Method.ensures c.as_str-in-Method.ensures.value c.as_slice-in-Method.ensures c.call-in-Method.ensures

pub bare-returns-in_ok-list-in-Many : goal.bare-returns-in_ok-list-in-Many
bare-returns-in_ok-list-in-Many t c =
    many_arm c.sign-in-Many-2.result c.args.expr.now c.args.after_minus c.args.out.now c.sign-in-Many-2.new.self _ _ c.as_slice-in-Many.result.now c.sign-in-Many.new.self c.list.new.out
    c.in-Many.is c.in_ok-sign-in-Many.ensures c.as_slice-in-Many.ensures c.in_ok-list-in-Many.ensures c.sign-in-Many-2.ensures

pub bare-returns-in-Not : goal.bare-returns-in-Not
bare-returns-in-Not t c =
    not_arm c.prefixed.result c.args.expr.now c.args.after_minus c.args.out.now c.prefixed.new.out _ c.get-in-Not.result.now _ c.in-Not.is c.get-in-Not.ensures c.prefixed.ensures

pub bare-returns-in-Neg : goal.bare-returns-in-Neg
bare-returns-in-Neg t c =
    neg_arm c.prefixed-in-Neg.result c.args.expr.now c.args.after_minus c.args.out.now c.prefixed-in-Neg.new.out _ c.get-in-Neg.result.now _ c.in-Neg.is c.get-in-Neg.ensures c.prefixed-in-Neg.ensures

pub bare-returns-in_ok-write-in-Two : goal.bare-returns-in_ok-write-in-Two
bare-returns-in_ok-write-in-Two t c =
    two_arm c.appended.result c.args.expr.now c.args.after_minus c.args.out.now c.appended.new.out _ c.get-in-Two.result.now _ c.get-in-Two-2.result.now _ _ c.level_of-level.result c.sign_of.result c.operand.result
    c.write-in-Two.new.out c.in-Two.is c.level_of-level.ensures c.get-in-Two.ensures c.in_ok-write-in-Two.ensures c.sign_of.ensures c.get-in-Two-2.ensures c.operand.ensures c.appended.ensures

pub bare-returns-in_ok-appended-in-Pick : goal.bare-returns-in_ok-appended-in-Pick
bare-returns-in_ok-appended-in-Pick t c =
    pick_arm c.appended-in-Pick-2.result c.args.expr.now c.args.after_minus c.args.out.now c.appended-in-Pick-2.new.out _ c.get-in-Pick.result.now _ c.get-in-Pick-2.result.now _ c.get-in-Pick-3.result.now _
    c.write-in-Pick.new.out c.appended-in-Pick.new.out
    c.in-Pick.is c.get-in-Pick.ensures c.in_ok-write-in-Pick.ensures c.get-in-Pick-2.ensures c.in_ok-appended-in-Pick.ensures c.get-in-Pick-3.ensures c.appended-in-Pick-2.ensures

pub call-returns : goal.call-returns
call-returns t c =
    call_part c.sign-2.result c.args.out.now c.sign-2.new.self c.args.name.now c.args.arguments.now c.put.new.self c.sign.new.self c.list.new.out
    c.in_ok-put.ensures c.in_ok-sign.ensures c.in_ok-list.ensures c.sign-2.ensures

pub prefixed-returns : goal.prefixed-returns
prefixed-returns t c = prefixed_part c.write.result c.args.out.now c.write.new.out c.args.sign (shown c.args.operand.now c.args.place c.args.after_minus) c.sign.new.self c.in_ok-sign.ensures c.write.ensures

pub appended-returns : goal.appended-returns
appended-returns t c = appended_part c.write.result c.args.out.now c.write.new.out c.args.sign (shown c.args.operand.now c.args.place false) c.spaced.new.self c.in_ok-spaced.ensures c.write.ensures

pub write-returns : goal.write-returns
write-returns t c =
    let outside : within (own c.args.expr.now) c.args.place ≡ false = ap (λ z. within z c.args.place) (sym c.own_sort.ensures) ∙ sym c.is_within.ensures ∙ c.if-is_within.false in
    bracket_arm c.sign-2.result c.args.expr.now c.args.after_minus c.args.out.now c.sign-2.new.self c.args.place c.sign.new.self c.bare-2.new.out
    ((places c.args.expr.now).not_fits c.args.place c.args.after_minus outside) c.in_ok-sign.ensures c.in_ok-bare.ensures c.sign-2.ensures

pub write-returns-then-is_within : goal.write-returns-then-is_within
write-returns-then-is_within t c =
    let inside : within (own c.args.expr.now) c.args.place ≡ true = ap (λ z. within z c.args.place) (sym c.own_sort.ensures) ∙ sym c.is_within.ensures ∙ c.if-is_within.true in
    bare_arm c.bare.result c.args.expr.now c.args.after_minus c.args.out.now c.bare.new.out c.args.place ((places c.args.expr.now).fits c.args.place c.args.after_minus inside) c.bare.ensures

pub list-loop-expr-init : goal.list-loop-expr-init
list-loop-expr-init t c = list_begins c.args.exprs.now c.first-item.result c.args.out.now c.write.new.out c.in-len1-up.len_at_least c.first-item.is c.in_ok-write.ensures

pub list-loop-expr-preserved : goal.list-loop-expr-preserved
list-loop-expr-preserved t c =
    list_goes_on (take (length c.args.exprs.now - 1) (drop 1 c.args.exprs.now)) c.loop-expr.expr-index c.expr-item.result c.loop-expr.out c.sign.new.self c.put.new.self c.write-in-loop-expr.new.out _
    c.loop-expr-test.true c.expr-item.is c.in_ok-sign.ensures c.in_ok-put.ensures c.in_ok-write-2.ensures c.loop-expr.invariant

pub list-returns : goal.list-returns
list-returns t c =
    list_ends (take (length c.args.exprs.now - 1) (drop 1 c.args.exprs.now)) c.loop-expr.expr-index c.loop-expr.out _ c.loop-expr-test.false c.loop-expr.invariant
