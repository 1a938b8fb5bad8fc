use Rattle.std.proofs.Common.{◌+◌, ◌∙◌, sym, ap, subst, arith}
use Rattle.cel_tree.specs.declared.tree.Expr.{Expr}
use Rattle.cel_grammar.specs.Grammar.{IsExpr}
use Rattle.cel_grammar.specs.Reader.{whole_at}
use Rattle.cel_grammar.proofs.Whole.{is_expr, gives_ok, gives_err}
use Rattle.cel_grammar.proofs.reader.read.Goals as goal

pub returns-in-Ok-clause-sound : goal.returns-in-Ok-clause-sound
returns-in-Ok-clause-sound c =
    let n = c.len-depth.result + 1 in
    subst (λ (a : Expr). IsExpr c.args.tokens a) (sym c.into_inner.ensures)
    (is_expr c.args.tokens n c.whole.new.tokens c.in-Ok.a (ap (whole_at n) (sym c.new-cursor.ensures) ∙ c.in-Ok.ensures) (sym c.left.ensures ∙ c.if-left-eq0.true))

pub returns-in-Ok-clause-complete : goal.returns-in-Ok-clause-complete
returns-in-Ok-clause-complete c = λ a d.
    let n = c.len-depth.result + 1 in
    c.into_inner.ensures ∙ (gives_ok c.args.tokens n c.whole.new.tokens a c.in-Ok.a (ap (whole_at n) (sym c.new-cursor.ensures) ∙ c.in-Ok.ensures) (omega arith) d).0

pub returns-in-Ok-2-clause-complete : goal.returns-in-Ok-2-clause-complete
returns-in-Ok-2-clause-complete c = λ a d.
    let n = c.len-depth.result + 1 in
    let none = (gives_ok c.args.tokens n c.whole.new.tokens a c.in-Ok-2.field-0 (ap (whole_at n) (sym c.new-cursor.ensures) ∙ c.in-Ok-2.ensures) (omega arith) d).1 in
    omega (arith, none, c.left.ensures, c.if-left-eq0.false)

pub returns-clause-complete : goal.returns-clause-complete
returns-clause-complete c = λ a d.
    let n = c.len-depth.result + 1 in
    gives_err c.args.tokens c.new-cursor.result n c.whole.new.tokens a c.in-Err.stop c.new-cursor.ensures c.in-Err.ensures (omega arith) d
