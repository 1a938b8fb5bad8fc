use Rattle.std.proofs.Common.{Result, sym, ap, ◌∙◌, subst, arith}
use Rattle.std.proofs.lemmas.Result.{err_from_is_err_and}
use Rattle.cel_tree.specs.declared.tree.Expr.{Expr}
use Rattle.cel_grammar.specs.Depth.{deepest}
use Rattle.cel_syntax.specs.declared.fault.ReadStop.{ReadStop}
use Rattle.cel_syntax.specs.CelText as spec
use Rattle.cel_syntax.proofs.Answering.{faults_at, cut_faults, grammar_faults}
use Rattle.cel_syntax.proofs.texts.answered.Goals as goal

pub returns-then-text-gt-MAX_BYTES : goal.returns-then-text-gt-MAX_BYTES
returns-then-text-gt-MAX_BYTES c = faults_at c.args.text.now _ _ c.fault.ensures (spec.too_long (omega arith))

pub returns-in_err-tokens : goal.returns-in_err-tokens
returns-in_err-tokens c =
    let p = err_from_is_err_and c.from_residual.result c.from_residual.ensures.1 in
    subst (λ (r : Result Expr ReadStop). spec.Answers c.args.text.now r) (sym p.1) (cut_faults c.args.text.now _ p.0 p.2 (omega arith) c.in_err-tokens.ensures.cut)

pub returns-in_err-tree : goal.returns-in_err-tree
returns-in_err-tree c =
    let e = c.depth.ensures ∙ ap (deepest 0) c.as_slice.ensures in
    let p = err_from_is_err_and c.from_residual-in_err-tree.result c.from_residual-in_err-tree.ensures.1 in
    subst (λ (r : Result Expr ReadStop). spec.Answers c.args.text.now r) (sym p.1)
    (grammar_faults c.args.text.now _ _ p.0 p.2 (omega arith) c.in_ok-tokens.ensures.cut (omega arith) (omega (arith, e))
    c.in_err-tree.ensures.complete)

pub returns : goal.returns
returns c =
    let e = c.depth.ensures ∙ ap (deepest 0) c.as_slice.ensures in
    record { tokens = _; short = omega arith; cut = c.in_ok-tokens.ensures.cut; few = omega arith; shallow = omega (arith, e); derived = c.in_ok-tree.ensures.sound }

pub returns-then-len-gt-MAX_TOKENS : goal.returns-then-len-gt-MAX_TOKENS
returns-then-len-gt-MAX_TOKENS c =
    faults_at c.args.text.now _ _ c.fault-then-len-gt-MAX_TOKENS.ensures (spec.too_many_tokens (omega arith) c.in_ok-tokens.ensures.cut (omega arith))

pub returns-then-depth-gt-MAX_DEPTH : goal.returns-then-depth-gt-MAX_DEPTH
returns-then-depth-gt-MAX_DEPTH c =
    let e = c.depth.ensures ∙ ap (deepest 0) c.as_slice.ensures in
    faults_at c.args.text.now _ _ c.fault-then-depth-gt-MAX_DEPTH.ensures (spec.too_deep (omega arith) c.in_ok-tokens.ensures.cut (omega arith) (omega (arith, e)))
