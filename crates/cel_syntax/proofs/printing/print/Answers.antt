use Rattle.std.proofs.Common.{sym, subst}
use Rattle.std.proofs.lemmas.Result.{IfOk-weaker}
use Rattle.cel_syntax.specs.Back.{ReadsBack}
use Rattle.cel_syntax.proofs.Again.{reads_back}
use Rattle.cel_syntax.proofs.printing.print.Goals as goal

pub returns-clause-reads_back : goal.returns-clause-reads_back
returns-clause-reads_back c = λ text d.
    IfOk-weaker c.print.result _ _ (λ printed e. subst (ReadsBack c.args.expr.now) (sym e) (reads_back text c.args.expr.now d)) c.print.ensures
