use Rattle.std.proofs.Common.{Err, string_bytes, ap, subst}
use Rattle.cel_syntax.specs.CelText.{Answers}
use Rattle.cel_answers.specs.Answers as answers
use Rattle.cel_answers.specs.Answers.{Answer, fault_line}
use Rattle.cel_answers.specs.Names.{name_of}
use Rattle.cel_answers.proofs.Lines.{said}
use Rattle.cel_answers.proofs.answer.stop_line.Goals as goal

pub returns-in-Syntax : goal.returns-in-Syntax
returns-in-Syntax c = λ facts text h.
    let fault = c.in-Syntax.fault in
    said c.fault_line.result string_bytes _ (fault_line (name_of fault.kind) fault.offset) (Answer facts c.args.task text) c.fault_line.ensures
    (ap (λ name. fault_line name fault.offset) c.name.ensures) (answers.fault (subst (λ stop. Answers text (Err stop)) c.in-Syntax.is h))
