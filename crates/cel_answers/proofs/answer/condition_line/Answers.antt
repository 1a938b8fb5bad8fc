use Rattle.std.proofs.Common.{string_bytes, refl, ap}
use Rattle.cel_answers.specs.declared.task.Task.TheVariants.{Check}
use Rattle.cel_answers.specs.Answers as answers
use Rattle.cel_answers.specs.Answers.{Answer, tree_line, fault_line}
use Rattle.cel_answers.specs.Names.{type_name_of}
use Rattle.cel_answers.proofs.Lines.{said}
use Rattle.cel_answers.proofs.answer.condition_line.Goals as goal

pub returns-in-Ok : goal.returns-in-Ok
returns-in-Ok c = λ facts text h.
    said c.typed_line.result string_bytes _ (tree_line c.args.tree) (Answer facts (Check c.args.place) text) c.typed_line.ensures
    (ap tree_line c.in-Ok.ensures.typed.0) (answers.condition h (c.in-Ok.ensures.exact.0 refl))

pub returns-in-Err : goal.returns-in-Err
returns-in-Err c = λ facts text h.
    let fault = c.in-Err.fault in
    said c.fault_line.result string_bytes _ (fault_line (type_name_of fault.kind) fault.offset) (Answer facts (Check c.args.place) text)
    c.fault_line.ensures (ap (λ name. fault_line name fault.offset) c.type_name.ensures) (answers.type_fault refl h c.in-Err.ensures.fault)
