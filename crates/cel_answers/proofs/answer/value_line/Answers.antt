use Rattle.std.proofs.Common.{string_bytes, refl, ap, ◌∙◌, subst}
use Rattle.std.proofs.lemmas.Result.{IfOk-weaker}
use Rattle.cel_meaning.specs.Results.{at}
use Rattle.cel_types.specs.Means.{Means}
use Rattle.cel_answers.specs.declared.task.Task.TheVariants.{Value}
use Rattle.cel_answers.specs.Answers as answers
use Rattle.cel_answers.specs.Answers.{Answer, fault_line}
use Rattle.cel_answers.specs.Names.{type_name_of}
use Rattle.cel_answers.proofs.Lines.{said, value_said}
use Rattle.cel_answers.proofs.answer.value_line.Goals as goal

pub returns-in_ok-outcome-in-Ok : goal.returns-in_ok-outcome-in-Ok
returns-in_ok-outcome-in-Ok c = λ text h.
    let facts = c.args.facts.now in
    let outcome = c.in_ok-outcome-in-Ok.outcome in
    let means : Means (at facts) c.args.tree outcome =
    subst (λ e. Means (at facts) e outcome) c.in-Ok.ensures.typed.0 c.in_ok-outcome-in-Ok.ensures.meaning in
    IfOk-weaker c.outcome_line.result _ _
    (λ line named. value_said facts text (string_bytes line) c.args.tree outcome (string_bytes line) refl h (c.in-Ok.ensures.exact.0 refl) means c.in_ok-outcome-in-Ok.ensures.truth named)
    c.outcome_line.ensures

pub returns-in-Err : goal.returns-in-Err
returns-in-Err c = λ text h.
    let fault = c.in-Err.fault in
    said c.fault_line.result string_bytes _ (fault_line (type_name_of fault.kind) fault.offset) (Answer c.args.facts.now Value text)
    c.fault_line.ensures (ap (λ name. fault_line name fault.offset) c.type_name.ensures) (answers.type_fault refl h c.in-Err.ensures.fault)
