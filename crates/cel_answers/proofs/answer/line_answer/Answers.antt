use Rattle.std.proofs.Common.{ℕ, string_bytes, codes, ap, ◌∙◌, subst}
use Rattle.std.specs.Str.{valid_up_to}
use Rattle.std.specs.Str.Lossy.{utf8_valid_len}
use Rattle.cel_answers.specs.Answers as answers
use Rattle.cel_answers.specs.Answers.{LineAnswer, fault_line}
use Rattle.cel_answers.specs.Escapes.{StandsFor}
use Rattle.cel_answers.proofs.Lines.{said, line_said, no_other}
use Rattle.cel_answers.proofs.answer.line_answer.Goals as goal

pub returns-in-Ok-clause-answer : goal.returns-in-Ok-clause-answer
returns-in-Ok-clause-answer c =
    line_said c.text_answer.result string_bytes c.args.facts.now c.args.task c.as_bytes.result.now c.args.line.now c.in_ok-bytes.bytes.items c.as_str.result.now
    c.in_ok-bytes.ensures c.as_bytes.ensures.value (c.as_str.ensures.value ∙ ap (λ v. v.items) c.in-Ok.ensures.ok) c.as_str.utf8 c.text_answer.ensures

pub returns-in-Ok-clause-only : goal.returns-in-Ok-clause-only
returns-in-Ok-clause-only c =
    no_other c.text_answer.result string_bytes c.args.facts.now c.args.task c.args.line.now c.one_answer_a_line.ensures (returns-in-Ok-clause-answer c)

pub returns-in-Err-clause-answer : goal.returns-in-Err-clause-answer
returns-in-Err-clause-answer c =
    let bytes = c.in_ok-bytes.bytes.items in
    said c.fault_line.result string_bytes _ (fault_line (codes "NOT_UTF8") (utf8_valid_len bytes)) (LineAnswer c.args.facts.now c.args.task c.args.line.now)
    c.fault_line.ensures
    (ap (λ (n : ℕ). fault_line (codes "NOT_UTF8") n) (c.valid_up_to.ensures ∙ ap valid_up_to c.utf8_error.ensures ∙ c.in-Err.ensures.valid_len))
    (answers.no_text (subst (λ line. StandsFor line bytes) c.as_bytes.ensures.value c.in_ok-bytes.ensures) (λ u. let e = c.in-Err.ensures.succeeds u in let never : ⊥ = cc e in never))

pub returns-in-Err-clause-only : goal.returns-in-Err-clause-only
returns-in-Err-clause-only c =
    no_other c.fault_line.result string_bytes c.args.facts.now c.args.task c.args.line.now c.one_answer_a_line.ensures (returns-in-Err-clause-answer c)
