use Rattle.std.proofs.Common.{string_bytes, refl, sym, subst}
use Rattle.cel_answers.specs.Answers as answers
use Rattle.cel_answers.specs.Answers.{Answer, tree_line}
use Rattle.cel_answers.proofs.Lines.{said}
use Rattle.cel_answers.proofs.answer.text_answer.Goals as goal

pub returns-in-Read : goal.returns-in-Read
returns-in-Read c =
    let text = c.args.text.now in
    let line = tree_line c.in-Ok.tree in
    said c.read_line.result string_bytes _ line (Answer c.args.facts.now c.args.task text) c.read_line.ensures refl
    (subst (λ task. Answer c.args.facts.now task text line) (sym c.in-Read.is) (answers.tree c.in-Ok.ensures.answer))
