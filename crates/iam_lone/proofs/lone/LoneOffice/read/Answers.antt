use Rattle.std.proofs.Common.{◌∙◌, ap}
use Rattle.iam_text.specs.declared.memory.OutOfMemory.{OutOfMemory}
use Rattle.iam_answer.specs.Answer.{answer_of}
use Rattle.iam_lone.specs.Lone.{Alone}
use Rattle.iam_lone.proofs.Standing.{read_here, unread_here}
use Rattle.iam_lone.proofs.lone.LoneOffice.read.Goals as goal

pub returns-in_err-answer-clause-told : goal.returns-in_err-answer-clause-told
returns-in_err-answer-clause-told g c = unread_here c.args.self.now c.take_up.new.self c.args.ask.now c.args.caller.now c.args.moment _ c.in_ok-take_up.ensures.ok c.from_residual-in_err-answer.ensures.0

pub returns-clause-told : goal.returns-clause-told
returns-clause-told g c = read_here OutOfMemory c.histories.ensures c.args.self.now c.take_up.new.self c.args.ask.now c.args.caller.now c.args.moment c.number.result c.in_ok-answer.field-0 c.in_ok-take_up.ensures.ok
    c.number.ensures.number
    (c.in_ok-answer.ensures ∙ ap (λ (l : Alone g.row.P.Denot). answer_of l.tables c.args.ask.now c.args.caller.now c.args.moment) c.self.view_is)
