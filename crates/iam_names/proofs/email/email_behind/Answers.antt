use Rattle.std.proofs.lemmas.Result.{IfOk-weaker}
use Rattle.iam_names.specs.Email.{IsEmail, email_text}
use Rattle.iam_names.proofs.Behind.{read_behind}
use Rattle.iam_names.proofs.email.email_behind.Goals as goal

pub returns-in-Some : goal.returns-in-Some
returns-in-Some c = IfOk-weaker _ _ _ (λ r h. read_behind IsEmail email_text c.args.prefix.now _ c.args.text.now r c.in-Some.ensures.some h) c.read.ensures.read
