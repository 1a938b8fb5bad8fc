use Rattle.std.proofs.lemmas.Result.{IfOk-weaker}
use Rattle.iam_plan.proofs.Principals.{email_is}
use Rattle.iam_plan.proofs.access.read_email_of.Goals as goal

pub returns-in-Some : goal.returns-in-Some
returns-in-Some c = IfOk-weaker _ _ _
    (λ r found. email_is c.args.text.now c.in-Some.email r (rw c.in-Some.is at c.in_ok-email.ensures.read) found) c.caller_of_email.ensures
