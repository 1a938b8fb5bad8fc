use Rattle.std.proofs.lemmas.Result.{IfOk-weaker}
use Rattle.iam_plan.proofs.Principals.{principal_of_email}
use Rattle.iam_plan.proofs.access.read_principal.Goals as goal

pub returns-in-None : goal.returns-in-None
returns-in-None c = IfOk-weaker _ _ _
    (λ r found. principal_of_email c.args.text.now r (rw c.in-None.is at c.in_ok-caller.ensures.read) found) c.read_email_of.ensures
