use Rattle.std.proofs.Common.{subst, List, ℕ}
use Rattle.std.proofs.lemmas.Result.{IfOk-weaker}
use Rattle.iam_names.specs.Caller.{IsCaller, caller_text}
use Rattle.iam_names.specs.Reading.{IsRead}
use Rattle.iam_plan.proofs.Principals.{read_of_email}
use Rattle.iam_plan.proofs.access.caller_of_email.Goals as goal

pub returns : goal.returns
returns c = IfOk-weaker _ _ _ (λ r read. read_of_email c.args.email.now c.in_ok-text.text r c.in_ok-text.ensures
    (subst (λ (t : List ℕ). IsRead IsCaller caller_text t r) c.as_str.ensures.value read)) c.read.ensures.read
