use Rattle.std.proofs.Common.{codes}
use Rattle.iam_plan.proofs.Principals.{ends_so}
use Rattle.iam_plan.proofs.access.is_service_domain.Goals as goal

pub returns : goal.returns
returns c = rw c.is_some.ensures (ends_so c.args.domain.now (codes ".gserviceaccount.com") c.strip_suffix.result c.strip_suffix.ensures.cases)
