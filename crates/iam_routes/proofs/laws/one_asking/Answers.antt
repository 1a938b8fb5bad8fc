use Rattle.iam_routes.proofs.Askings.{one_asking}
use Rattle.iam_routes.proofs.laws.one_asking.Goals as goal

pub returns : goal.returns
returns c = one_asking
