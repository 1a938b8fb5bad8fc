use Rattle.iam_office.proofs.Follows.{follows}
use Rattle.iam_office.proofs.laws.replies_follow.Goals as goal

pub returns : goal.returns
returns c = follows c.one_asking.ensures
