use Rattle.iam_office.proofs.Complete.{complete}
use Rattle.iam_office.proofs.laws.all_are_answered.Goals as goal

pub returns : goal.returns
returns c = complete c.streams.ensures
