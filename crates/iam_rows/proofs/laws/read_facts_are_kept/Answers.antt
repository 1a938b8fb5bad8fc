use Rattle.iam_rows.proofs.Same.{read_kept}
use Rattle.iam_rows.proofs.laws.read_facts_are_kept.Goals as goal

pub returns : goal.returns
returns c = read_kept
