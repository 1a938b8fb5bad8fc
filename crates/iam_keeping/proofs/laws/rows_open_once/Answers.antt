use Rattle.iam_keeping.proofs.Left.{opened_once}
use Rattle.iam_keeping.proofs.laws.rows_open_once.Goals as goal

pub returns : goal.returns
returns c = opened_once c.ordered_facts_are_placed.ensures c.consistent_tables_are_given.ensures c.rows_tell_tables.ensures
