use Rattle.iam_model.specs.Facts.{facts_of}
use Rattle.iam_rows.proofs.laws.rows_tell_tables.Goals as goal

pub returns : goal.returns
returns c = λ a b rows x y h k. c.facts_tell_tables.ensures a b (c.rows_tell_facts.ensures (facts_of a) (facts_of b) rows x.formed y.formed h k)
