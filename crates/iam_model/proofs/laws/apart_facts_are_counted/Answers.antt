use Rattle.iam_model.specs.Facts.{fact_order}
use Rattle.iam_model.proofs.Parted.{fact_order_total}
use Rattle.iam_model.proofs.Placing.{all_counted}
use Rattle.iam_model.proofs.laws.apart_facts_are_counted.Goals as goal

pub returns : goal.returns
returns c = all_counted fact_order fact_order_total
