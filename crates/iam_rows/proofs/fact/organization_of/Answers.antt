use Rattle.iam_rows.proofs.Like.{no_number, number_of_name}
use Rattle.iam_rows.proofs.fact.organization_of.Goals as goal

pub returns-in-Some : goal.returns-in-Some
returns-in-Some c = rw c.number_in.ensures (number_of_name c.args.row.now.name c.in-Some.node c.in-Some.ensures)

pub returns-in-None : goal.returns-in-None
returns-in-None c = no_number c.args.row.now.name c.in-None.ensures
