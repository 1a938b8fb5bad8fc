use Rattle.std.proofs.Common.{None}
use Rattle.iam_server.proofs.runs.carry_out.Goals as goal

pub apply-requires : goal.apply-requires
apply-requires g c = c.requires _ _ c.in-Apply.is

-- what a run comes to doesn't go by the file, so any will do
pub returns-in-Apply-clause-came : goal.returns-in-Apply-clause-came
returns-in-Apply-clause-came g c = rw c.in-Apply.is (c.apply.ensures.came None)

pub returns-in-Ask-clause-came : goal.returns-in-Ask-clause-came
returns-in-Ask-clause-came g c = rw c.in-Ask.is (c.ask-end.ensures.came None)
