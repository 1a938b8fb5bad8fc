use Rattle.std.proofs.Common.{◌≤◌, arith}
use Rattle.std.proofs.lemmas.Bool.{le-leb, leb-true}
use Rattle.iam_tables.proofs.numbers.next_fits.Goals as goal

pub returns-then-tables-ge1 : goal.returns-then-tables-ge1
returns-then-tables-ge1 c = (
  λ fits. (c.if-tables-ge1.true, leb-true c.args.tables.now.org.next c.args.tables.now.org.changes fits),
  λ fit. le-leb c.args.tables.now.org.next c.args.tables.now.org.changes fit.1,
)

pub returns-else-tables-ge1 : goal.returns-else-tables-ge1
returns-else-tables-ge1 c = (
  λ one. let some : 1 ≤ c.args.tables.now.org.next = leb-true 1 c.args.tables.now.org.next one in absurd (omega arith),
  λ fit. le-leb 1 c.args.tables.now.org.next fit.0,
)
