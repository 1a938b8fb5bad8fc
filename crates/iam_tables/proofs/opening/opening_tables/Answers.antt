use Rattle.std.proofs.Common.{refl}
use Rattle.iam_tables.proofs.opening.opening_tables.Goals as goal

pub returns : goal.returns
returns c =
    rw (c.in_ok-opening_org.ensures, c.in_ok-opening_policies.ensures, c.new.ensures, c.new-2.ensures, c.new-3.ensures, c.new-4.ensures, c.new-5.ensures, c.new-6.ensures, c.new-7.ensures, c.new-8.ensures, c.new-9.ensures, c.new-10.ensures) refl
