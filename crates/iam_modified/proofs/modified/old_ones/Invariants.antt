use Rattle.std.proofs.Common.{◌≡◌, ◌+◌, drop}
use Rattle.iam_modified.specs.Given.{count_old}
use Rattle.iam_modified.proofs.modified.old_ones.Given as goal

abbrev pub invariant-loop-at : goal.invariant-loop-at
invariant-loop-at l = count_old l.run ≡ l.at + count_old (drop l.at l.run)
