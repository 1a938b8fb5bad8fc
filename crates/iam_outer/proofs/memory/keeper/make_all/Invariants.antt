use Rattle.std.proofs.Common.{◌≡◌, drop}
use Rattle.iam_outer.specs.Rows.{after_writes}
use Rattle.iam_outer.proofs.memory.keeper.make_all.Given as goal

abbrev pub invariant-loop-write : goal.invariant-loop-write
invariant-loop-write l = after_writes (drop l.write-index l.writes) l.rows ≡ after_writes l.writes l.initial.rows
