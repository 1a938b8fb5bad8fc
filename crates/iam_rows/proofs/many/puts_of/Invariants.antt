use Rattle.std.proofs.Common.{map, take}
use Rattle.iam_types.specs.declared.fact.FactChange.TheVariants as change
use Rattle.iam_rows.specs.Kept.{AreWrites}
use Rattle.iam_rows.proofs.many.puts_of.Given as goal

abbrev pub invariant-loop-fact : goal.invariant-loop-fact
invariant-loop-fact l = AreWrites (map change.Put (take l.fact-index l.facts)) l.writes
