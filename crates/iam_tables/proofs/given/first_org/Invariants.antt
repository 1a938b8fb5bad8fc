use Rattle.std.proofs.Common.{◌≡◌, drop}
use Rattle.iam_model.specs.Part.{rows_in}
use Rattle.iam_model.specs.Parts.{org_part}
use Rattle.iam_tables.proofs.given.first_org.Given as goal

abbrev pub invariant-loop-at : goal.invariant-loop-at
invariant-loop-at l = rows_in org_part (drop l.at l.facts) ≡ rows_in org_part l.facts
