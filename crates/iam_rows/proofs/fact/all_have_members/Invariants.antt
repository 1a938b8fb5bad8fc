use Rattle.std.proofs.Common.{take}
use Rattle.std.specs.Prelude.{All}
use Rattle.iam_rows.proofs.Back.{HasMembers}
use Rattle.iam_rows.proofs.fact.all_have_members.Given as goal

abbrev pub invariant-loop-binding : goal.invariant-loop-binding
invariant-loop-binding l = All HasMembers (take l.binding-index l.bindings)
