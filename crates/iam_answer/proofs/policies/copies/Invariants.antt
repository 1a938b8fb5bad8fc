use Rattle.std.proofs.Common.{◌≡◌, take}
use Rattle.iam_answer.proofs.policies.copies.Given as goal

abbrev pub invariant-loop-binding : goal.invariant-loop-binding
invariant-loop-binding l = l.copies ≡ take l.binding-index l.bindings
