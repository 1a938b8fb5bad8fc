use Rattle.std.proofs.Common.{◌≡◌, ◌++◌, map, take}
use Rattle.iam_modified.specs.Given.{given_of}
use Rattle.iam_modified.proofs.modified.push_given.Given as goal

abbrev pub invariant-loop-binding : goal.invariant-loop-binding
invariant-loop-binding l = l.all.items ≡ l.initial.all.items ++ map (given_of l.is_old) (take l.binding-index l.bindings)
