use Rattle.std.proofs.Common.{◌≡◌, take}
use Rattle.cel_tree.proofs.sameness.+same.Given as goal

abbrev pub invariant-all_same-loop-i : goal.invariant-all_same-loop-i
invariant-all_same-loop-i l = take l.i l.left ≡ take l.i l.right
