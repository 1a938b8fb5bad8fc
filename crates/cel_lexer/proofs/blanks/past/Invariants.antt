use Rattle.std.proofs.Common.{◌≡◌, ◌≤◌, length, false}
use Rattle.cel_lexer.specs.Past.{past}
use Rattle.cel_lexer.proofs.blanks.past.Given as goal

abbrev pub invariant-loop-z : goal.invariant-loop-z
invariant-loop-z l = (past l.in_comment l.z ≡ past false l.initial.z) × (length l.z ≤ length l.initial.z)

abbrev pub decreases-loop-z : goal.decreases-loop-z
decreases-loop-z l = length l.z
