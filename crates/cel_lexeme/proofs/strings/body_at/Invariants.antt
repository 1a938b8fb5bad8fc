use Rattle.std.proofs.Common.{◌≡◌, ◌-◌, ◌≤◌, length}
use Rattle.cel_lexeme.specs.Front.{behind, body_from}
use Rattle.cel_lexeme.proofs.strings.body_at.Given as goal

abbrev pub invariant-loop-rest : goal.invariant-loop-rest
invariant-loop-rest l =
    (behind l.value l.sound (length l.z - length l.rest) (body_from l.form l.rest 0) ≡ body_from l.form l.z 0) × (length l.rest ≤ length l.z)

abbrev pub decreases-loop-rest : goal.decreases-loop-rest
decreases-loop-rest l = length l.rest
