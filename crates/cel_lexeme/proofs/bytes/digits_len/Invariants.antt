use Rattle.std.proofs.Common.{◌≡◌, ◌+◌, ◌-◌, ◌≤◌, length, drop}
use Rattle.std.specs.List.{prefix_len}
use Rattle.std.specs.Char.{is_digit}
use Rattle.cel_lexeme.proofs.bytes.digits_len.Given as goal

abbrev pub invariant-loop-n : goal.invariant-loop-n
invariant-loop-n l =
    (l.n + prefix_len (λ b. is_digit b l.base) (drop l.n l.z) ≡ prefix_len (λ b. is_digit b l.base) l.z) × (l.n ≤ length l.z)

abbrev pub decreases-loop-n : goal.decreases-loop-n
decreases-loop-n l = length l.z - l.n
