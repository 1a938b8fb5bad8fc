use Rattle.std.proofs.Common.{◌≡◌, ◌+◌, drop}
use Rattle.iam_text.specs.Put.{put}
use Rattle.iam_model.specs.Part.{order_in}
use Rattle.iam_model.specs.Parts.{allow_part}
use Rattle.iam_model.specs.Policies.{count_all_members}
use Rattle.iam_readings.proofs.count.count_with.Given as goal

-- the policies so far and those behind, with the policy in its place there
abbrev pub invariant-loop-at : goal.invariant-loop-at
invariant-loop-at l = l.count + count_all_members (put (order_in allow_part) l.policy (drop l.at l.rows)) ≡ count_all_members (put (order_in allow_part) l.policy l.rows)
