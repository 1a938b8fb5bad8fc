use Rattle.std.proofs.Common.{◌≡◌, ◌++◌, take, drop}
use Rattle.iam_text.specs.Put.{put}
use Rattle.iam_text.proofs.ordered.place_of.Given as goal

-- the row belongs behind all rows so far
abbrev pub invariant-loop-at : goal.invariant-loop-at
invariant-loop-at g l = take l.at l.rows ++ put g.T.Ordered.order l.row (drop l.at l.rows) ≡ put g.T.Ordered.order l.row l.rows
