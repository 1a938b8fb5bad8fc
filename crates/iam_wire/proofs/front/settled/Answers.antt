use Rattle.std.proofs.Common.{arith}
use Rattle.iam_wire.proofs.Looks.{open_front, long_front, target_front, closed_long, closed_front}
use Rattle.iam_wire.proofs.front.settled.Goals as goal
use Rattle.iam_wire.proofs.front.settled.Goals.{else-bytes-lt-MAX_HEAD-2-via-then-bytes-lt-MAX_HEAD-2+else-stops_in_target, else-bytes-lt-MAX_HEAD-2-via-else-bytes-lt-MAX_HEAD-2}

pub returns-then-bytes-lt-MAX_HEAD : goal.returns-then-bytes-lt-MAX_HEAD
returns-then-bytes-lt-MAX_HEAD c = open_front c.args.bytes.now (rw c.in-Open.is at c.requires) (omega arith)

pub returns-else-bytes-lt-MAX_HEAD : goal.returns-else-bytes-lt-MAX_HEAD
returns-else-bytes-lt-MAX_HEAD c = let o = rw c.in-Open.is at c.requires in long_front c.args.bytes.now o.0 (omega arith)

pub returns-then-stops_in_target : goal.returns-then-stops_in_target
returns-then-stops_in_target c = target_front c.args.bytes.now (rw c.in-Closed.is at c.requires) (omega arith) (c.stops_in_target.ensures.0 c.if-stops_in_target.true)

pub returns-else-bytes-lt-MAX_HEAD-2 : goal.returns-else-bytes-lt-MAX_HEAD-2
returns-else-bytes-lt-MAX_HEAD-2 c =
    let never = rw c.in-Closed.is at c.requires in
    elim c.else-bytes-lt-MAX_HEAD-2.branch [
      | else-bytes-lt-MAX_HEAD-2-via-then-bytes-lt-MAX_HEAD-2+else-stops_in_target w ↦ closed_front c.args.bytes.now never (omega arith) (λ t. absurd (cc (w.stops_in_target.ensures.1 t, w.if-stops_in_target.false)))
      | else-bytes-lt-MAX_HEAD-2-via-else-bytes-lt-MAX_HEAD-2 w ↦ closed_long c.args.bytes.now never (omega arith)
    ]
