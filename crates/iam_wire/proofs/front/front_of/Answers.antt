use Rattle.std.proofs.Common.{arith, subst, length, take}
use Rattle.std.proofs.lemmas.List.{length-take}
use Rattle.iam_wire.specs.Look.{IsLook}
use Rattle.iam_wire.proofs.Bytes.{window}
use Rattle.iam_wire.proofs.Room.{never_exceeds}
use Rattle.iam_wire.proofs.front.front_of.Goals as goal

pub settled-requires : goal.settled-requires
settled-requires c = subst (λ s. IsLook s c.in-Some.seen) (window c.args.bytes.now c.min.result c.min.ensures) c.in-Some.ensures

pub settled-requires-in-Some-look_at : goal.settled-requires-in-Some-look_at
settled-requires-in-Some-look_at c = subst (λ s. IsLook s c.in-Some-look_at.seen) (window c.args.bytes.now c.min.result c.min.ensures) c.in-Some-look_at.ensures

pub unreachable-requires : goal.unreachable-requires
unreachable-requires c =
    omega (
      arith,
      never_exceeds (length c.deref_mut.result.now) (take c.min.result c.args.bytes.now) c.in-None.ensures,
      c.in_ok-many.ensures.len,
      c.deref_mut.ensures.len,
      c.min.ensures,
      length-take c.min.result c.args.bytes.now,
    )
