use Rattle.std.proofs.Common.{refl, sym}
use Rattle.iam_routes.proofs.Floors.{no_floor}
use Rattle.iam_routes.proofs.caller.floor_of.Goals as goal

pub returns-in-Some : goal.returns-in-Some
returns-in-Some c = let is = rw (c.as_bytes.ensures.value, c.as_str.ensures.value) at c.in-Some.ensures in rw c.in-One.is (c.in-Some.number, refl, sym is)

pub returns-in-None : goal.returns-in-None
returns-in-None c = let is = rw (c.as_bytes.ensures.value, c.as_str.ensures.value) at c.in-None.ensures in rw c.in-One.is (no_floor c.in-One.text is)
