-- The range of moments.
use Rattle.std.specs.Prelude.{◌≤ℤ◌, pos, negsuc}
use Rattle.iam_text.specs.declared.moment.Moment.{Moment}

-- from 0001-01-01T00:00:00Z to 9999-12-31T23:59:59Z
abbrev pub IsMoment : Moment → Type 0
IsMoment m = (negsuc 62135596799 ≤ℤ m.0) × (m.0 ≤ℤ pos 253402300799)
