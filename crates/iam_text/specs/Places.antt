-- The place that a search gives for a row.
use Rattle.std.specs.Prelude.{◌≡◌, ◌<◌, ◌≤◌, List, length, insert, slice_set}
use Rattle.std.specs.declared.cmp.Ordering.{Ordering}
use Rattle.iam_text.specs.declared.ordered.Place.{Place}
use Rattle.iam_text.specs.declared.ordered.Place.TheVariants.{At, Before}
use Rattle.iam_text.specs.Put.{put}

-- a write or an insertion there puts the row
abbrev pub PutsAt : {X : Type 0} → (X → X → Ordering) → X → List X → Place → Type 0
PutsAt order row rows (At at) = (at < length rows) × (slice_set rows at row ≡ put order row rows)
PutsAt order row rows (Before at) = (at ≤ length rows) × (insert rows at row ≡ put order row rows)
