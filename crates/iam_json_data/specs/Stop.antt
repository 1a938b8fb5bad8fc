-- A stop, seen from outside.
use Rattle.std.specs.Prelude.{◌≡◌, ℕ, List}
use Rattle.iam_json_data.specs.declared.stop.BodyStop.{BodyStop}
use Rattle.iam_json_data.specs.declared.stop.BodyStop.TheVariants.{BadJson, BadField, OutOfMemory}
use Rattle.iam_json_data.specs.Path.{under}

-- a bad path has this name before it; want of memory may come in place of any stop
abbrev pub MovesOut : List ℕ → BodyStop → BodyStop → Type 0
MovesOut name stop OutOfMemory = Unit {0}
MovesOut name stop BadJson = stop ≡ BadJson
MovesOut name (BadField inner) (BadField path) = path ≡ under name inner
MovesOut name BadJson (BadField path) = ⊥
MovesOut name OutOfMemory (BadField path) = ⊥
