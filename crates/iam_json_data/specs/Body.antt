-- The data that a body spells.
use Rattle.std.specs.Prelude.{◌≡◌, ℕ, List, [], ◌∷◌, Option, Some, None, Result, Ok, Err, if◌then◌else◌}
use Rattle.std.specs.Str.{is_utf8}
use Rattle.serde_json.specs.Data.{Data, object, no_members}
use Rattle.serde_json.specs.Read.{read}
use Rattle.serde_json.specs.View.{view}
use Rattle.serde_json.specs.declared.value.Value.{Value}
use Rattle.iam_json_data.specs.declared.stop.BodyStop.{BodyStop}
use Rattle.iam_json_data.specs.declared.stop.BodyStop.TheVariants.{BadJson, BadField, OutOfMemory}

-- JSON is UTF-8
unfoldable pub read_bytes : List ℕ → Option Data
read_bytes bytes = if is_utf8 bytes then read bytes else None

-- an empty body is read as `{}`
abbrev pub body_data : List ℕ → Option Data
body_data [] = Some (object no_members)
body_data (byte ∷ bytes) = read_bytes (byte ∷ bytes)

-- what a body gives, by what its data gives: a value, or the path of the first bad member
abbrev pub BodyGives : {A : Type 0} → (Data → Result A (List ℕ) → Type 0) → List ℕ → Result A BodyStop → Type 0
BodyGives reads body (Ok value) = (d : Data) × (body_data body ≡ Some d) × reads d (Ok value)
BodyGives reads body (Err BadJson) = body_data body ≡ None
BodyGives reads body (Err (BadField path)) = (d : Data) × (body_data body ≡ Some d) × reads d (Err path)
BodyGives reads body (Err OutOfMemory) = Unit {0}

-- the data as a value
abbrev pub ReadsWhole : Data → Result Value (List ℕ) → Type 0
ReadsWhole d (Ok value) = view value ≡ d
ReadsWhole d (Err path) = ⊥
