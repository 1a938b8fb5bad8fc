-- What is printed.
use Rattle.std.specs.Prelude.{ℕ, List, map}
use Rattle.serde_json.specs.Data.{Data, array}
use Rattle.serde_json.specs.View.{items_of}
use Rattle.serde_json.specs.Written.{compact_text}

-- the bytes of data without floats: no spaces, members in their order
unfoldable pub printed : Data → List ℕ
printed = compact_text

-- a list of things, each shown as its data
abbrev pub list_data : {A : Type 0} → (A → Data) → List A → Data
list_data shown things = array (items_of (map shown things))
