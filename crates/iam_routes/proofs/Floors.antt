-- A text that is no number names no floor.
use Rattle.std.proofs.Common.{◌≡◌, ℕ, ◌∙◌, List, Option, Some, None}
use Rattle.iam_wire.specs.Fields.{number_of}
use Rattle.iam_wire.specs.Front.{max_digits}
use Rattle.iam_wire.specs.declared.message.Field.TheVariants.{One}
use Rattle.iam_routes.specs.Asked.{NamesFloor}

pub no_floor : (text : List ℕ) → None ≡ number_of max_digits text → (floor : Option ℕ) → ¬ (NamesFloor (One text) floor)
no_floor text none floor named = let both : None ≡ Some named.0 = none ∙ named.2 in cc both
