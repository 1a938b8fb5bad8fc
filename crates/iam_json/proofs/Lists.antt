-- Empty lists of items.
use Rattle.std.proofs.Common.{◌≡◌, ◌==◌, List, [], ◌∷◌, length, Bool, ◌↔◌, IsTrue, refl, arith}
use Rattle.serde_json.specs.Data.{no_items}
use Rattle.serde_json.specs.View.{items_view}
use Rattle.serde_json.specs.declared.value.Value.{Value}

pub view_of_none : (vs : List Value) (b : Bool) → b ≡ (length vs == 0) → IsTrue b ↔ (items_view vs ≡ no_items)
view_of_none [] b e = (λ _. refl, λ _. grind (arith, e))
view_of_none (v ∷ vs) b e = (λ some. absurd (grind (arith, some, e)), λ h. absurd (cc h))
