-- What is shown has no floats.
use Rattle.std.proofs.Common.{◌≡◌, ℕ, List, [], ◌∷◌, map, Option, Some, None, false, refl}
use Rattle.serde_json.specs.Data.{Data, Members}
use Rattle.serde_json.specs.View.{items_of}
use Rattle.serde_json.specs.Written.{has_float, items_have_float, members_have_float}
use Rattle.iam_types.specs.declared.allow.Binding.{Binding}
use Rattle.iam_types.specs.declared.allow.Condition.{Condition}
use Rattle.iam_types.specs.declared.node.Node.{Node}
use Rattle.iam_json_data.specs.Shown.{member_data, with_condition, binding_data, with_project, node_data}

pub list_without_float : {A : Type 0} (shown : A → Data) (things : List A) → ((a : A) → has_float (shown a) ≡ false) → items_have_float (items_of (map shown things)) ≡ false
list_without_float shown [] each = refl
list_without_float shown (thing ∷ things) each = rw (each thing) (list_without_float shown things each)

with_condition_without_float : (condition : Option Condition) (members : Members) → members_have_float members ≡ false → members_have_float (with_condition condition members) ≡ false
with_condition_without_float None members h = h
with_condition_without_float (Some condition) members h = h

pub binding_without_float : (binding : Binding) → has_float (binding_data binding) ≡ false
binding_without_float binding =
    with_condition_without_float binding.condition _ (rw (list_without_float member_data binding.members (λ m. refl)) refl)

with_project_without_float : (project : Option (List ℕ)) (members : Members) → members_have_float members ≡ false → members_have_float (with_project project members) ≡ false
with_project_without_float None members h = h
with_project_without_float (Some id) members h = h

pub node_without_float : (node : Node) → has_float (node_data node) ≡ false
node_without_float node = with_project_without_float node.project _ refl
