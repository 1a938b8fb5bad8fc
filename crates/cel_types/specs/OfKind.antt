-- Values of a kind.
use Rattle.std.specs.Prelude.{List, [], ◌∷◌}
use Rattle.cel_value.specs.declared.value.EvalFault.{EvalFault}
use Rattle.cel_value.specs.declared.value.Outcome.{Outcome}
use Rattle.cel_value.specs.declared.value.Outcome.TheVariants.{Given, Stopped}
use Rattle.cel_value.specs.declared.value.Value.{Value, out-Value}
use Rattle.cel_value.specs.declared.value.Value.TheOpen.{Value-F}
use Rattle.cel_types.specs.declared.kind.Base.{Base}
use Rattle.cel_types.specs.declared.kind.Base.TheVariants as base
use Rattle.cel_types.specs.declared.kind.Kind.{Kind}
use Rattle.cel_types.specs.declared.kind.Kind.TheVariants.{One, Many}

abbrev pub layer_has_base : Value-F Value → Base → Type 0
layer_has_base (Value-F.Bool b) base.Bool = Unit {0}
layer_has_base (Value-F.Int n) base.Int = Unit {0}
layer_has_base (Value-F.Str s) base.Str = Unit {0}
layer_has_base (Value-F.Time t) base.Time = Unit {0}
layer_has_base (Value-F.Length d) base.Length = Unit {0}
layer_has_base _ _ = ⊥

abbrev pub AllHaveBase : Base → List Value → Type 0
AllHaveBase b [] = Unit {0}
AllHaveBase b (v ∷ vs) = layer_has_base (out-Value v) b × AllHaveBase b vs

abbrev pub layer_is_of : Value-F Value → Kind → Type 0
layer_is_of (Value-F.Many vs) (Many b) = AllHaveBase b vs
layer_is_of _ (Many b) = ⊥
layer_is_of v (One b) = layer_has_base v b

-- the value is of the kind
abbrev pub IsOf : Value → Kind → Type 0
IsOf v k = layer_is_of (out-Value v) k

-- the outcome is a value of the kind or a fault
pub data OutcomeIsOf : Outcome → Kind → Type 0 where
  given : {v : Value} {k : Kind} → IsOf v k → OutcomeIsOf (Given v) k
  stopped : {fault : EvalFault} {k : Kind} → OutcomeIsOf (Stopped fault) k
