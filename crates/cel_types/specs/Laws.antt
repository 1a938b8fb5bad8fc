-- The laws of kinds.
use Rattle.std.specs.Prelude.{◌≡◌, ◌↔◌, Bool, Some, Ok, Err}
use Rattle.cel_tree.specs.declared.tree.Expr.{Expr, out-Expr}
use Rattle.cel_value.specs.declared.value.Outcome.{Outcome}
use Rattle.cel_value.specs.declared.value.Outcome.TheVariants.{Given, Stopped}
use Rattle.cel_value.specs.declared.value.Value.TheVariants as value
use Rattle.cel_types.specs.declared.checking.TypeFault.{TypeFault}
use Rattle.cel_types.specs.declared.kind.Kind.{Kind}
use Rattle.cel_types.specs.Sight.{Sight}
use Rattle.cel_types.specs.HasKind.{HasKind, FirstFault, IsFaultOf}
use Rattle.cel_types.specs.Heads.{Head, head_of}
use Rattle.cel_types.specs.KindOf.{kind_of}
use Rattle.cel_types.specs.Kinds.{truth}
use Rattle.cel_types.specs.Means.{Means}
use Rattle.cel_types.specs.Setting.{Setting}
use Rattle.cel_types.specs.OfKind.{OutcomeIsOf}

-- a tree has at most one kind in a place
abbrev pub AtMostOneKind : Type 0
AtMostOneKind = (sight : Sight) (e : Expr) (k l : Kind) → HasKind sight e k → HasKind sight e l → k ≡ l

-- a tree with a fault has no kind there
abbrev pub FaultsHaveNoKind : Type 0
FaultsHaveNoKind = (sight : Sight) (e : Expr) (fault : TypeFault) (k : Kind) → FirstFault sight e fault → ¬ HasKind sight e k

-- a tree has at most one fault in a place
abbrev pub AtMostOneFault : Type 0
AtMostOneFault = (sight : Sight) (e : Expr) (f g : TypeFault) → IsFaultOf sight e f → IsFaultOf sight e g → f ≡ g

-- a condition has no fault in its place
abbrev pub ConditionsHaveNoFault : Type 0
ConditionsHaveNoFault = (sight : Sight) (e : Expr) (fault : TypeFault) → HasKind sight e truth → ¬ IsFaultOf sight e fault

-- the function gives exactly the kind that a tree has in a place
abbrev pub KindsAreComputed : Type 0
KindsAreComputed = (sight : Sight) (e : Expr) (k : Kind) → (kind_of sight e ≡ Ok k) ↔ HasKind sight e k

-- and exactly its first fault
abbrev pub FaultsAreComputed : Type 0
FaultsAreComputed = (sight : Sight) (e : Expr) (fault : TypeFault) → (kind_of sight e ≡ Err fault) ↔ FirstFault sight e fault

-- a tree that has a kind in a place has a head
abbrev pub KindsHaveHeads : Type 0
KindsHaveHeads = (sight : Sight) (e : Expr) (k : Kind) → HasKind sight e k → (h : Head) × (head_of (out-Expr e) ≡ Some h)

-- a tree comes to at most one outcome in a setting
abbrev pub AtMostOneOutcome : Type 0
AtMostOneOutcome = (setting : Setting) (e : Expr) (o p : Outcome) → Means setting e o → Means setting e p → o ≡ p

-- what a tree of a kind comes to is a fault or a value of that kind
abbrev pub OutcomesAreOfTheKind : Type 0
OutcomesAreOfTheKind = (setting : Setting) (sight : Sight) (e : Expr) (k : Kind) (o : Outcome) → HasKind sight e k → Means setting e o → OutcomeIsOf o k

abbrev pub IsTruthOrFault : Outcome → Type 0
IsTruthOrFault (Given v) = (b : Bool) × (v ≡ value.Bool b)
IsTruthOrFault (Stopped fault) = Unit {0}

-- a condition comes to a truth or to a fault
abbrev pub ConditionsComeToTruths : Type 0
ConditionsComeToTruths = (setting : Setting) (sight : Sight) (e : Expr) (o : Outcome) → HasKind sight e truth → Means setting e o → IsTruthOrFault o
