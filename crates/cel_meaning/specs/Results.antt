-- What the evaluator's functions give, as outcomes.
use Rattle.std.specs.Prelude.{◌≡◌, ℕ, Bool, true, false, not, if◌then◌else◌, ℤ, Option, Some, None, Result, Ok, Err, List, ◌++◌}
use Rattle.cel_tree.specs.declared.tree.Op.{Op}
use Rattle.cel_tree.specs.declared.tree.Op.TheVariants as op
use Rattle.cel_value.specs.declared.context.Context.{Context}
use Rattle.cel_value.specs.declared.value.EvalFault.{EvalFault}
use Rattle.cel_value.specs.declared.value.EvalFault.TheVariants.{Overflow, Range}
use Rattle.cel_value.specs.declared.value.Outcome.{Outcome}
use Rattle.cel_value.specs.declared.value.Outcome.TheVariants.{Given, Stopped}
use Rattle.cel_value.specs.declared.value.Value.{Value, out-Value}
use Rattle.cel_value.specs.declared.value.Value.TheVariants as value
use Rattle.cel_types.specs.Bounds.{length_outcome, time_outcome}
use Rattle.cel_types.specs.Means.{value_is}
use Rattle.cel_types.specs.Setting.{Setting}
use Rattle.cel_meaning.specs.Apply.{no_outcome, truth}
use Rattle.cel_meaning.specs.declared.operators.Side.{Side}
use Rattle.cel_meaning.specs.declared.operators.Side.TheVariants.{Decides, Passes, Stops}
use Rattle.cel_meaning.specs.declared.stop.Stop.{Stop}
use Rattle.cel_meaning.specs.declared.stop.Stop.TheVariants as stop

-- the setting of a condition whose facts stand for this context
abbrev pub at : Context → Setting
at c = record { context = c; variable = None }

-- a value or a fault
abbrev pub outcome : Result Value EvalFault → Outcome
outcome (Ok v) = Given v
outcome (Err fault) = Stopped fault

-- the outcome is given, unless memory runs out
abbrev pub Gives : Outcome → Result Value Stop → Type 0
Gives o (Ok v) = o ≡ Given v
Gives o (Err (stop.Fault fault)) = o ≡ Stopped fault
Gives o (Err stop.OutOfMemory) = Unit {0}

-- the values of some nodes, or the first fault
abbrev pub Gathered : Type 0
Gathered = Result (List Value) EvalFault

-- these are given, unless memory runs out
abbrev pub Gathers : Gathered → Result (List Value) Stop → Type 0
Gathers r (Ok vs) = r ≡ Ok vs
Gathers r (Err (stop.Fault fault)) = r ≡ Err fault
Gathers r (Err stop.OutOfMemory) = Unit {0}

-- values, and others behind them
abbrev pub behind : List Value → Gathered → Gathered
behind vs (Ok ws) = Ok (vs ++ ws)
behind vs (Err fault) = Err fault

-- the truth of a side by which an operator is decided, whatever the other side comes to; both sides of the others are evaluated
abbrev pub decisive : Op → Option Bool
decisive op.Or = Some true
decisive op.And = Some false
decisive op.Lt = None
decisive op.Le = None
decisive op.Gt = None
decisive op.Ge = None
decisive op.Eq = None
decisive op.Ne = None
decisive op.In = None
decisive op.Add = None
decisive op.Sub = None
decisive op.Mul = None
decisive op.Div = None
decisive op.Rem = None

-- what a side says of the whole: it decides, or leaves it to the other, or stops
abbrev pub side_of : Bool → Outcome → Side
side_of b (Stopped fault) = Stops fault
side_of b (Given v) = if value_is b (out-Value v) then Decides else Passes

-- what two sides come to: where either decides, its truth, else an error, else the other truth
abbrev pub junction : Bool → Side → Side → Outcome
junction b Decides y = truth b
junction b Passes Decides = truth b
junction b Passes Passes = truth (not b)
junction b Passes (Stops fault) = Stopped fault
junction b (Stops fault) Decides = truth b
junction b (Stops fault) Passes = Stopped fault
junction b (Stops fault) (Stops other) = Stopped fault

-- one of two, as a truth comes out
abbrev pub picked : Result Bool EvalFault → Outcome → Outcome → Outcome
picked (Ok b) x y = if b then x else y
picked (Err fault) x y = Stopped fault

-- a number, if 64 bits hold it
abbrev pub int_or_overflow : Option ℤ → Outcome
int_or_overflow None = Stopped Overflow
int_or_overflow (Some n) = Given (value.Int n)

-- nanoseconds, if 128 bits hold them
abbrev pub time_or_range : Option ℤ → Outcome
time_or_range None = Stopped Range
time_or_range (Some t) = time_outcome t

abbrev pub length_or_range : Option ℤ → Outcome
length_or_range None = Stopped Range
length_or_range (Some d) = length_outcome d

-- what is computed of a time, if there is one
abbrev pub at_time : (ℤ → Outcome) → Option ℤ → Outcome
at_time f None = no_outcome
at_time f (Some t) = f t

-- and of a text
abbrev pub at_text : (List ℕ → Outcome) → Option (List ℕ) → Outcome
at_text f None = no_outcome
at_text f (Some text) = f text
