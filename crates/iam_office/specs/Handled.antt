-- What one message of a conversation came to, and what a line took of its reply.
use Rattle.std.specs.Prelude.{◌≡◌, ℕ, ◌+◌, ◌<◌, ◌≤◌, Bool, true, false, IsTrue, List, [], ◌++◌, take, Some, Ok, Err}
use Rattle.std.specs.Bool.{OnTrue, OnFalse}
use Rattle.std.specs.declared.option.Option.{Option}
use Rattle.std.specs.declared.result.Result.{Result}
use Rattle.std.specs.Io.KnownBytes.{Appends}
use Rattle.iam_outer.specs.declared.talk.Step.{Step}
use Rattle.iam_types.specs.declared.command.Entry.{Entry}
use Rattle.iam_types.specs.declared.tables.Tables.{Tables}
use Rattle.iam_law.specs.History.{state}
use Rattle.iam_wire.specs.declared.message.Message.{Message}
use Rattle.iam_office.specs.Accepted.{accepted_at}
use Rattle.iam_office.specs.Asks.{IsMet}
use Rattle.iam_office.specs.Office.{Leads, Number}
use Rattle.iam_office.specs.Replied.{Replied}
use Rattle.iam_office.specs.Says.{Says}
use Rattle.iam_office.specs.Turns.{Rise}
use Rattle.iam_office.specs.declared.floors.Unreached.{Unreached}
use Rattle.iam_office.specs.declared.floors.Unreached.TheVariants.{Ahead, OutOfMemory}

-- the reply may be given behind the history as it is by then, and where nobody else adds to it, it is the one that the state gives
abbrev pub Answers : Bool → Message → Step → List ℕ → Tables → List Entry → List Entry → Type 0
Answers alone message step reply tables history more =
    Says tables (history ++ more) (Number tables history) message step reply
    × (IsTrue alone → Replied (state tables history) message step reply more)

-- what a message came to over an office
pub record Handled {O : Type 0} (stands : O → Tables → List Entry → Type 0) (accepted : O → ℕ) (alone : Bool) (old new : O) (message : Message) (step : Step) (reply : List ℕ) : Type 0 where
  pub answers : Leads stands old new (Answers alone message step reply)
  pub count : accepted new ≡ accepted old + accepted_at message step reply

-- ---- a floor

-- the floor is met by the history
abbrev pub Reached : Bool → Option ℕ → Tables → List Entry → Type 0
Reached alone floor tables history = IsMet floor (Number tables history) × (IsTrue alone → IsMet floor (state tables history).org.changes)

-- whether the floor of a message is reached, if it has one
abbrev pub ReachTold : {T : Type 0} → Bool → Option ℕ → Result T Unreached → Tables → List Entry → List Entry → Type 0
ReachTold alone floor (Ok reached) tables history more = Reached alone floor tables (history ++ more) × (IsTrue alone → more ≡ [])
ReachTold alone floor (Err (Ahead asked known)) tables history more =
    (floor ≡ Some asked) × (known < asked) × (tables.org.changes ≤ known) × (known ≤ Number tables (history ++ more))
    × (IsTrue alone → (more ≡ []) × (known ≡ (state tables history).org.changes))
ReachTold alone floor (Err OutOfMemory) tables history more = IsTrue alone → more ≡ []

-- what a message came to over an office, if its floor is met
abbrev pub HandledAbove : {O : Type 0} → (O → Tables → List Entry → Type 0) → (O → ℕ) → Bool → O → O → Option ℕ → Message → Step → List ℕ → Type 0
HandledAbove stands accepted alone old new floor message step reply =
    Leads stands old new (λ tables history more. Reached alone floor tables history → Answers alone message step reply tables history more)
    × (accepted new ≡ accepted old + accepted_at message step reply)

-- ---- a piece that is written to a line

-- known bytes grow by the first of bs
abbrev pub AppendsPrefix : Option (List ℕ) → Option (List ℕ) → List ℕ → Type 0
AppendsPrefix before now bs = (n : ℕ) × Appends before now (take n bs)

-- a write that isn't done whole failed
abbrev pub failures : Bool → ℕ
failures true = 0
failures false = 1

-- all of it was taken, or the first of it and then the line failed
pub record Sent (before now : Option (List ℕ)) (faults later : ℕ) (bytes : List ℕ) (whole : Bool) : Type 0 where
  pub taken : OnTrue whole (Appends before now bytes)
  pub cut : OnFalse whole (AppendsPrefix before now bytes)
  pub failed : Rise (failures whole) faults later

-- a message came to this step over an office, and its reply was written so
pub record Turned {O : Type 0} (stands : O → Tables → List Entry → Type 0) (accepted : O → ℕ) (alone : Bool) (old new : O) (before now : Option (List ℕ)) (faults later : ℕ) (message : Message) (step : Step) (whole : Bool) : Type 0 where
  pub reply : List ℕ
  pub handled : Handled stands accepted alone old new message step reply
  pub sent : Sent before now faults later reply whole
