-- What a conversation comes to: the turns that it took, the bytes written, its steps and its end.
use Rattle.std.specs.Prelude.{◌≡◌, ℕ, ◌+◌, ◌≤◌, Bool, IsTrue, List, [], ◌∷◌, ◌++◌, length, take, IfSome}
use Rattle.std.specs.List.{concat}
use Rattle.std.specs.declared.option.Option.{Option}
use Rattle.std.specs.Io.KnownBytes.{Appends}
use Rattle.iam_outer.specs.Causes.{Rose}
use Rattle.iam_outer.specs.declared.talk.Step.{Step}
use Rattle.iam_outer.specs.declared.talk.TalkEnd.{TalkEnd}
use Rattle.iam_outer.specs.declared.talk.TalkEnd.TheVariants.{ReadFault, WriteFault, ClockFault}
use Rattle.iam_types.specs.declared.command.Entry.{Entry}
use Rattle.iam_types.specs.declared.tables.Tables.{Tables}
use Rattle.iam_law.specs.History.{state}
use Rattle.iam_wire.specs.declared.message.Message.{Message}
use Rattle.iam_office.specs.Accepted.{accepted_in}
use Rattle.iam_office.specs.Office.{Number, Leads}
use Rattle.iam_office.specs.Replied.{InTurn}
use Rattle.iam_office.specs.Says.{AreSaid}
use Rattle.iam_office.specs.Stops.{MOST_MESSAGES, StopsAt, ClockAt, Ends, tail_of, steps_behind}
use Rattle.iam_office.specs.Turns.{Turn, messages_of, replies_of, steps_of}
use Rattle.iam_office.specs.declared.stop.Stop.{Stop}

-- ---- what the turns tell of an office

-- all that the turns came to, from this pair; where nobody else adds to the history, each in its turn
abbrev pub Conversed : Bool → List Turn → Tables → List Entry → List Entry → Type 0
Conversed alone turns tables history more =
    AreSaid tables (history ++ more) (Number tables history) turns × (IsTrue alone → InTurn (state tables history) turns more)

-- over an office, whose count of accepted writes rises by those among them
abbrev pub Tells : {O : Type 0} → (O → Tables → List Entry → Type 0) → (O → ℕ) → Bool → O → O → List Turn → Type 0
Tells stands accepted alone old new turns =
    Leads stands old new (Conversed alone turns) × (accepted new ≡ accepted old + accepted_in turns)

-- ---- what was written

-- at a write fault all pieces before the last one were taken whole, and the first bytes of the last one; else all of them were
abbrev pub WroteAt : TalkEnd → Option (List ℕ) → Option (List ℕ) → List (List ℕ) → Type 0
WroteAt WriteFault before now pieces =
    (front : List (List ℕ)) × (last : List ℕ) × (n : ℕ) × (pieces ≡ front ++ last ∷ []) × Appends before now (concat front ++ take n last)
WroteAt end before now pieces = Appends before now (concat pieces)

-- ---- the whole

-- A conversation over an input, of which so much was read: messages were answered in these turns, of which Told holds, and then it stopped; this is
-- what was written, and how it ended.
pub record Talked (Told : List Turn → Type 0) (before now : Option (List ℕ)) (read unread : List ℕ) (end : TalkEnd) (trace : List Step) : Type 0 where
  pub turns : List Turn
  pub stop : Stop
  pub told : Told turns
  pub found : StopsAt stop read unread (messages_of turns)
  pub clock : ClockAt stop (steps_of turns)
  pub most : length turns ≤ MOST_MESSAGES
  pub ends : Ends stop end
  pub written : WroteAt end before now (replies_of turns ++ tail_of stop)
  pub traced : trace ≡ steps_of turns ++ steps_behind stop

-- it holds of what was read and of what wasn't, which are the line's where the line tells it
abbrev pub OfInput : Option (List ℕ) → Option (List ℕ) → (List ℕ → List ℕ → Type 0) → Type 0
OfInput before now P =
    (read : List ℕ) × (unread : List ℕ) × IfSome before (λ left. left ≡ read ++ unread) × IfSome now (λ left. left ≡ unread) × P read unread

-- a fault ends it only where its count rose
pub record Caused (end : TalkEnd) (reads read_later writes write_later clocks clock_later : ℕ) : Type 0 where
  pub read : end ≡ ReadFault → Rose reads read_later
  pub write : end ≡ WriteFault → Rose writes write_later
  pub clock : end ≡ ClockFault → Rose clocks clock_later
