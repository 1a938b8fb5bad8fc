-- The messages of a line on the way: those that were answered so far, the next one, and what follows the last.
use Rattle.std.specs.Prelude.{◌≡◌, ◌≢◌, ℕ, ◌+◌, ◌<◌, ◌⊎◌, Bool, IsTrue, IsFalse, List, [], ◌++◌, length, Ok, Err, Some, None}
use Rattle.std.specs.declared.option.Option.{Option}
use Rattle.std.specs.declared.result.Result.{Result}
use Rattle.std.specs.Io.KnownBytes.{Appends, Consumes, IsAtEnd}
use Rattle.iam_outer.specs.declared.talk.Step.{Step}
use Rattle.iam_outer.specs.declared.talk.Step.TheVariants.{NoClock}
use Rattle.iam_outer.specs.declared.talk.TalkEnd.{TalkEnd}
use Rattle.iam_outer.specs.declared.talk.TalkEnd.TheVariants as talk
use Rattle.iam_wire.specs.Front.{IsMessage, IsPrefix, max_head, max_body}
use Rattle.iam_wire.specs.Stream.{EndsAs, Takes, at_end, at_rest, at_fault, TakenStays, TakesAnother, TakesTheirFirst, AtMostOneStream, EndAsRead, FaultAsRead, LastAsRead, TakenAsRead, OneMoreAsRead, AllAreFirst}
use Rattle.iam_wire.specs.declared.fault.FrameFault.{FrameFault}
use Rattle.iam_wire.specs.declared.message.Message.{Message}
use Rattle.iam_office.specs.Handled.{AppendsPrefix}
use Rattle.iam_office.specs.Stops.{Ends, end_of, tail_of, steps_behind}
use Rattle.iam_office.specs.Talks.{WroteAt}
use Rattle.iam_office.specs.Turns.{Turn, Rise, messages_of, replies_of, steps_of}
use Rattle.iam_office.specs.declared.exchange.Looked.{Looked}
use Rattle.iam_office.specs.declared.exchange.Looked.TheVariants.{Took, Stopped, Read}
use Rattle.iam_office.specs.declared.exchange.ReadStop.{ReadStop}
use Rattle.iam_office.specs.declared.exchange.ReadStop.TheVariants.{Fault as ReadFailed, OutOfMemory as ReadMemory}
use Rattle.iam_office.specs.declared.stop.Stop.{Stop}
use Rattle.iam_office.specs.declared.stop.Stop.TheVariants.{AtEnd, AtLast, Cut, Fault, Enough, ReadFault, WriteFault, ClockFault, OutOfMemory}

-- what is known of the messages of bytes
pub record Streams : Type 0 where
  pub stays : TakenStays
  pub another : TakesAnother
  pub first : TakesTheirFirst
  pub one : AtMostOneStream
  pub end : EndAsRead
  pub fault : FaultAsRead
  pub last : LastAsRead
  pub taken : TakenAsRead
  pub more : OneMoreAsRead
  pub all : AllAreFirst

-- ---- reading

-- a piece was read from a line and fed to what is held, or nothing is left, or it failed
abbrev pub IsFed : Result ℕ ReadStop → Option (List ℕ) → Option (List ℕ) → List ℕ → List ℕ → Type 0
IsFed (Ok n) before now held new = (piece : List ℕ) × Consumes before now piece × (new ≡ held ++ piece) × (length piece ≡ n) × (n ≡ 0 → IsAtEnd now)
IsFed (Err ReadFailed) before now held new = Consumes before now []
IsFed (Err ReadMemory) before now held new = (piece : List ℕ) × Consumes before now piece

-- no message is at the front of the bytes, for this reason; a line has this left
abbrev pub LacksMessage : Stop → Option (List ℕ) → List ℕ → Type 0
LacksMessage AtEnd left bytes = IsAtEnd left × EndsAs bytes at_end
LacksMessage Cut left bytes = IsAtEnd left × EndsAs bytes at_rest
LacksMessage (Fault fault) left bytes = EndsAs bytes (at_fault fault)
LacksMessage ReadFault left bytes = IsPrefix bytes
LacksMessage OutOfMemory left bytes = Unit {0}
LacksMessage AtLast left bytes = ⊥
LacksMessage Enough left bytes = ⊥
LacksMessage WriteFault left bytes = ⊥
LacksMessage ClockFault left bytes = ⊥

-- a piece was read, behind which there is no message for this reason
abbrev pub StopsWithout : Stop → Option (List ℕ) → Option (List ℕ) → List ℕ → Type 0
StopsWithout stop before now held = (piece : List ℕ) × Consumes before now piece × LacksMessage stop now (held ++ piece)

-- a longest head and a longest body
abbrev pub MOST_HELD : ℕ
MOST_HELD = max_head + max_body

-- what one look finds: the message at the front of what is held, nothing to go on with, or a piece more to look at
abbrev pub IsLooked : Looked → Option (List ℕ) → Option (List ℕ) → List ℕ → List ℕ → Type 0
IsLooked (Took message) before now held new = IsMessage held message new × (now ≡ before)
IsLooked (Stopped stop) before now held new = StopsWithout stop before now held
IsLooked Read before now held new =
    (piece : List ℕ) × Consumes before now piece × (new ≡ held ++ piece) × (0 < length piece) × (length held < MOST_HELD)

-- the next message of what is held and of what was read behind it
abbrev pub IsNextOf : Result Message Stop → Option (List ℕ) → Option (List ℕ) → List ℕ → List ℕ → Type 0
IsNextOf (Ok message) before now held new = (piece : List ℕ) × Consumes before now piece × IsMessage (held ++ piece) message new
IsNextOf (Err stop) before now held new = StopsWithout stop before now held

-- ---- answering

-- of the bytes that were read from a line these messages were taken, and so much is held
abbrev pub TookFrom : Option (List ℕ) → Option (List ℕ) → List ℕ → List Message → Type 0
TookFrom before now held messages = (read : List ℕ) × Consumes before now read × Takes read messages held

-- Messages were answered in turns of which Told holds: Found holds of the messages, and Wrote of the replies.
pub record Answered (Told : List Turn → Type 0) (Wrote : List (List ℕ) → Type 0) (Found : List Message → Type 0) (steps : List Step) : Type 0 where
  pub turns : List Turn
  pub told : Told turns
  pub found : Found (messages_of turns)
  pub steps_are : steps ≡ steps_of turns
  pub written : Wrote (replies_of turns)

-- why no message behind this one is answered, by its step, whether its reply was written whole, and whether it ends the conversation
abbrev pub IsBehind : Step → Bool → Bool → Option Stop → Type 0
IsBehind step sent last None = IsTrue sent × (step ≢ NoClock) × IsFalse last
IsBehind step sent last (Some AtLast) = IsTrue sent × (step ≢ NoClock) × IsTrue last
IsBehind step sent last (Some ClockFault) = IsTrue sent × (step ≡ NoClock)
IsBehind step sent last (Some WriteFault) = IsFalse sent
IsBehind step sent last (Some other) = ⊥

-- ---- behind the replies

-- a last piece was taken whole, and the conversation ends so, or the line failed
abbrev pub EndsWith : TalkEnd → List ℕ → Option (List ℕ) → Option (List ℕ) → ℕ → ℕ → TalkEnd → Type 0
EndsWith end piece before now faults later result =
    ((result ≡ end) × Appends before now piece × Rise 0 faults later)
    ⊎ ((result ≡ talk.WriteFault) × AppendsPrefix before now piece × Rise 1 faults later)

-- it stops so, or by want of memory for the reply to what is no message
abbrev pub StopsSo : Stop → Stop → Type 0
StopsSo stop stopped = (stopped ≡ stop) ⊎ ((stopped ≡ OutOfMemory) × ((fault : FrameFault) × (stop ≡ Fault fault)))

-- what follows the replies of a conversation that stops so
pub record Finishes (stop : Stop) (result : TalkEnd) (before now : Option (List ℕ)) (steps trace : List Step) : Type 0 where
  pub stopped : Stop
  pub so : StopsSo stop stopped
  pub ends : Ends stopped result
  pub written : (first : Option (List ℕ)) (pieces : List (List ℕ)) → WroteAt (end_of stop) first before pieces → WroteAt result first now (pieces ++ tail_of stopped)
  pub traced : trace ≡ steps ++ steps_behind stopped

-- how often writing failed at this end
abbrev pub failed_writes : TalkEnd → ℕ
failed_writes talk.WriteFault = 1
failed_writes other = 0
