-- The messages of a whole input, and how it ends, whatever the pieces that it comes in.
use Rattle.std.specs.Prelude.{◌≡◌, ◌≢◌, ℕ, ◌+◌, ◌<◌, List, [], ◌∷◌, ◌++◌, length, IsTrue, IsFalse}
use Rattle.std.specs.Bool.{MatchBool}
use Rattle.iam_wire.specs.Front.{max_head, max_body, IsMessage, IsPrefix, HasFault}
use Rattle.iam_wire.specs.declared.fault.FrameFault.{FrameFault}
use Rattle.iam_wire.specs.declared.message.Message.{Message}

-- nothing is left; the last message ends the conversation; what is left is a proper prefix of a message; a fault
pub data End : Type 0 where
  at_end : End
  at_last : End
  at_rest : End
  at_fault : FrameFault → End

-- no message is at the front, and the input ends so
abbrev pub EndsAs : List ℕ → End → Type 0
EndsAs bytes at_end = bytes ≡ []
EndsAs bytes at_last = ⊥
EndsAs bytes at_rest = (bytes ≢ []) × IsPrefix bytes
EndsAs bytes (at_fault fault) = HasFault bytes fault

-- the bytes are these messages, one behind the other, and end so; what follows a message that ends the conversation isn't looked at
abbrev pub Reads : List ℕ → List Message → End → Type 0
Reads bytes [] end = EndsAs bytes end
Reads bytes (message ∷ messages) end =
    (rest : List ℕ) × IsMessage bytes message rest × MatchBool message.last ((messages ≡ []) × (end ≡ at_last)) (Reads rest messages end)

-- the bytes begin with these messages, none of which ends the conversation, and then there is rest
abbrev pub Takes : List ℕ → List Message → List ℕ → Type 0
Takes bytes [] rest = bytes ≡ rest
Takes bytes (message ∷ messages) rest = (more : List ℕ) × IsMessage bytes message more × IsFalse message.last × Takes more messages rest

-- the bytes begin with these messages, of which none but the last ends the conversation
abbrev pub BeginsWith : List ℕ → List Message → Type 0
BeginsWith bytes [] = Unit {0}
BeginsWith bytes (message ∷ messages) = (rest : List ℕ) × IsMessage bytes message rest × MatchBool message.last (messages ≡ []) (BeginsWith rest messages)

-- ---- one front, and always one

-- the same bytes are at most one message and one rest
abbrev pub AtMostOneMessage : Type 0
AtMostOneMessage =
    (bytes : List ℕ) (message second : Message) (rest left : List ℕ)
    → IsMessage bytes message rest → IsMessage bytes second left → (message ≡ second) × (rest ≡ left)

abbrev pub AtMostOneFault : Type 0
AtMostOneFault = (bytes : List ℕ) (fault other : FrameFault) → HasFault bytes fault → HasFault bytes other → fault ≡ other

-- a message is no prefix of one
abbrev pub WholeIsNoPrefix : Type 0
WholeIsNoPrefix = (bytes : List ℕ) (message : Message) (rest : List ℕ) → IsMessage bytes message rest → ¬ (IsPrefix bytes)

abbrev pub WholeIsNoFault : Type 0
WholeIsNoFault = (bytes : List ℕ) (message : Message) (rest : List ℕ) (fault : FrameFault) → IsMessage bytes message rest → ¬ (HasFault bytes fault)

abbrev pub PrefixIsNoFault : Type 0
PrefixIsNoFault = (bytes : List ℕ) (fault : FrameFault) → IsPrefix bytes → ¬ (HasFault bytes fault)

abbrev pub PrefixIsShort : Type 0
PrefixIsShort = (bytes : List ℕ) → IsPrefix bytes → length bytes < max_head + max_body

-- no bytes are none of the three
abbrev pub SomeFront : Type 0
SomeFront =
    (bytes : List ℕ)
    → ((message : Message) (rest : List ℕ) → ¬ (IsMessage bytes message rest)) → ¬ (IsPrefix bytes)
    → ((fault : FrameFault) → ¬ (HasFault bytes fault)) → ⊥

-- ---- one list, and always one

-- the same bytes are one list of messages with one end
abbrev pub AtMostOneStream : Type 0
AtMostOneStream =
    (bytes : List ℕ) (messages others : List Message) (end last : End)
    → Reads bytes messages end → Reads bytes others last → (messages ≡ others) × (end ≡ last)

-- no bytes are without a list and an end
abbrev pub SomeStream : Type 0
SomeStream = (bytes : List ℕ) → ((messages : List Message) (end : End) → ¬ (Reads bytes messages end)) → ⊥

-- ---- more bytes

abbrev pub MessageStays : Type 0
MessageStays =
    (bytes more : List ℕ) (message : Message) (rest : List ℕ)
    → IsMessage bytes message rest → IsMessage (bytes ++ more) message (rest ++ more)

abbrev pub FaultStays : Type 0
FaultStays = (bytes more : List ℕ) (fault : FrameFault) → HasFault bytes fault → HasFault (bytes ++ more) fault

abbrev pub TakenStays : Type 0
TakenStays =
    (bytes more : List ℕ) (messages : List Message) (rest : List ℕ)
    → Takes bytes messages rest → Takes (bytes ++ more) messages (rest ++ more)

-- ---- one message at a time

-- a message behind those that were taken is taken too
abbrev pub TakesAnother : Type 0
TakesAnother =
    (bytes : List ℕ) (messages : List Message) (rest : List ℕ) (message : Message) (more : List ℕ)
    → Takes bytes messages rest → IsMessage rest message more → IsFalse message.last → Takes bytes (messages ++ message ∷ []) more

-- those that were taken and the messages of what is left are the messages of the whole
abbrev pub ReadsTheRest : Type 0
ReadsTheRest =
    (bytes : List ℕ) (messages : List Message) (rest : List ℕ) (others : List Message) (end : End)
    → Takes bytes messages rest → Reads rest others end → Reads bytes (messages ++ others) end

-- those that were taken are the first messages of the whole, and what is left has the others
abbrev pub TakesTheirFirst : Type 0
TakesTheirFirst =
    (bytes : List ℕ) (messages : List Message) (rest : List ℕ) (all : List Message) (end : End)
    → Takes bytes messages rest → Reads bytes all end
    → (others : List Message) × (all ≡ messages ++ others) × Reads rest others end

-- ---- an input that is read in pieces: of the bytes that were read these messages were taken, and so much of them is held

-- where the input was read to its end
abbrev pub EndAsRead : Type 0
EndAsRead = (read : List ℕ) (messages : List Message) (held : List ℕ) (end : End) → Takes read messages held → EndsAs held end → Reads read messages end

-- a fault is that of the whole input, whatever is unread
abbrev pub FaultAsRead : Type 0
FaultAsRead =
    (read unread : List ℕ) (messages : List Message) (held : List ℕ) (fault : FrameFault)
    → Takes read messages held → HasFault held fault → Reads (read ++ unread) messages (at_fault fault)

-- so is a message that ends the conversation
abbrev pub LastAsRead : Type 0
LastAsRead =
    (read unread : List ℕ) (messages : List Message) (held : List ℕ) (message : Message) (rest : List ℕ)
    → Takes read messages held → IsMessage held message rest → IsTrue message.last → Reads (read ++ unread) (messages ++ message ∷ []) at_last

-- the input begins with those that were taken
abbrev pub TakenAsRead : Type 0
TakenAsRead = (read unread : List ℕ) (messages : List Message) (held : List ℕ) → Takes read messages held → BeginsWith (read ++ unread) messages

-- and with the next one behind them
abbrev pub OneMoreAsRead : Type 0
OneMoreAsRead =
    (read unread : List ℕ) (messages : List Message) (held : List ℕ) (message : Message) (rest : List ℕ)
    → Takes read messages held → IsMessage held message rest → BeginsWith (read ++ unread) (messages ++ message ∷ [])

-- what an input begins with are the first of its messages
abbrev pub FirstOfAll : Type 0
FirstOfAll =
    (bytes : List ℕ) (messages all : List Message) (end : End)
    → BeginsWith bytes messages → Reads bytes all end → (others : List Message) × (all ≡ messages ++ others)

-- all messages of an input are what it begins with
abbrev pub AllAreFirst : Type 0
AllAreFirst = (bytes : List ℕ) (messages : List Message) (end : End) → Reads bytes messages end → BeginsWith bytes messages
