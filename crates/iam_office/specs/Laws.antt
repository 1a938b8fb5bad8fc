-- Laws of conversations.
use Rattle.std.specs.Prelude.{◌≡◌, ℕ, ◌≤◌, List, ◌++◌, length, take, nat_lt, nat_le, if◌then◌else◌}
use Rattle.iam_outer.specs.declared.talk.TalkEnd.{TalkEnd}
use Rattle.iam_outer.specs.declared.talk.TalkEnd.TheVariants.{Done, Cut, BadFrame, ReadFault, WriteFault, ClockFault, Enough, OutOfMemory}
use Rattle.iam_types.specs.declared.command.Entry.{Entry}
use Rattle.iam_types.specs.declared.tables.Tables.{Tables}
use Rattle.iam_wire.specs.Stream.{End, Reads, at_end, at_last, at_rest, at_fault}
use Rattle.iam_wire.specs.declared.message.Message.{Message}
use Rattle.iam_office.specs.Replied.{InTurn}
use Rattle.iam_office.specs.Stops.{MOST_MESSAGES, StopsAt, Ends}
use Rattle.iam_office.specs.Turns.{Turn, messages_of, steps_of}
use Rattle.iam_office.specs.declared.stop.Stop.{Stop}

-- the replies, and what the history gains, follow from the state at first, the messages and the steps
abbrev pub RepliesFollow : Type 0
RepliesFollow =
    (now : Tables) (turns others : List Turn) (gain more : List Entry)
    → messages_of turns ≡ messages_of others → steps_of turns ≡ steps_of others
    → InTurn now turns gain → InTurn now others more → (turns ≡ others) × (gain ≡ more)

-- ---- completeness

-- nothing failed, and no memory was refused for it
abbrev pub IsUndisturbed : TalkEnd → Type 0
IsUndisturbed Done = Unit {0}
IsUndisturbed Cut = Unit {0}
IsUndisturbed BadFrame = Unit {0}
IsUndisturbed Enough = Unit {0}
IsUndisturbed ReadFault = ⊥
IsUndisturbed WriteFault = ⊥
IsUndisturbed ClockFault = ⊥
IsUndisturbed OutOfMemory = ⊥

-- the end that all messages of an input and its end give
abbrev pub given_end : List Message → End → TalkEnd
given_end messages at_end = if nat_lt (length messages) MOST_MESSAGES then Done else Enough
given_end messages at_last = if nat_le (length messages) MOST_MESSAGES then Done else Enough
given_end messages at_rest = if nat_lt (length messages) MOST_MESSAGES then Cut else Enough
given_end messages (at_fault fault) = if nat_lt (length messages) MOST_MESSAGES then BadFrame else Enough

-- where nothing failed, all messages of the input were answered, up to so many, and the end is the one that they give
abbrev pub AllAreAnswered : Type 0
AllAreAnswered =
    (stop : Stop) (read unread : List ℕ) (messages all : List Message) (last : End) (end : TalkEnd)
    → StopsAt stop read unread messages → length messages ≤ MOST_MESSAGES → Ends stop end → IsUndisturbed end → Reads (read ++ unread) all last
    → (messages ≡ take MOST_MESSAGES all) × (end ≡ given_end all last)
