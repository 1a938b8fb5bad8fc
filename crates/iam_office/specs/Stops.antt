-- Why no further message is answered, and what follows the replies then.
use Rattle.std.specs.Prelude.{◌≡◌, ◌≢◌, ℕ, ◌<◌, ◌⊎◌, List, [], ◌∷◌, ◌++◌, All, length}
use Rattle.iam_outer.specs.declared.talk.Step.{Step}
use Rattle.iam_outer.specs.declared.talk.Step.TheVariants.{Plain, NoClock}
use Rattle.iam_outer.specs.declared.talk.TalkEnd.{TalkEnd}
use Rattle.iam_outer.specs.declared.talk.TalkEnd.TheVariants as talk
use Rattle.iam_json.specs.declared.details.Details.{Details}
use Rattle.iam_json.specs.declared.details.Details.TheVariants as refusal
use Rattle.iam_wire.specs.Front.{max_body}
use Rattle.iam_wire.specs.Stream.{Reads, Takes, BeginsWith, at_end, at_last, at_rest, at_fault}
use Rattle.iam_wire.specs.declared.fault.FrameFault.{FrameFault}
use Rattle.iam_wire.specs.declared.fault.FrameFault.TheVariants.{BadHead, TooLarge, NeedLength}
use Rattle.iam_wire.specs.declared.message.Message.{Message}
use Rattle.iam_answer.specs.Replies.{plain_reply, no_memory_reply}
use Rattle.iam_office.specs.declared.stop.Stop.{Stop}
use Rattle.iam_office.specs.declared.stop.Stop.TheVariants.{AtEnd, AtLast, Cut, Fault, Enough, ReadFault, WriteFault, ClockFault, OutOfMemory}

-- more messages aren't answered
abbrev pub MOST_MESSAGES : ℕ
MOST_MESSAGES = 10000

-- ---- the messages

-- It stops so behind these messages of an input, of which so much was read: they are all of its messages, with the end that it has; they are its first
-- ones, as many as are answered at most; they are all that the bytes which were read have; or they are its first ones.
abbrev pub StopsAt : Stop → List ℕ → List ℕ → List Message → Type 0
StopsAt AtEnd read unread messages = Reads (read ++ unread) messages at_end × (length messages < MOST_MESSAGES)
StopsAt AtLast read unread messages = Reads (read ++ unread) messages at_last
StopsAt Cut read unread messages = Reads (read ++ unread) messages at_rest × (length messages < MOST_MESSAGES)
StopsAt (Fault fault) read unread messages = Reads (read ++ unread) messages (at_fault fault) × (length messages < MOST_MESSAGES)
StopsAt Enough read unread messages = (rest : List ℕ) × Takes (read ++ unread) messages rest × (length messages ≡ MOST_MESSAGES)
StopsAt ReadFault read unread messages = (Reads read messages at_end ⊎ Reads read messages at_rest) × (length messages < MOST_MESSAGES)
StopsAt WriteFault read unread messages = BeginsWith (read ++ unread) messages
StopsAt ClockFault read unread messages = BeginsWith (read ++ unread) messages
StopsAt OutOfMemory read unread messages = BeginsWith (read ++ unread) messages

-- ---- the clock

-- it failed at none of these
unfoldable pub HadClock : List Step → Type 0
HadClock steps = All (λ step. step ≢ NoClock) steps

-- it failed at the last of them alone
abbrev pub LostClock : List Step → Type 0
LostClock steps = (front : List Step) × (steps ≡ front ++ NoClock ∷ []) × HadClock front

-- where it stops so
abbrev pub ClockAt : Stop → List Step → Type 0
ClockAt ClockFault steps = LostClock steps
ClockAt WriteFault steps = HadClock steps ⊎ LostClock steps
ClockAt stop steps = HadClock steps

-- ---- the end

abbrev pub end_of : Stop → TalkEnd
end_of AtEnd = talk.Done
end_of AtLast = talk.Done
end_of Cut = talk.Cut
end_of (Fault fault) = talk.BadFrame
end_of Enough = talk.Enough
end_of ReadFault = talk.ReadFault
end_of WriteFault = talk.WriteFault
end_of ClockFault = talk.ClockFault
end_of OutOfMemory = talk.OutOfMemory

-- the refusal of what is no message
abbrev pub frame_details : FrameFault → Details
frame_details BadHead = refusal.BadHead
frame_details (TooLarge declared) = refusal.BodyTooLarge declared max_body
frame_details NeedLength = refusal.NeedLength

-- what is written behind the replies
abbrev pub tail_of : Stop → List (List ℕ)
tail_of (Fault fault) = plain_reply (frame_details fault) ∷ []
tail_of OutOfMemory = no_memory_reply ∷ []
tail_of stop = []

-- and the steps behind those of the messages
abbrev pub steps_behind : Stop → List Step
steps_behind (Fault fault) = Plain ∷ []
steps_behind stop = []

-- the conversation ends as it stops, or by a line that failed while it took what is behind the replies
abbrev pub Ends : Stop → TalkEnd → Type 0
Ends stop end = (end ≡ end_of stop) ⊎ ((tail_of stop ≢ []) × (end ≡ talk.WriteFault))
