-- What messages come to where nobody else adds to the history: their replies, and what the history gains.
use Rattle.std.specs.Prelude.{◌≡◌, ℕ, List, [], ◌∷◌, ◌++◌, ◌⊎◌, Some, None, IfSome}
use Rattle.iam_names.specs.declared.caller.Caller.{Caller}
use Rattle.iam_outer.specs.declared.talk.Step.{Step}
use Rattle.iam_outer.specs.declared.talk.Step.TheVariants.{Plain, Served, NoClock, NoKeeper, NoMemory}
use Rattle.iam_types.specs.declared.answer.Answer.{Answer}
use Rattle.iam_types.specs.declared.answer.Answer.TheVariants.{Refused}
use Rattle.iam_types.specs.declared.ask.Ask.{Ask}
use Rattle.iam_types.specs.declared.command.Entry.{Entry}
use Rattle.iam_types.specs.declared.refusal.Refusal.TheVariants.{FutureRevision}
use Rattle.iam_types.specs.declared.tables.Tables.{Tables}
use Rattle.iam_law.specs.Admit.{admission}
use Rattle.iam_law.specs.History.{state}
use Rattle.iam_text.specs.declared.moment.Moment.{Moment}
use Rattle.iam_json.specs.declared.details.Details.TheVariants.{ClockFault}
use Rattle.iam_wire.specs.declared.message.Message.{Message}
use Rattle.iam_answer.specs.Answer.{answer_of}
use Rattle.iam_answer.specs.Replies.{plain_reply, keeper_reply, served_reply, no_memory_reply, stored_reply}
use Rattle.iam_office.specs.Asks.{IsRefusedBy, GivesCall, AsksRead, AsksWrite, AsksLater}
use Rattle.iam_office.specs.Office.{JudgedAlone, StoredAlone}
use Rattle.iam_office.specs.Turns.{Turn}

-- ---- the ways of a reply that is served in this state, whose number is shown

-- the floor is above the number
abbrev pub FloorReplied : Tables → Message → ℕ → Moment → List ℕ → List Entry → Type 0
FloorReplied now message number moment reply gain =
    (floor : ℕ) × AsksLater message now.org.changes floor
    × (gain ≡ []) × (number ≡ now.org.changes) × (reply ≡ served_reply number moment (Refused (FutureRevision floor number)))

-- a read is answered in it
abbrev pub ReadReplied : Tables → Message → ℕ → Moment → List ℕ → List Entry → Type 0
ReadReplied now message number moment reply gain =
    (caller : Caller) × (ask : Ask) × AsksRead message now.org.changes caller ask
    × (gain ≡ []) × (number ≡ now.org.changes) × (reply ≡ served_reply number moment (answer_of now ask caller moment))

-- a write is judged in it, and is gained where it is accepted
abbrev pub WriteReplied : Tables → Message → ℕ → Moment → List ℕ → List Entry → Type 0
WriteReplied now message number moment reply gain =
    (entry : Entry) × AsksWrite message now.org.changes entry × (entry.moment ≡ moment)
    × ((value : Answer) × JudgedAlone now entry number value gain × (reply ≡ served_reply number moment value))

-- ---- a message

-- The message comes to this step and this reply in this state, and the history gains this. At a fault of the clock, and at one of the keeper, which
-- comes only to an entry that is accepted, nothing is gained.
unfoldable pub Replied : Tables → Message → Step → List ℕ → List Entry → Type 0
Replied now message Plain reply gain = IsRefusedBy message reply × (gain ≡ [])
Replied now message (Served number moment) reply gain =
    FloorReplied now message number moment reply gain
    ⊎ (ReadReplied now message number moment reply gain ⊎ WriteReplied now message number moment reply gain)
Replied now message NoClock reply gain = GivesCall message × (reply ≡ plain_reply ClockFault) × (gain ≡ [])
Replied now message (NoKeeper moment) reply gain =
    (entry : Entry) × AsksWrite message now.org.changes entry × (entry.moment ≡ moment)
    × (admission now entry ≡ None) × (reply ≡ keeper_reply moment) × (gain ≡ [])
Replied now message (NoMemory None moment) reply gain = IfSome moment (λ _. GivesCall message) × (reply ≡ no_memory_reply) × (gain ≡ [])
Replied now message (NoMemory (Some number) moment) reply gain =
    (entry : Entry) × AsksWrite message now.org.changes entry × (moment ≡ Some entry.moment)
    × StoredAlone now entry number gain × (reply ≡ stored_reply number)

-- the turns come to what they say, each in the state after those before it, and these entries are what the history gains in all
unfoldable pub InTurn : Tables → List Turn → List Entry → Type 0
InTurn now [] entries = entries ≡ []
InTurn now (turn ∷ turns) entries =
    (gain : List Entry) × (rest : List Entry) × (entries ≡ gain ++ rest)
    × Replied now turn.message turn.step turn.reply gain × InTurn (state now gain) turns rest
