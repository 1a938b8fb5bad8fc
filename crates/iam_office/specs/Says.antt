-- Which replies may be given to messages over an office to whose history others may add, at which steps.
use Rattle.std.specs.Prelude.{◌≡◌, ℕ, ◌≤◌, max, List, [], ◌∷◌, ◌⊎◌, Some, None, IfSome}
use Rattle.iam_text.specs.declared.moment.Moment.{Moment}
use Rattle.iam_names.specs.declared.caller.Caller.{Caller}
use Rattle.iam_outer.specs.declared.talk.Step.{Step}
use Rattle.iam_outer.specs.declared.talk.Step.TheVariants.{Plain, Served, NoClock, NoKeeper, NoMemory}
use Rattle.iam_types.specs.declared.answer.Answer.{Answer}
use Rattle.iam_types.specs.declared.answer.Answer.TheVariants.{Refused}
use Rattle.iam_types.specs.declared.ask.Ask.{Ask}
use Rattle.iam_types.specs.declared.command.Entry.{Entry}
use Rattle.iam_types.specs.declared.refusal.Refusal.TheVariants.{FutureRevision}
use Rattle.iam_types.specs.declared.tables.Tables.{Tables}
use Rattle.iam_law.specs.History.{state}
use Rattle.iam_json.specs.declared.details.Details.TheVariants.{ClockFault}
use Rattle.iam_wire.specs.declared.message.Message.{Message}
use Rattle.iam_answer.specs.Answer.{answer_of}
use Rattle.iam_answer.specs.Replies.{plain_reply, keeper_reply, served_reply, no_memory_reply, stored_reply}
use Rattle.iam_office.specs.Asks.{IsRefusedBy, GivesCall, AsksRead, AsksWrite, AsksLater}
use Rattle.iam_office.specs.Office.{Number, first, Judged, IsStoredAt}
use Rattle.iam_office.specs.Turns.{Turn}

-- a floor above the number is refused
abbrev pub FloorSaid : Message → ℕ → Moment → List ℕ → Type 0
FloorSaid message number moment reply =
    (floor : ℕ) × AsksLater message number floor × (reply ≡ served_reply number moment (Refused (FutureRevision floor number)))

-- a read is answered in the state of its number, which isn't below the least, nor below its floor
abbrev pub ReadSaid : Tables → List Entry → ℕ → Message → ℕ → Moment → List ℕ → Type 0
ReadSaid tables history least message number moment reply =
    (caller : Caller) × (ask : Ask) × AsksRead message number caller ask × (least ≤ number)
    × (reply ≡ served_reply number moment (answer_of (state tables (first tables number history)) ask caller moment))

-- a write is refused behind the first entries of the history, up to its number, or is the last of them
abbrev pub WriteSaid : Tables → List Entry → Message → ℕ → Moment → List ℕ → Type 0
WriteSaid tables history message number moment reply =
    (entry : Entry) × AsksWrite message (Number tables history) entry × (entry.moment ≡ moment)
    × ((value : Answer) × Judged tables (first tables number history) entry value × (reply ≡ served_reply number moment value))

-- The bytes may reply to the message at this step, the history being this one by then.
unfoldable pub Says : Tables → List Entry → ℕ → Message → Step → List ℕ → Type 0
Says tables history least message Plain reply = IsRefusedBy message reply
Says tables history least message (Served number moment) reply =
    (tables.org.changes ≤ number) × (number ≤ Number tables history)
    × (FloorSaid message number moment reply
    ⊎ (ReadSaid tables history least message number moment reply ⊎ WriteSaid tables history message number moment reply))
Says tables history least message NoClock reply = GivesCall message × (reply ≡ plain_reply ClockFault)
Says tables history least message (NoKeeper moment) reply =
    (entry : Entry) × AsksWrite message (Number tables history) entry × (entry.moment ≡ moment) × (reply ≡ keeper_reply moment)
Says tables history least message (NoMemory None moment) reply = IfSome moment (λ _. GivesCall message) × (reply ≡ no_memory_reply)
Says tables history least message (NoMemory (Some number) moment) reply =
    (entry : Entry) × AsksWrite message (Number tables history) entry × (moment ≡ Some entry.moment) × IsStoredAt tables history number entry × (reply ≡ stored_reply number)

-- the least number of reads after a step
abbrev pub raised : ℕ → Step → ℕ
raised least (Served number moment) = max least number
raised least step = least

-- each turn says what may be said
unfoldable pub AreSaid : Tables → List Entry → ℕ → List Turn → Type 0
AreSaid tables history least [] = Unit {0}
AreSaid tables history least (turn ∷ turns) =
    Says tables history least turn.message turn.step turn.reply × AreSaid tables history (raised least turn.step) turns
