-- What an office tells of the history that it stands for.
use Rattle.std.specs.Prelude.{◌≡◌, ℕ, ◌+◌, ◌-◌, ◌<◌, ◌≤◌, ◌⊎◌, Bool, IsTrue, List, [], ◌∷◌, ◌++◌, length, take, Ok, Err, Some, None}
use Rattle.std.specs.declared.option.Option.{Option}
use Rattle.std.specs.declared.result.Result.{Result}
use Rattle.iam_text.specs.declared.moment.Moment.{Moment}
use Rattle.iam_names.specs.declared.caller.Caller.{Caller}
use Rattle.iam_types.specs.declared.answer.Answer.{Answer}
use Rattle.iam_types.specs.declared.answer.Answer.TheVariants.{Refused}
use Rattle.iam_types.specs.declared.ask.Ask.{Ask}
use Rattle.iam_types.specs.declared.command.Entry.{Entry}
use Rattle.iam_types.specs.declared.refusal.Refusal.{Refusal}
use Rattle.iam_types.specs.declared.tables.Tables.{Tables}
use Rattle.iam_model.specs.Commands.{after}
use Rattle.iam_law.specs.Admit.{admission}
use Rattle.iam_law.specs.History.{state}
use Rattle.iam_answer.specs.Answer.{accepts, answer_of, written_answer}
use Rattle.iam_office.specs.declared.office.Numbered.{Numbered}
use Rattle.iam_office.specs.declared.office.FloorStop.{FloorStop}
use Rattle.iam_office.specs.declared.office.FloorStop.TheVariants.{Ahead, OutOfMemory}
use Rattle.iam_office.specs.declared.office.WriteStop.{WriteStop}
use Rattle.iam_office.specs.declared.office.WriteStop.TheVariants.{KeeperFault, OutOfMemory as NoMemory}

-- the number of a history: that of its last change
abbrev pub Number : Tables → List Entry → ℕ
Number tables history = tables.org.changes + length history

-- the first entries of a history, up to a printed number
abbrev pub first : Tables → ℕ → List Entry → List Entry
first tables number history = take (number - tables.org.changes) history

-- From each pair of first tables and history that an office stood for it has come to one with the same tables, whose history goes on by
-- more, and P holds of them.
abbrev pub Leads : {O : Type 0} → (O → Tables → List Entry → Type 0) → O → O → (Tables → List Entry → List Entry → Type 0) → Type 0
Leads stands old new P = (tables : Tables) (history : List Entry) → stands old tables history → (more : List Entry) × stands new tables (history ++ more) × P tables history more

-- the answer to a floor; nobody else adds to a history that is alone, so what is exact there stands beside it
abbrev pub FloorTold : {T : Type 0} → Bool → ℕ → Result T FloorStop → Tables → List Entry → List Entry → Type 0
FloorTold alone floor (Ok reached) tables history more =
    (floor ≤ Number tables (history ++ more)) × (IsTrue alone → (more ≡ []) × (floor ≤ (state tables history).org.changes))
FloorTold alone floor (Err (Ahead known)) tables history more =
    (known < floor) × (Number tables history < floor) × (tables.org.changes ≤ known) × (known ≤ Number tables (history ++ more))
    × (IsTrue alone → (more ≡ []) × (known ≡ (state tables history).org.changes))
FloorTold alone floor (Err OutOfMemory) tables history more = IsTrue alone → more ≡ []

-- the answer to a read: in the state after the whole history, whose number is given
abbrev pub ReadTold : {E : Type 0} → Bool → Ask → Caller → Moment → Result (Numbered Answer) E → Tables → List Entry → List Entry → Type 0
ReadTold alone ask caller moment (Ok answer) tables history more =
    (answer.number ≡ Number tables (history ++ more))
    × (answer.value ≡ answer_of (state tables (history ++ more)) ask caller moment)
    × (IsTrue alone → (more ≡ []) × (answer.number ≡ (state tables history).org.changes))
ReadTold alone ask caller moment (Err stop) tables history more = IsTrue alone → more ≡ []

-- ---- writes

-- the entry is refused at the end of the history, and this is the answer
abbrev pub IsRefusedAfter : Tables → List Entry → Entry → Answer → Type 0
IsRefusedAfter tables history entry value =
    (refusal : Refusal) × (admission (state tables history) entry ≡ Some refusal) × (value ≡ Refused refusal)

-- the entry is accepted, is the last of the history, and this is the answer, from the states before it and after it
abbrev pub IsLastOf : Tables → List Entry → Entry → Answer → Type 0
IsLastOf tables history entry value =
    (before : List Entry) × (history ≡ before ++ entry ∷ []) × (admission (state tables before) entry ≡ None)
    × (value ≡ written_answer (state tables before) (state tables history) entry.command)

-- the answer to an entry: it is refused at the end of the history, or is the last of it
unfoldable pub Judged : Tables → List Entry → Entry → Answer → Type 0
Judged tables history entry value = IsRefusedAfter tables history entry value ⊎ IsLastOf tables history entry value

-- the entry is accepted behind the first of the history, and is stored as that of this number
unfoldable pub IsStoredAt : Tables → List Entry → ℕ → Entry → Type 0
IsStoredAt tables history number entry =
    (tables.org.changes < number) × (number ≤ Number tables history + 1)
    × (admission (state tables (first tables (number - 1) history)) entry ≡ None)

-- ---- writes where nobody else adds

-- what the history gains by an entry that is judged so
abbrev pub gained : Option Refusal → Entry → List Entry
gained (Some refusal) entry = []
gained None entry = entry ∷ []

-- the answer to an entry that is judged so in this state
abbrev pub verdict : Option Refusal → Tables → Entry → Answer
verdict (Some refusal) now entry = Refused refusal
verdict None now entry = written_answer now (after now entry) entry.command

-- the entry is judged in this state: whether it is gained, the number of the state then, and the answer
unfoldable pub JudgedAlone : Tables → Entry → ℕ → Answer → List Entry → Type 0
JudgedAlone now entry number value gain =
    (gain ≡ gained (admission now entry) entry)
    × (number ≡ (state now gain).org.changes)
    × (value ≡ verdict (admission now entry) now entry)

-- it is accepted in this state and gained, and the number is that of the state then
unfoldable pub StoredAlone : Tables → Entry → ℕ → List Entry → Type 0
StoredAlone now entry number gain =
    (admission now entry ≡ None) × (gain ≡ entry ∷ []) × (number ≡ (state now gain).org.changes)

-- ---- what a write is told

-- The answer to a write. Where nobody else adds, the keeper fails only for an entry that is accepted.
abbrev pub WriteTold : Bool → Entry → Result (Numbered Answer) WriteStop → Tables → List Entry → List Entry → Type 0
WriteTold alone entry (Ok answer) tables history more =
    (tables.org.changes ≤ answer.number)
    × (answer.number ≤ Number tables (history ++ more))
    × Judged tables (first tables answer.number (history ++ more)) entry answer.value
    × (IsTrue alone → JudgedAlone (state tables history) entry answer.number answer.value more)
WriteTold alone entry (Err KeeperFault) tables history more =
    IsTrue alone → (more ≡ []) × (admission (state tables history) entry ≡ None)
WriteTold alone entry (Err (NoMemory (Some number))) tables history more =
    IsStoredAt tables (history ++ more) number entry × (IsTrue alone → StoredAlone (state tables history) entry number more)
WriteTold alone entry (Err (NoMemory None)) tables history more = IsTrue alone → more ≡ []

-- how many writes were accepted or stored
abbrev pub accepted_by : Result (Numbered Answer) WriteStop → ℕ
accepted_by (Ok answer) = accepts answer.value
accepted_by (Err KeeperFault) = 0
accepted_by (Err (NoMemory (Some number))) = 1
accepted_by (Err (NoMemory None)) = 0
