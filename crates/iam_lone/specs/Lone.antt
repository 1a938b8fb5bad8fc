-- What an office of one conversation stands for.
use Rattle.std.specs.Prelude.{◌≡◌, ℕ, ◌⊎◌, List, Ok, Err, Some, None, IfSome}
use Rattle.std.specs.declared.option.Option.{Option}
use Rattle.std.specs.declared.result.Result.{Result}
use Rattle.iam_types.specs.declared.answer.Answer.{Answer}
use Rattle.iam_types.specs.declared.answer.Answer.TheVariants.{Refused}
use Rattle.iam_types.specs.declared.command.Entry.{Entry}
use Rattle.iam_types.specs.declared.refusal.Refusal.{Refusal}
use Rattle.iam_types.specs.declared.tables.Tables.{Tables}
use Rattle.iam_model.specs.Commands.{IsEntry, after}
use Rattle.iam_law.specs.Admit.{admission}
use Rattle.iam_law.specs.History.{state, Legal}
use Rattle.iam_answer.specs.Answer.{written_answer}
use Rattle.iam_office.specs.declared.office.Numbered.{Numbered}
use Rattle.iam_office.specs.declared.office.WriteStop.{WriteStop}
use Rattle.iam_office.specs.declared.office.WriteStop.TheVariants.{KeeperFault, OutOfMemory}

-- the tables of the index, the keeper, and the entry that is kept and that the index hasn't taken up yet, if one waits
pub record Alone (P : Type 0) : Type 0 where
  pub tables : Tables
  pub keeper : P
  pub waiting : Option Entry

-- the tables with the entry that waits
abbrev pub with_waiting : Tables → Option Entry → Tables
with_waiting tables None = tables
with_waiting tables (Some entry) = after tables entry

abbrev pub current : {P : Type 0} → Alone P → Tables
current lone = with_waiting lone.tables lone.waiting

-- the same with no entry that waits
abbrev pub taken_up : {P : Type 0} → Alone P → Alone P
taken_up lone = record { tables = current lone; keeper = lone.keeper; waiting = None }

-- an entry that waits is accepted
abbrev pub IsWaiting : Tables → Option Entry → Type 0
IsWaiting tables waiting = IfSome waiting (λ entry. IsEntry entry × (admission tables entry ≡ None))

-- how many entries wait
abbrev pub waits : Option Entry → ℕ
waits None = 0
waits (Some entry) = 1

-- each pair whose state is these tables
abbrev pub StandsAt : Tables → Tables → List Entry → Type 0
StandsAt now tables history = Legal tables history × (state tables history ≡ now)

-- each pair whose state is its tables, the entry that waits being applied
abbrev pub StandsFor : {P : Type 0} → Alone P → Tables → List Entry → Type 0
StandsFor lone tables history = StandsAt (current lone) tables history

pub lone_legal : {P : Type 0} (lone : Alone P) (tables : Tables) (history : List Entry) → StandsFor lone tables history → Legal tables history
lone_legal lone tables history stands = stands.0

-- ---- what comes of a write, by the tables before and after it

-- the entry is refused, and this is its answer
abbrev pub IsRefused : Tables → Tables → Entry → Result (Numbered Answer) WriteStop → Type 0
IsRefused old new entry result =
    (refusal : Refusal) × (admission old entry ≡ Some refusal) × (new ≡ old)
    × (result ≡ Ok (record { number = old.org.changes; value = Refused refusal }))

-- the entry is accepted and kept, and is answered, or there is no memory for its answer
abbrev pub IsKept : Tables → Tables → Entry → Result (Numbered Answer) WriteStop → Type 0
IsKept old new entry result =
    (admission old entry ≡ None) × (new ≡ after old entry)
    × ((result ≡ Ok (record { number = new.org.changes; value = written_answer old new entry.command }))
    ⊎ (result ≡ Err (OutOfMemory (Some new.org.changes))))

-- the entry is accepted, and the keeper failed
abbrev pub IsFailed : Tables → Tables → Entry → Result (Numbered Answer) WriteStop → Type 0
IsFailed old new entry result = (admission old entry ≡ None) × (new ≡ old) × (result ≡ Err KeeperFault)

-- there is no memory to judge the entry or to keep it
abbrev pub IsUnjudged : Tables → Tables → Result (Numbered Answer) WriteStop → Type 0
IsUnjudged old new result = (new ≡ old) × (result ≡ Err (OutOfMemory None))

unfoldable pub IsJudged : Tables → Tables → Entry → Result (Numbered Answer) WriteStop → Type 0
IsJudged old new entry result =
    IsRefused old new entry result ⊎ (IsKept old new entry result ⊎ (IsFailed old new entry result ⊎ IsUnjudged old new result))
