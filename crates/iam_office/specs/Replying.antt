-- How a reply is made of what an office told: at its step, or, where memory is refused to it, at the step that says so.
use Rattle.std.specs.Prelude.{◌≡◌, ℕ, List, [], ◌∷◌, ◌⊎◌, Some, None}
use Rattle.std.specs.declared.option.Option.{Option}
use Rattle.iam_text.specs.declared.moment.Moment.{Moment}
use Rattle.iam_outer.specs.declared.talk.Step.{Step}
use Rattle.iam_outer.specs.declared.talk.Step.TheVariants.{Plain, Served, NoClock, NoKeeper, NoMemory}
use Rattle.iam_types.specs.declared.answer.Answer.{Answer}
use Rattle.iam_types.specs.declared.answer.Answer.TheVariants.{Refused}
use Rattle.iam_types.specs.declared.refusal.Refusal.TheVariants.{FutureRevision}
use Rattle.iam_json.specs.declared.details.Details.{Details}
use Rattle.iam_answer.specs.Answer.{accepts}
use Rattle.iam_answer.specs.Replies.{plain_reply, keeper_reply, served_reply, no_memory_reply, stored_reply}
use Rattle.iam_office.specs.Turns.{moments_of, clock_faults_of}
use Rattle.iam_office.specs.declared.floors.Unreached.{Unreached}
use Rattle.iam_office.specs.declared.floors.Unreached.TheVariants.{Ahead, OutOfMemory}
use Rattle.iam_office.specs.declared.office.WriteStop.{WriteStop}
use Rattle.iam_office.specs.declared.office.WriteStop.TheVariants.{KeeperFault as WriteFailed, OutOfMemory as WriteMemory}

-- the reply that takes no memory
abbrev pub short_reply : Step → List ℕ
short_reply (NoMemory (Some number) moment) = stored_reply number
short_reply (NoMemory None moment) = no_memory_reply
short_reply Plain = no_memory_reply
short_reply NoClock = no_memory_reply
short_reply (NoKeeper moment) = no_memory_reply
short_reply (Served number moment) = no_memory_reply

-- the bytes of a reply that was made, else of the one that takes no memory
abbrev pub reply_of : Step → Option (List ℕ) → List ℕ
reply_of step None = short_reply step
reply_of step (Some bytes) = bytes

-- it says that memory was refused, at this moment if one was given, and that nothing is stored
pub record SaysNoMemory (moment : Option Moment) (said : Step) (bytes : List ℕ) : Type 0 where
  pub step : said ≡ NoMemory None moment
  pub reply : bytes ≡ no_memory_reply

-- it says that the write of this number is stored, although its answer got no memory
pub record SaysStored (number : ℕ) (moment : Moment) (said : Step) (bytes : List ℕ) : Type 0 where
  pub step : said ≡ NoMemory (Some number) (Some moment)
  pub reply : bytes ≡ stored_reply number

-- a refusal that has no moment is replied to at its step, or there was no memory for the reply
abbrev pub SaysPlainly : Step → Details → Step → List ℕ → Type 0
SaysPlainly step details said bytes = ((said ≡ step) × (bytes ≡ plain_reply details)) ⊎ SaysNoMemory None said bytes

-- a write for which the keeper failed is replied to so, or there was no memory for the reply
abbrev pub SaysNoKeeper : Moment → Step → List ℕ → Type 0
SaysNoKeeper moment said bytes = ((said ≡ NoKeeper moment) × (bytes ≡ keeper_reply moment)) ⊎ SaysNoMemory (Some moment) said bytes

-- a write that is answered is replied to so, or there was no memory for the reply; an accepted one is stored then
abbrev pub IsShown : ℕ → Moment → Answer → Step → List ℕ → Type 0
IsShown number moment value said bytes =
    ((said ≡ Served number moment) × (bytes ≡ served_reply number moment value))
    ⊎ (((accepts value ≡ 0) × SaysNoMemory (Some moment) said bytes)
    ⊎ ((accepts value ≡ 1) × SaysStored number moment said bytes))

-- a write that was stopped is replied to so
abbrev pub IsStopped : WriteStop → Moment → Step → List ℕ → Type 0
IsStopped WriteFailed moment said bytes = SaysNoKeeper moment said bytes
IsStopped (WriteMemory None) moment said bytes = SaysNoMemory (Some moment) said bytes
IsStopped (WriteMemory (Some number)) moment said bytes = SaysStored number moment said bytes

-- a floor that isn't reached is replied to so
abbrev pub IsUnreached : Unreached → Moment → Step → List ℕ → Type 0
IsUnreached (Ahead asked known) moment said bytes = IsShown known moment (Refused (FutureRevision asked known)) said bytes
IsUnreached OutOfMemory moment said bytes = SaysNoMemory (Some moment) said bytes

-- the step has this moment, so the clock gave it
pub record IsTimed (moment : Moment) (step : Step) : Type 0 where
  pub moments : moments_of step ≡ moment ∷ []
  pub clock : clock_faults_of step ≡ 0
