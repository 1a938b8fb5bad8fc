-- What a run came to.
use Rattle.std.specs.Prelude.{◌≡◌, ◌⊎◌, ℕ, List, [], ◌∷◌, flat_map, None, IfSome}
use Rattle.std.specs.declared.option.Option.{Option}
use Rattle.std.specs.Io.KnownBytes.{Appends}
use Rattle.iam_text.specs.declared.moment.Moment.{Moment}
use Rattle.iam_outer.specs.Causes.{Rose}
use Rattle.iam_outer.specs.Given.{AppendsMoments}
use Rattle.iam_outer.specs.declared.keeper.Row.{Row}
use Rattle.iam_outer.specs.declared.talk.Step.{Step}
use Rattle.iam_outer.specs.declared.talk.TalkEnd.{TalkEnd}
use Rattle.iam_outer.specs.declared.talk.TalkEnd.TheVariants as end
use Rattle.iam_types.specs.declared.tables.Opening.{Opening}
use Rattle.iam_types.specs.declared.tables.Tables.{Tables}
use Rattle.iam_ask.specs.Access.{access_line}
use Rattle.iam_keeping.specs.Opened.{IsOpenedFrom, IsLoadFault}
use Rattle.iam_keeping.specs.declared.stop.LoadFault.{LoadFault}
use Rattle.iam_lone.specs.Ran.{RanFrom}
use Rattle.iam_office.specs.Handled.{AppendsPrefix}
use Rattle.iam_office.specs.Talks.{OfInput, Talked}
use Rattle.iam_office.specs.Turns.{moments_of}
use Rattle.iam_plan.specs.declared.plan.Plan.{Plan}
use Rattle.iam_plan.specs.declared.plan.Plan.TheVariants.{Apply, Ask}
use Rattle.iam_server.specs.declared.ends.Status.{Status}
use Rattle.iam_server.specs.declared.ends.Status.TheVariants.{Done, Words, Rows, Keeper, ReadFault, WriteFault, ClockFault, Cut, Enough, BadFrame, OutOfMemory}

-- a line and a clock at one time, and what they and a keeper tell then
pub record Outside (L C : Type 0) : Type 0 where
  pub line : L
  pub clock : C
  pub left : Option (List ℕ)
  pub read_faults : ℕ
  pub taken : Option (List ℕ)
  pub given : Option (List Moment)
  pub rows : Option (List Row)

-- the same, by what tells it
abbrev pub outside_at : {L C P : Type 0} → (L → Option (List ℕ)) → (L → ℕ) → (L → Option (List ℕ)) → (C → Option (List Moment)) → (P → Option (List Row)) → L → C → P → Outside L C
outside_at left read_faults taken given rows line clock keeper = record {
  line = line;
  clock = clock;
  left = left line;
  read_faults = read_faults line;
  taken = taken line;
  given = given clock;
  rows = rows keeper;
}

-- neither line nor clock was called, and there is no trace
abbrev pub IsQuiet : {L C : Type 0} → Outside L C → Outside L C → List Step → Type 0
IsQuiet before now trace = (now.line ≡ before.line) × (now.clock ≡ before.clock) × (trace ≡ [])

-- ---- a run without tables

-- a run ends so where its words aren't read
abbrev pub EndsUnread : Status → Type 0
EndsUnread status = (status ≡ Words) ⊎ (status ≡ OutOfMemory)

-- no tables were opened: why, and the keeper has its rows as before
abbrev pub EndsUnopened : Option Opening → Option (List Row) → Option (List Row) → Status → Type 0
EndsUnopened opening before now status =
    (now ≡ before)
    × (((fault : LoadFault) × (status ≡ Rows fault) × IfSome before (λ rows. IsLoadFault opening rows fault))
    ⊎ ((status ≡ Keeper) ⊎ (status ≡ OutOfMemory)))

-- the same, and nothing else was touched
abbrev pub Unopened : {L C : Type 0} → Option Opening → Outside L C → Outside L C → Status → List Step → Type 0
Unopened opening before now status trace = EndsUnopened opening before.rows now.rows status × IsQuiet before now trace

-- ---- a conversation

-- a run ends as its conversation does
abbrev pub status_of : TalkEnd → Status
status_of end.Done = Done
status_of end.Cut = Cut
status_of end.BadFrame = BadFrame
status_of end.ReadFault = ReadFault
status_of end.WriteFault = WriteFault
status_of end.ClockFault = ClockFault
status_of end.Enough = Enough
status_of end.OutOfMemory = OutOfMemory

-- a conversation from these tables on, with whose end the run ends; the keeper has these rows then
abbrev pub TalkedFrom : Tables → Option (List Row) → Option (List ℕ) → Option (List ℕ) → Option (List ℕ) → Option (List ℕ) → Status → List Step → Type 0
TalkedFrom tables rows left later before now status trace =
    (end : TalkEnd) × (status ≡ status_of end) × OfInput left later (λ read unread. Talked (RanFrom tables rows) before now read unread end trace)

-- a conversation from the tables that were opened, at the moments that the clock gave
pub record TalkedOpened {L C : Type 0} (opening : Option Opening) (before now : Outside L C) (status : Status) (trace : List Step) : Type 0 where
  pub tables : Tables
  pub opened : IfSome before.rows (λ kept. IsOpenedFrom opening kept tables)
  pub talked : TalkedFrom tables now.rows before.left now.left before.taken now.taken status trace
  pub moments : AppendsMoments before.given now.given (flat_map moments_of trace)

-- ---- a line of words

-- where a run ends so, the line was written whole, its first bytes were, or nothing was
abbrev pub WroteLine : Status → Option (List ℕ) → Option (List ℕ) → List ℕ → Type 0
WroteLine Done before now line = Appends before now line
WroteLine WriteFault before now line = AppendsPrefix before now line
WroteLine OutOfMemory before now line = now ≡ before
WroteLine status before now line = ⊥

-- the clock failed and nothing was written, or it gave the moment of the line
abbrev pub ToldAt : (Moment → List ℕ) → Option (List Moment) → Option (List Moment) → Option (List ℕ) → Option (List ℕ) → Status → Type 0
ToldAt line_at given later before now status =
    ((status ≡ ClockFault) × (later ≡ given) × (now ≡ before))
    ⊎ ((moment : Moment) × AppendsMoments given later (moment ∷ []) × WroteLine status before now (line_at moment))

-- the line was told from the tables that were opened; nothing was read, and the keeper has its rows as before
pub record ToldOpened {L C : Type 0} (line_of : Tables → Moment → List ℕ) (before now : Outside L C) (status : Status) (trace : List Step) : Type 0 where
  pub tables : Tables
  pub opened : IfSome before.rows (λ kept. IsOpenedFrom None kept tables)
  pub told : ToldAt (line_of tables) before.given now.given before.taken now.taken status
  pub unread : (now.left ≡ before.left) × (now.read_faults ≡ before.read_faults)
  pub kept : now.rows ≡ before.rows
  pub traceless : trace ≡ []

-- ---- the whole

-- what a run of this plan came to
abbrev pub CameTo : {L C : Type 0} → Plan → Outside L C → Outside L C → Status → List Step → Type 0
CameTo (Apply db opening) before now status trace =
    Unopened opening before now status trace ⊎ TalkedOpened opening before now status trace
CameTo (Ask db principal resource permission) before now status trace =
    Unopened None before now status trace
    ⊎ ToldOpened (λ tables moment. access_line tables principal moment resource permission) before now status trace

-- a fault ends a run only where its count rose
pub record EndsWithCause (status : Status) (keeper keeper_later read read_later write write_later clock clock_later : ℕ) : Type 0 where
  pub of_keeper : status ≡ Keeper → Rose keeper keeper_later
  pub of_reading : status ≡ ReadFault → Rose read read_later
  pub of_writing : status ≡ WriteFault → Rose write write_later
  pub of_clock : status ≡ ClockFault → Rose clock clock_later
