-- One message of a conversation, and what its steps tell.
use Rattle.std.specs.Prelude.{ℕ, ◌+◌, ◌-◌, ◌^◌, ◌≤◌, min, List, [], ◌∷◌, map, flat_map, sum_by, Some, None}
use Rattle.std.specs.declared.option.Option.{Option}
use Rattle.iam_text.specs.declared.moment.Moment.{Moment}
use Rattle.iam_outer.specs.Given.{AppendsMoments}
use Rattle.iam_outer.specs.declared.talk.Step.{Step}
use Rattle.iam_outer.specs.declared.talk.Step.TheVariants.{Plain, Served, NoClock, NoKeeper, NoMemory}
use Rattle.iam_wire.specs.declared.message.Message.{Message}

-- a message, the step that it came to, and its reply
pub record Turn : Type 0 where
  pub message : Message
  pub step : Step
  pub reply : List ℕ

abbrev pub messages_of : List Turn → List Message
messages_of turns = map (λ (turn : Turn). turn.message) turns

abbrev pub steps_of : List Turn → List Step
steps_of turns = map (λ (turn : Turn). turn.step) turns

abbrev pub replies_of : List Turn → List (List ℕ)
replies_of turns = map (λ (turn : Turn). turn.reply) turns

-- ---- moments and faults

-- a count that stops at its last value rose by so many at least
abbrev pub Rise : ℕ → ℕ → ℕ → Type 0
Rise many before now = min (before + many) (2 ^ 64 - 1) ≤ now

abbrev pub moments_of : Step → List Moment
moments_of Plain = []
moments_of (Served number moment) = moment ∷ []
moments_of NoClock = []
moments_of (NoKeeper moment) = moment ∷ []
moments_of (NoMemory stored (Some moment)) = moment ∷ []
moments_of (NoMemory stored None) = []

abbrev pub keeper_faults_of : Step → ℕ
keeper_faults_of (NoKeeper moment) = 1
keeper_faults_of step = 0

abbrev pub all_keeper_faults : List Step → ℕ
all_keeper_faults steps = sum_by keeper_faults_of steps

abbrev pub clock_faults_of : Step → ℕ
clock_faults_of NoClock = 1
clock_faults_of step = 0

-- the moments that a clock gave are those of the steps, and it failed at least as often as they say
pub record Clocked (given later : Option (List Moment)) (faults now : ℕ) (steps : List Step) : Type 0 where
  pub moments : AppendsMoments given later (flat_map moments_of steps)
  pub failed : Rise (sum_by clock_faults_of steps) faults now
