-- The count of accepted writes.
use Rattle.std.proofs.Common.{◌≡◌, ℕ, ◌+◌, Bool, true, false, List, Some, None, inl, inr, sym, ◌∙◌, ap, refl, arith}
use Rattle.std.specs.Prelude.{Err, cond}
use Rattle.std.specs.declared.option.Option.{Option}
use Rattle.iam_text.specs.declared.moment.Moment.{Moment}
use Rattle.iam_names.specs.declared.caller.Caller.{Caller}
use Rattle.iam_outer.specs.declared.talk.Step.{Step}
use Rattle.iam_outer.specs.declared.talk.Step.TheVariants.{Plain, Served, NoClock, NoKeeper, NoMemory}
use Rattle.iam_types.specs.declared.answer.Answer.{Answer}
use Rattle.iam_types.specs.declared.answer.Answer.TheVariants.{Refused}
use Rattle.iam_types.specs.declared.refusal.Refusal.TheVariants.{FutureRevision}
use Rattle.iam_types.specs.declared.ask.Ask.{Ask}
use Rattle.iam_types.specs.declared.command.Entry.{Entry}
use Rattle.iam_json.specs.declared.call.Call.TheVariants.{Write, Read}
use Rattle.iam_json.specs.declared.details.Details.{Details}
use Rattle.iam_wire.specs.declared.message.Message.{Message}
use Rattle.iam_routes.specs.Asked.{IsAsked}
use Rattle.iam_routes.specs.declared.given.Asked.TheVariants.{Given}
use Rattle.iam_answer.specs.Answer.{accepts}
use Rattle.iam_answer.specs.Replies.{served_reply, shows_ok}
use Rattle.iam_answer.proofs.Accepting.{tells_acceptance}
use Rattle.iam_office.specs.Accepted.{accepted_at, only_reads}
use Rattle.iam_office.specs.Office.{accepted_by}
use Rattle.iam_office.specs.Replying.{IsShown, IsStopped, IsUnreached, SaysNoMemory, SaysPlainly}
use Rattle.iam_office.specs.declared.floors.Unreached.{Unreached}
use Rattle.iam_office.specs.declared.floors.Unreached.TheVariants.{Ahead, OutOfMemory}
use Rattle.iam_office.specs.declared.office.WriteStop.{WriteStop}
use Rattle.iam_office.specs.declared.office.WriteStop.TheVariants.{KeeperFault as WriteFailed, OutOfMemory as WriteMemory}
use Rattle.iam_office.proofs.Asks.{read_only, write_not_only}

-- nothing is accepted at a step that says so
nothing_at : (message : Message) (step said : Step) (bytes : List ℕ) → said ≡ step → accepted_at message step bytes ≡ 0 → accepted_at message said bytes ≡ 0
nothing_at message step said bytes is none = ap (λ s. accepted_at message s bytes) is ∙ none

pub none_without_memory : (message : Message) (moment : Option Moment) (said : Step) (bytes : List ℕ) → SaysNoMemory moment said bytes → accepted_at message said bytes ≡ 0
unfolding accepted_at
none_without_memory message moment said bytes says = nothing_at message (NoMemory None moment) said bytes says.step refl

pub none_plainly : (message : Message) (details : Details) (said : Step) (bytes : List ℕ) → SaysPlainly Plain details said bytes → accepted_at message said bytes ≡ 0
unfolding accepted_at
none_plainly message details said bytes says = elim says [
  | inl plain ↦ nothing_at message Plain said bytes plain.0 refl
  | inr none ↦ none_without_memory message None said bytes none
]

pub none_without_clock : (message : Message) (details : Details) (said : Step) (bytes : List ℕ) → SaysPlainly NoClock details said bytes → accepted_at message said bytes ≡ 0
unfolding accepted_at
none_without_clock message details said bytes says = elim says [
  | inl failed ↦ nothing_at message NoClock said bytes failed.0 refl
  | inr none ↦ none_without_memory message None said bytes none
]

pub none_read : (message : Message) (caller : Caller) (floor : Option ℕ) (ask : Ask) (number : ℕ) (moment : Moment) (bytes : List ℕ) → IsAsked message (Given caller floor (Read ask)) → accepted_at message (Served number moment) bytes ≡ 0
unfolding accepted_at
none_read message caller floor ask number moment bytes asked = ap (λ b. cond b 0 (shows_ok bytes)) (read_only message caller floor ask asked)

served_write : (message : Message) (e : Entry) (floor : Option ℕ) (number : ℕ) (moment : Moment) (value : Answer) (bytes : List ℕ) → IsAsked message (Given e.caller floor (Write e.command)) → bytes ≡ served_reply number moment value → accepted_at message (Served number moment) bytes ≡ accepts value
unfolding accepted_at
served_write message e floor number moment value bytes asked is =
    ap (λ b. cond b 0 (shows_ok bytes)) (write_not_only message e floor asked) ∙ ap shows_ok is ∙ tells_acceptance number moment value

stored_write : (message : Message) (number : ℕ) (moment : Option Moment) (said : Step) (bytes : List ℕ) → said ≡ NoMemory (Some number) moment → accepted_at message said bytes ≡ 1
unfolding accepted_at
stored_write message number moment said bytes is = ap (λ s. accepted_at message s bytes) is

pub count_shown : (message : Message) (e : Entry) (floor : Option ℕ) (number : ℕ) (value : Answer) (said : Step) (bytes : List ℕ) → IsAsked message (Given e.caller floor (Write e.command)) → IsShown number e.moment value said bytes → accepted_at message said bytes ≡ accepts value
count_shown message e floor number value said bytes asked shown = elim shown [
  | inl served ↦ ap (λ s. accepted_at message s bytes) served.0 ∙ served_write message e floor number e.moment value bytes asked served.1
  | inr (inl none) ↦ none_without_memory message (Some e.moment) said bytes none.1 ∙ sym none.0
  | inr (inr stored) ↦ stored_write message number (Some e.moment) said bytes stored.1.step ∙ sym stored.0
]

pub count_stopped : (message : Message) (stop : WriteStop) (moment : Moment) (said : Step) (bytes : List ℕ) → IsStopped stop moment said bytes → accepted_at message said bytes ≡ accepted_by (Err stop)
unfolding accepted_at
count_stopped message WriteFailed moment said bytes says = elim says [
  | inl failed ↦ nothing_at message (NoKeeper moment) said bytes failed.0 refl
  | inr none ↦ none_without_memory message (Some moment) said bytes none
]
count_stopped message (WriteMemory None) moment said bytes says = none_without_memory message (Some moment) said bytes says
count_stopped message (WriteMemory (Some number)) moment said bytes says = stored_write message number (Some moment) said bytes says.step

-- a floor that isn't reached
nothing_either_way : (b : Bool) (n : ℕ) → n ≡ 0 → cond b 0 n ≡ 0
nothing_either_way true n none = refl
nothing_either_way false n none = none

pub none_unreached : (message : Message) (stop : Unreached) (moment : Moment) (said : Step) (bytes : List ℕ) → IsUnreached stop moment said bytes → accepted_at message said bytes ≡ 0
unfolding accepted_at
none_unreached message (Ahead asked known) moment said bytes says = elim says [
  | inl served ↦ nothing_at message (Served known moment) said bytes served.0
      (nothing_either_way (only_reads message) (shows_ok bytes) (ap shows_ok served.1 ∙ tells_acceptance known moment (Refused (FutureRevision asked known))))
  | inr (inl none) ↦ none_without_memory message (Some moment) said bytes none.1
  | inr (inr stored) ↦ absurd (omega (arith, stored.0))
]
none_unreached message OutOfMemory moment said bytes says = none_without_memory message (Some moment) said bytes says

-- a count that stays, or rises so
pub count_stays : (before now many : ℕ) → now ≡ before → many ≡ 0 → now ≡ before + many
count_stays before now many same none = omega (arith, same, none)

pub count_rises : (before now many more : ℕ) → now ≡ before + more → many ≡ more → now ≡ before + many
count_rises before now many more rose is = omega (arith, rose, is)
