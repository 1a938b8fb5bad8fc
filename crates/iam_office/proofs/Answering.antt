-- What an office tells, as what a message came to.
use Rattle.std.proofs.Common.{◌≡◌, ℕ, ◌-◌, ◌<◌, ◌≤◌, Bool, IsTrue, List, [], ◌∷◌, ◌++◌, length, take, Some, None, inl, inr, subst, sym, ◌∙◌, ap, refl, arith, append-nil, length-append}
use Rattle.std.specs.Prelude.{Ok, Err, IfSome}
use Rattle.std.specs.declared.option.Option.{Option}
use Rattle.std.proofs.lemmas.List.{take-append-le, take_all, take-take, length-take}
use Rattle.iam_text.specs.declared.moment.Moment.{Moment}
use Rattle.iam_names.specs.declared.caller.Caller.{Caller}
use Rattle.iam_outer.specs.declared.talk.Step.{Step}
use Rattle.iam_outer.specs.declared.talk.Step.TheVariants.{Plain, Served, NoClock}
use Rattle.iam_types.specs.declared.answer.Answer.{Answer}
use Rattle.iam_types.specs.declared.ask.Ask.{Ask}
use Rattle.iam_types.specs.declared.command.Entry.{Entry}
use Rattle.iam_types.specs.declared.refusal.Refusal.{Refusal}
use Rattle.iam_types.specs.declared.tables.Tables.{Tables}
use Rattle.iam_law.specs.Admit.{admission}
use Rattle.iam_law.specs.History.{state}
use Rattle.iam_model.specs.Commands.{after}
use Rattle.iam_json.specs.declared.call.Call.TheVariants.{Write, Read}
use Rattle.iam_json.specs.declared.details.Details.TheVariants.{ClockFault}
use Rattle.iam_json.specs.declared.reply.ErrorReply.{ErrorReply}
use Rattle.iam_wire.specs.declared.message.Message.{Message}
use Rattle.iam_routes.specs.Asked.{IsAsked}
use Rattle.iam_routes.specs.declared.given.Asked.TheVariants.{Refused, Given}
use Rattle.iam_answer.specs.Answer.{accepts, answer_of}
use Rattle.iam_answer.specs.Replies.{served_reply}
use Rattle.iam_answer.proofs.Accepting.{written_accepts}
use Rattle.iam_office.specs.Asks.{GivesCall, AsksWrite}
use Rattle.iam_office.specs.Handled.{Answers, Reached}
use Rattle.iam_office.specs.Office.{Number, first, Judged, IsLastOf, IsStoredAt, JudgedAlone, StoredAlone, WriteTold, gained, verdict}
use Rattle.iam_office.specs.Replied.{Replied}
use Rattle.iam_office.specs.Replying.{IsShown, IsStopped, SaysNoMemory, SaysPlainly}
use Rattle.iam_office.specs.Says.{Says}
use Rattle.iam_office.specs.declared.office.WriteStop.{WriteStop}
use Rattle.iam_office.specs.declared.office.WriteStop.TheVariants.{KeeperFault as WriteFailed, OutOfMemory as WriteMemory}
use Rattle.iam_office.specs.declared.office.Numbered.{Numbered}
use Rattle.iam_office.proofs.Leading.{number_after}
use Rattle.iam_office.proofs.Saying.{met_more}

-- the first entries up to the number of the whole history
first_whole : (t : Tables) (h : List Entry) (n : ℕ) → n ≡ Number t h → first t n h ≡ h
first_whole t h n is = take_all _ _ (omega arith)

-- a history that gains nothing has the same state
same_state : (t : Tables) (h more : List Entry) → more ≡ [] → state t (h ++ more) ≡ state t h
same_state t h more none = ap (λ k. state t (h ++ k)) none ∙ ap (state t) (append-nil h)

-- ---- no state

-- there was no memory, and nothing is stored
pub unanswered : (alone : Bool) (message : Message) (moment : Option Moment) (step : Step) (bytes : List ℕ) (t : Tables) (h more : List Entry) →
    IfSome moment (λ _. GivesCall message) → SaysNoMemory moment step bytes → (IsTrue alone → more ≡ []) → Answers alone message step bytes t h more
unfolding Says Replied
unanswered alone message moment step bytes t h more gives said only =
    subst (λ s. Answers alone message s bytes t h more) (sym said.step) ((gives, said.reply), λ one. (gives, said.reply, only one))

-- the clock failed
pub no_clock : (alone : Bool) (message : Message) (said : Step) (bytes : List ℕ) (t : Tables) (h : List Entry) → GivesCall message → SaysPlainly NoClock ClockFault said bytes → Answers alone message said bytes t h []
unfolding Says Replied
no_clock alone message said bytes t h gives says = elim says [
  | inl plain ↦ subst (λ s. Answers alone message s bytes t h []) (sym plain.0) ((gives, plain.1), λ one. (gives, plain.1, refl))
  | inr none ↦ unanswered alone message None said bytes t h [] tt none (λ one. refl)
]

-- what a message alone gives
pub refused : (alone : Bool) (message : Message) (error : ErrorReply) (said : Step) (bytes : List ℕ) (t : Tables) (h : List Entry) → IsAsked message (Refused error) → SaysPlainly Plain error.details said bytes → Answers alone message said bytes t h []
unfolding Says Replied
refused alone message error said bytes t h asked says = elim says [
  | inl plain ↦ subst (λ s. Answers alone message s bytes t h []) (sym plain.0) ((error, asked, plain.1), λ one. ((error, asked, plain.1), refl))
  | inr none ↦ unanswered alone message None said bytes t h [] tt none (λ one. refl)
]

pub read_gives : (message : Message) (caller : Caller) (floor : Option ℕ) (ask : Ask) → IsAsked message (Given caller floor (Read ask)) → GivesCall message
read_gives message caller floor ask asked = (caller, floor, Read ask, asked)

pub write_gives : (message : Message) (e : Entry) (floor : Option ℕ) → IsAsked message (Given e.caller floor (Write e.command)) → GivesCall message
write_gives message e floor asked = (e.caller, floor, Write e.command, asked)

-- ---- reads

pub read_answers : (alone : Bool) (message : Message) (ask : Ask) (caller : Caller) (floor : Option ℕ) (moment : Moment) (answer : Numbered Answer) (bytes : List ℕ) (t : Tables) (h more : List Entry) →
    IsAsked message (Given caller floor (Read ask)) → Reached alone floor t h → bytes ≡ served_reply answer.number moment answer.value
    → (answer.number ≡ Number t (h ++ more)) × (answer.value ≡ answer_of (state t (h ++ more)) ask caller moment) × (IsTrue alone → (more ≡ []) × (answer.number ≡ (state t h).org.changes))
    → Answers alone message (Served answer.number moment) bytes t h more
unfolding Says Replied
read_answers alone message ask caller floor moment answer bytes t h more asked reached made told =
    let grown = number_after t h more in
    let whole : state t (first t answer.number (h ++ more)) ≡ state t (h ++ more) = ap (state t) (first_whole t (h ++ more) answer.number told.0) in
    let shown : bytes ≡ served_reply answer.number moment (answer_of (state t (h ++ more)) ask caller moment) = made ∙ ap (served_reply answer.number moment) told.1 in (
      (omega (arith, told.0), omega (arith, told.0), inr (inl (caller, ask, (floor, met_more floor (Number t h) answer.number (omega (arith, told.0, grown)) reached.0, asked), omega (arith, told.0), shown ∙ ap (λ s. served_reply answer.number moment (answer_of s ask caller moment)) (sym whole)))),
      λ one. let exact = told.2 one in
          inr (inl (caller, ask, (floor, reached.1 one, asked), exact.0, exact.1, shown ∙ ap (λ s. served_reply answer.number moment (answer_of s ask caller moment)) (same_state t h more exact.0))),
    )

-- ---- writes

-- the first entries of a history, the last of them being this one, without it
without_last : (t : Tables) (h before : List Entry) (n : ℕ) (e : Entry) → t.org.changes ≤ n → n ≤ Number t h → first t n h ≡ before ++ e ∷ [] → (t.org.changes < n) × (first t (n - 1) h ≡ before)
without_last t h before n e low high is =
    let all = length-take (n - t.org.changes) h in
    let last = length-append before (e ∷ []) in
    let size = ap length is in
    let up : t.org.changes < n = omega (arith, all, last, size) in
    let at : n - 1 - t.org.changes ≡ length before = omega (arith, all, last, size) in
    let within : n - 1 - t.org.changes ≤ n - t.org.changes = omega arith in
    let short : n - 1 - t.org.changes ≤ length before = omega (arith, at) in
    let full : length before ≤ n - 1 - t.org.changes = omega (arith, at) in
    (up, sym (take-take (n - 1 - t.org.changes) (n - t.org.changes) h within) ∙ ap (take (n - 1 - t.org.changes)) is ∙ take-append-le (n - 1 - t.org.changes) before (e ∷ []) short ∙ take_all (n - 1 - t.org.changes) before full)

last_is_stored : (t : Tables) (h : List Entry) (n : ℕ) (e : Entry) (value : Answer) → t.org.changes ≤ n → n ≤ Number t h → IsLastOf t (first t n h) e value → IsStoredAt t h n e
unfolding IsStoredAt
last_is_stored t h n e value low high last =
    let parts = without_last t h last.0 n e low high last.1 in
    (parts.0, omega (arith, high), subst (λ k. admission (state t k) e ≡ None) (sym parts.1) last.2)

-- an accepted write whose reply got no memory is stored
accepted_is_stored : (t : Tables) (h : List Entry) (n : ℕ) (e : Entry) (value : Answer) → t.org.changes ≤ n → n ≤ Number t h → Judged t (first t n h) e value → accepts value ≡ 1 → IsStoredAt t h n e
unfolding Judged
accepted_is_stored t h n e value low high judged one = elim judged [
  | inl refusal ↦ absurd (omega (arith, one, ap accepts refusal.2))
  | inr last ↦ last_is_stored t h n e value low high last
]

nothing_gained : (j : Option Refusal) (now : Tables) (e : Entry) (more : List Entry) (value : Answer) → accepts value ≡ 0 → more ≡ gained j e → value ≡ verdict j now e → more ≡ []
nothing_gained (Some refusal) now e more value none gains is = gains
nothing_gained None now e more value none gains is = absurd (omega (arith, none, ap accepts is, written_accepts now (after now e) e.command))

all_gained : (j : Option Refusal) (now : Tables) (e : Entry) (more : List Entry) (value : Answer) → accepts value ≡ 1 → more ≡ gained j e → value ≡ verdict j now e → (j ≡ None) × (more ≡ e ∷ [])
all_gained (Some refusal) now e more value one gains is = absurd (omega (arith, one, ap accepts is))
all_gained None now e more value one gains is = (refl, gains)

-- its floor is met by the history that it leads to
said_write : (message : Message) (e : Entry) (alone : Bool) (floor : Option ℕ) (t : Tables) (h more : List Entry) → IsAsked message (Given e.caller floor (Write e.command)) → Reached alone floor t h → AsksWrite message (Number t (h ++ more)) e
said_write message e alone floor t h more asked reached = (floor, met_more floor (Number t h) (Number t (h ++ more)) (omega (arith, number_after t h more)) reached.0, asked)

-- a write that is answered
pub write_answers : (alone : Bool) (message : Message) (e : Entry) (floor : Option ℕ) (answer : Numbered Answer) (step : Step) (bytes : List ℕ) (t : Tables) (h more : List Entry) →
    IsAsked message (Given e.caller floor (Write e.command)) → Reached alone floor t h → IsShown answer.number e.moment answer.value step bytes → WriteTold alone e (Ok answer) t h more → Answers alone message step bytes t h more
unfolding Says Replied JudgedAlone StoredAlone
write_answers alone message e floor answer step bytes t h more asked reached shown told = elim shown [
  | inl served ↦ subst (λ s. Answers alone message s bytes t h more) (sym served.0)
      ((told.0, told.1, inr (inr (e, said_write message e alone floor t h more asked reached, refl, (answer.value, told.2, served.1)))), λ one. inr (inr (e, (floor, reached.1 one, asked), refl, (answer.value, told.3 one, served.1))))
  | inr (inl none) ↦ unanswered alone message (Some e.moment) step bytes t h more (write_gives message e floor asked) none.1 (λ one.
      let judged = told.3 one in nothing_gained _ _ e more answer.value none.0 judged.0 judged.2)
  | inr (inr stored) ↦ subst (λ s. Answers alone message s bytes t h more) (sym stored.1.step) (
    (e, said_write message e alone floor t h more asked reached, refl, accepted_is_stored t (h ++ more) answer.number e answer.value told.0 told.1 told.2 stored.0, stored.1.reply),
    λ one.
        let judged = told.3 one in let gains = all_gained _ _ e more answer.value stored.0 judged.0 judged.2 in (e, (floor, reached.1 one, asked), refl, (gains.0, gains.1, judged.1), stored.1.reply),
  )
]

-- a write that was stopped
pub write_stopped : (alone : Bool) (message : Message) (e : Entry) (floor : Option ℕ) (stop : WriteStop) (step : Step) (bytes : List ℕ) (t : Tables) (h more : List Entry) →
    IsAsked message (Given e.caller floor (Write e.command)) → Reached alone floor t h → IsStopped stop e.moment step bytes → WriteTold alone e (Err stop) t h more → Answers alone message step bytes t h more
unfolding Says Replied
write_stopped alone message e floor WriteFailed step bytes t h more asked reached said told = elim said [
  | inl failed ↦ subst (λ s. Answers alone message s bytes t h more) (sym failed.0)
      ((e, said_write message e alone floor t h more asked reached, refl, failed.1), λ one. let exact = told one in (e, (floor, reached.1 one, asked), refl, exact.1, failed.1, exact.0))
  | inr none ↦ unanswered alone message (Some e.moment) step bytes t h more (write_gives message e floor asked) none (λ one. (told one).0)
]
write_stopped alone message e floor (WriteMemory None) step bytes t h more asked reached said told = unanswered alone message (Some e.moment) step bytes t h more (write_gives message e floor asked) said told
write_stopped alone message e floor (WriteMemory (Some number)) step bytes t h more asked reached said told =
    subst (λ s. Answers alone message s bytes t h more) (sym said.step) ((e, said_write message e alone floor t h more asked reached, refl, told.0, said.reply), λ one. (e, (floor, reached.1 one, asked), refl, told.1 one, said.reply))
