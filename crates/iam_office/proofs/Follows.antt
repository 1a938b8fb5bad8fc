-- What messages come to where nobody else adds follows from the state, the messages and the steps.
use Rattle.std.proofs.Common.{◌≡◌, ◌≤◌, ◌⊎◌, ◌∙◌, ℕ, arith, List, [], ◌∷◌, ◌++◌, Some, None, inl, inr, refl, sym, ap, subst}
use Rattle.std.specs.declared.option.Option.{Option}
use Rattle.iam_text.specs.declared.moment.Moment.{Moment}
use Rattle.iam_names.specs.declared.caller.Caller.{Caller}
use Rattle.iam_outer.specs.declared.talk.Step.{Step}
use Rattle.iam_outer.specs.declared.talk.Step.TheVariants.{Plain, Served, NoClock, NoKeeper, NoMemory}
use Rattle.iam_types.specs.declared.answer.Answer.TheVariants.{Refused as Unmet}
use Rattle.iam_types.specs.declared.ask.Ask.{Ask}
use Rattle.iam_types.specs.declared.command.Command.{Command}
use Rattle.iam_types.specs.declared.command.Entry.{Entry}
use Rattle.iam_types.specs.declared.refusal.Refusal.TheVariants.{FutureRevision}
use Rattle.iam_types.specs.declared.tables.Tables.{Tables}
use Rattle.iam_law.specs.Admit.{admission}
use Rattle.iam_law.specs.History.{state}
use Rattle.iam_json.specs.declared.call.Call.{Call}
use Rattle.iam_json.specs.declared.call.Call.TheVariants.{Write, Read}
use Rattle.iam_json.specs.declared.reply.ErrorReply.{ErrorReply}
use Rattle.iam_wire.specs.declared.message.Message.{Message}
use Rattle.iam_routes.specs.Asked.{AtMostOneAsking, IsAsked}
use Rattle.iam_routes.specs.declared.given.Asked.TheVariants.{Refused, Given}
use Rattle.iam_answer.specs.Answer.{answer_of}
use Rattle.iam_answer.specs.Replies.{plain_reply, served_reply}
use Rattle.iam_office.specs.Asks.{AsksLater, AsksWrite, IsMet}
use Rattle.iam_office.specs.Laws.{RepliesFollow}
use Rattle.iam_office.specs.Office.{JudgedAlone, StoredAlone, gained, verdict}
use Rattle.iam_office.specs.Replied.{FloorReplied, ReadReplied, WriteReplied, Replied, InTurn}
use Rattle.iam_office.specs.Turns.{Turn, messages_of, steps_of}

-- ---- a message asks one thing

same_error : (a b : ErrorReply) → Refused a ≡ Refused b → a ≡ b
same_error a b is = cc is

same_caller : (a b : Caller) (f g : Option ℕ) (c d : Call) → Given a f c ≡ Given b g d → a ≡ b
same_caller a b f g c d is = cc is

same_floor : (a b : Caller) (f g : Option ℕ) (c d : Call) → Given a f c ≡ Given b g d → f ≡ g
same_floor a b f g c d is = cc is

same_ask : (a b : Caller) (f g : Option ℕ) (c d : Ask) → Given a f (Read c) ≡ Given b g (Read d) → c ≡ d
same_ask a b f g c d is = cc is

same_command : (a b : Caller) (f g : Option ℕ) (c d : Command) → Given a f (Write c) ≡ Given b g (Write d) → c ≡ d
same_command a b f g c d is = cc is

read_or_write : (a b : Caller) (f g : Option ℕ) (c : Ask) (d : Command) → Given a f (Read c) ≡ Given b g (Write d) → ⊥
read_or_write a b f g c d is = cc is

same_number : (a b : ℕ) → Some a ≡ Some b → a ≡ b
same_number a b is = cc is

-- a floor is above a number or met by it
above_or_met : AtMostOneAsking → (m : Message) (n floor : ℕ) (caller : Caller) (other : Option ℕ) (call : Call) → AsksLater m n floor → IsMet other n → IsAsked m (Given caller other call) → ⊥
above_or_met one m n floor caller other call later met asked =
    let floors = same_floor later.0 caller (Some floor) other later.1 call (one m (Given later.0 (Some floor) later.1) (Given caller other call) later.2 asked) in
    let below : floor ≤ n = subst (λ f. IsMet f n) (sym floors) met in
    omega (arith, below, later.3)

same_entry : AtMostOneAsking → (m : Message) (n k : ℕ) (e f : Entry) → AsksWrite m n e → AsksWrite m k f → e.moment ≡ f.moment → e ≡ f
same_entry one m n k e f asked also moments =
    let is = one m (Given e.caller asked.0 (Write e.command)) (Given f.caller also.0 (Write f.command)) asked.2 also.2 in
    ap (λ (c : Caller). record { caller = c; moment = e.moment; command = e.command }) (same_caller e.caller f.caller asked.0 also.0 (Write e.command) (Write f.command) is)
    ∙ ap (λ (t : Moment). record { caller = f.caller; moment = t; command = e.command }) moments
    ∙ ap (λ (c : Command). record { caller = f.caller; moment = f.moment; command = c }) (same_command e.caller f.caller asked.0 also.0 e.command f.command is)

some_same : (moment : Option Moment) (a b : Moment) → moment ≡ Some a → moment ≡ Some b → a ≡ b
some_same moment a b is also = let both = sym is ∙ also in cc both

-- ---- one message

floors_same : AtMostOneAsking → (now : Tables) (m : Message) (n : ℕ) (t : Moment) (a b : List ℕ) (x y : List Entry) → FloorReplied now m n t a x → FloorReplied now m n t b y → (a ≡ b) × (x ≡ y)
floors_same one now m n t a b x y p q =
    let is = one m (Given p.1.0 (Some p.0) p.1.1) (Given q.1.0 (Some q.0) q.1.1) p.1.2 q.1.2 in
    let floors = same_number p.0 q.0 (same_floor p.1.0 q.1.0 (Some p.0) (Some q.0) p.1.1 q.1.1 is) in
    (p.4 ∙ ap (λ f. served_reply n t (Unmet (FutureRevision f n))) floors ∙ sym q.4, p.2 ∙ sym q.2)

reads_same : AtMostOneAsking → (now : Tables) (m : Message) (n : ℕ) (t : Moment) (a b : List ℕ) (x y : List Entry) → ReadReplied now m n t a x → ReadReplied now m n t b y → (a ≡ b) × (x ≡ y)
reads_same one now m n t a b x y p q =
    let is = one m (Given p.0 p.2.0 (Read p.1)) (Given q.0 q.2.0 (Read q.1)) p.2.2 q.2.2 in (
      p.5 ∙ ap (λ (c : Caller). served_reply n t (answer_of now p.1 c t)) (same_caller p.0 q.0 p.2.0 q.2.0 (Read p.1) (Read q.1) is)
          ∙ ap (λ (k : Ask). served_reply n t (answer_of now k q.0 t)) (same_ask p.0 q.0 p.2.0 q.2.0 p.1 q.1 is) ∙ sym q.5,
      p.3 ∙ sym q.3,
    )

writes_same : AtMostOneAsking → (now : Tables) (m : Message) (n : ℕ) (t : Moment) (a b : List ℕ) (x y : List Entry) → WriteReplied now m n t a x → WriteReplied now m n t b y → (a ≡ b) × (x ≡ y)
unfolding JudgedAlone
writes_same one now m n t a b x y p q =
    let same = same_entry one m now.org.changes now.org.changes p.0 q.0 p.1 q.1 (p.2 ∙ sym q.2) in
    let gains : x ≡ y = p.3.1.0 ∙ ap (λ (e : Entry). gained (admission now e) e) same ∙ sym q.3.1.0 in
    let values : p.3.0 ≡ q.3.0 = p.3.1.2 ∙ ap (λ (e : Entry). verdict (admission now e) now e) same ∙ sym q.3.1.2 in
    (p.3.2 ∙ ap (served_reply n t) values ∙ sym q.3.2, gains)

read_and_write : {B : Type 0} (one : AtMostOneAsking) (now : Tables) (m : Message) (n : ℕ) (t : Moment) (a b : List ℕ) (x y : List Entry) → ReadReplied now m n t a x → WriteReplied now m n t b y → B
read_and_write one now m n t a b x y p q =
    absurd (read_or_write p.0 q.0.caller p.2.0 q.1.0 p.1 q.0.command (one m (Given p.0 p.2.0 (Read p.1)) (Given q.0.caller q.1.0 (Write q.0.command)) p.2.2 q.1.2))

floor_and_read : {B : Type 0} (one : AtMostOneAsking) (now : Tables) (m : Message) (n : ℕ) (t : Moment) (a b : List ℕ) (x y : List Entry) → FloorReplied now m n t a x → ReadReplied now m n t b y → B
floor_and_read one now m n t a b x y p q = absurd (above_or_met one m now.org.changes p.0 q.0 q.2.0 (Read q.1) p.1 q.2.1 q.2.2)

floor_and_write : {B : Type 0} (one : AtMostOneAsking) (now : Tables) (m : Message) (n : ℕ) (t : Moment) (a b : List ℕ) (x y : List Entry) → FloorReplied now m n t a x → WriteReplied now m n t b y → B
floor_and_write one now m n t a b x y p q = absurd (above_or_met one m now.org.changes p.0 q.0.caller q.1.0 (Write q.0.command) p.1 q.1.1 q.1.2)

-- a reply that is served in one of the three ways
abbrev ServedReplied : Tables → Message → ℕ → Moment → List ℕ → List Entry → Type 0
ServedReplied now m n t a x = FloorReplied now m n t a x ⊎ (ReadReplied now m n t a x ⊎ WriteReplied now m n t a x)

served_same : AtMostOneAsking → (now : Tables) (m : Message) (n : ℕ) (t : Moment) (a b : List ℕ) (x y : List Entry) → ServedReplied now m n t a x → ServedReplied now m n t b y → (a ≡ b) × (x ≡ y)
served_same one now m n t a b x y (inl p) (inl q) = floors_same one now m n t a b x y p q
served_same one now m n t a b x y (inl p) (inr (inl q)) = floor_and_read one now m n t a b x y p q
served_same one now m n t a b x y (inl p) (inr (inr q)) = floor_and_write one now m n t a b x y p q
served_same one now m n t a b x y (inr (inl p)) (inl q) = floor_and_read one now m n t b a y x q p
served_same one now m n t a b x y (inr (inl p)) (inr (inl q)) = reads_same one now m n t a b x y p q
served_same one now m n t a b x y (inr (inl p)) (inr (inr q)) = read_and_write one now m n t a b x y p q
served_same one now m n t a b x y (inr (inr p)) (inl q) = floor_and_write one now m n t b a y x q p
served_same one now m n t a b x y (inr (inr p)) (inr (inl q)) = read_and_write one now m n t b a y x q p
served_same one now m n t a b x y (inr (inr p)) (inr (inr q)) = writes_same one now m n t a b x y p q

one_way : AtMostOneAsking → (now : Tables) (m : Message) (step : Step) (a b : List ℕ) (x y : List Entry) → Replied now m step a x → Replied now m step b y → (a ≡ b) × (x ≡ y)
unfolding Replied StoredAlone
one_way one now m Plain a b x y p q =
    let errors = same_error p.0.0 q.0.0 (one m (Refused p.0.0) (Refused q.0.0) p.0.1 q.0.1) in
    (p.0.2 ∙ ap (λ (e : ErrorReply). plain_reply e.details) errors ∙ sym q.0.2, p.1 ∙ sym q.1)
one_way one now m NoClock a b x y p q = (p.1 ∙ sym q.1, p.2 ∙ sym q.2)
one_way one now m (NoKeeper t) a b x y p q = (p.4 ∙ sym q.4, p.5 ∙ sym q.5)
one_way one now m (NoMemory None t) a b x y p q = (p.1 ∙ sym q.1, p.2 ∙ sym q.2)
one_way one now m (NoMemory (Some n) t) a b x y p q =
    let same = same_entry one m now.org.changes now.org.changes p.0 q.0 p.1 q.1 (some_same t p.0.moment q.0.moment p.2 q.2) in
    (p.4 ∙ sym q.4, p.3.1 ∙ ap (λ (e : Entry). e ∷ []) same ∙ sym q.3.1)
one_way one now m (Served n t) a b x y p q = served_same one now m n t a b x y p q

-- ---- all of them

same_turn : (a b : Turn) → a.message ≡ b.message → a.step ≡ b.step → a.reply ≡ b.reply → a ≡ b
same_turn a b message step reply =
    ap (λ (m : Message). record { message = m; step = a.step; reply = a.reply }) message
    ∙ ap (λ (s : Step). record { message = b.message; step = s; reply = a.reply }) step
    ∙ ap (λ (r : List ℕ). record { message = b.message; step = b.step; reply = r }) reply

first_same : {A : Type 0} (a b : A) (xs ys : List A) → a ∷ xs ≡ b ∷ ys → a ≡ b
first_same a b xs ys is = cc is

rest_same : {A : Type 0} (a b : A) (xs ys : List A) → a ∷ xs ≡ b ∷ ys → xs ≡ ys
rest_same a b xs ys is = cc is

none_and_some : {A B : Type 0} (a : A) (xs : List A) → [] ≡ a ∷ xs → B
none_and_some a xs is = cc is

pub follows : AtMostOneAsking → RepliesFollow
unfolding InTurn
follows one now [] [] x y messages steps p q = (refl, p ∙ sym q)
follows one now [] (b ∷ others) x y messages steps p q = none_and_some b.message (messages_of others) messages
follows one now (a ∷ turns) [] x y messages steps p q = none_and_some a.message (messages_of turns) (sym messages)
follows one now (a ∷ turns) (b ∷ others) x y messages steps p q =
    let message = first_same a.message b.message (messages_of turns) (messages_of others) messages in
    let step = first_same a.step b.step (steps_of turns) (steps_of others) steps in
    let there : Replied now a.message a.step b.reply q.0 = subst (λ (m : Message). Replied now m a.step b.reply q.0) (sym message) (subst (λ (s : Step). Replied now b.message s b.reply q.0) (sym step) q.3) in
    let same = one_way one now a.message a.step a.reply b.reply p.0 q.0 p.3 there in
    let more = follows one (state now p.0) turns others p.1 q.1 (rest_same a.message b.message (messages_of turns) (messages_of others) messages) (rest_same a.step b.step (steps_of turns) (steps_of others) steps)
    p.4 (subst (λ (gain : List Entry). InTurn (state now gain) others q.1) (sym same.1) q.4) in (
      ap (λ (ts : List Turn). a ∷ ts) more.0 ∙ ap (λ (t : Turn). t ∷ others) (same_turn a b message step same.0),
      p.2 ∙ ap (λ l. p.0 ++ l) more.1 ∙ ap (λ gain. gain ++ q.1) same.1 ∙ sym q.2,
    )
