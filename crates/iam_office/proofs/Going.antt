-- What was answered so far, and one message more.
use Rattle.std.proofs.Common.{◌≡◌, ◌≢◌, ◌⊎◌, inl, inr, Some, ℕ, ◌+◌, ◌-◌, Bool, true, false, not, List, [], ◌∷◌, ◌++◌, length, slice_set, take, subst, sym, ◌∙◌, ap, refl, arith, append-nil, length-append, zero-add}
use Rattle.std.specs.Bool.{OnTrue, OnFalse}
use Rattle.std.specs.List.{concat}
use Rattle.std.specs.Io.KnownBytes.{Appends}
use Rattle.std.specs.declared.option.Option.{Option}
use Rattle.std.proofs.KnownBytes.{Appends-trans}
use Rattle.std.proofs.lemmas.List.{length-map, map-append, set_at}
use Rattle.std.proofs.lemmas.List.Folds.{concat-append}
use Rattle.std.proofs.lemmas.List.Sums.{sum_by-append}
use Rattle.std.proofs.lemmas.List.Elements.{All-append, All-cons, All-nil}
use Rattle.iam_outer.specs.declared.talk.Step.{Step}
use Rattle.iam_outer.specs.declared.talk.Step.TheVariants.{Plain, Served, NoClock, NoKeeper, NoMemory}
use Rattle.iam_outer.specs.declared.talk.TalkEnd.TheVariants.{Done, WriteFault}
use Rattle.iam_types.specs.declared.command.Entry.{Entry}
use Rattle.iam_types.specs.declared.tables.Tables.{Tables}
use Rattle.iam_wire.specs.declared.message.Message.{Message}
use Rattle.iam_office.specs.Accepted.{accepted_at, accepted_in}
use Rattle.iam_office.specs.Handled.{AppendsPrefix, Answers, Handled, Turned, failures}
use Rattle.iam_office.specs.Answering.{Answered, IsBehind, failed_writes}
use Rattle.iam_office.specs.Stops.{ClockAt, HadClock, LostClock, end_of}
use Rattle.iam_office.specs.Talks.{Conversed, Tells, WroteAt}
use Rattle.iam_office.specs.Turns.{Turn, Rise, messages_of, replies_of}
use Rattle.iam_office.specs.declared.stop.Stop.{Stop}
use Rattle.iam_office.specs.declared.stop.Stop.TheVariants.{AtEnd, AtLast, Cut, Fault, Enough, ReadFault, WriteFault as WriteStopped, ClockFault, OutOfMemory}
use Rattle.iam_office.proofs.Leading.{leads_here, leads_on}
use Rattle.iam_office.proofs.Saying.{conversed_more, conversed_none}

-- ---- one more piece is written

concat_more : (rs : List (List ℕ)) (r : List ℕ) → concat (rs ++ r ∷ []) ≡ concat rs ++ r
concat_more rs r = concat-append rs (r ∷ []) ∙ ap (λ l. concat rs ++ l) (append-nil r)

pub piece_whole : (a b c : Option (List ℕ)) (rs : List (List ℕ)) (r : List ℕ) → Appends a b (concat rs) → Appends b c r → Appends a c (concat (rs ++ r ∷ []))
piece_whole a b c rs r p q = subst (Appends a c) (sym (concat_more rs r)) (Appends-trans a b c (concat rs) r p q)

pub piece_cut : (a b c : Option (List ℕ)) (rs : List (List ℕ)) (r : List ℕ) → Appends a b (concat rs) → AppendsPrefix b c r → WroteAt WriteFault a c (rs ++ r ∷ [])
piece_cut a b c rs r p q = (rs, r, q.0, refl, Appends-trans a b c (concat rs) (take q.0 r) p q.1)

-- ---- one more turn

abbrev pub turn_of : Message → Step → List ℕ → Turn
turn_of m s r = record { message = m; step = s; reply = r }

-- over an office
tells_more : {O : Type 0} (stands : O → Tables → List Entry → Type 0) (accepted : O → ℕ) (alone : Bool) (old mid new : O) (turns : List Turn) (m : Message) (s : Step) (r : List ℕ) →
    Tells stands accepted alone old mid turns → Handled stands accepted alone mid new m s r → Tells stands accepted alone old new (turns ++ turn_of m s r ∷ [])
tells_more stands accepted alone old mid new turns m s r p q =
    let one : accepted_in (turn_of m s r ∷ []) ≡ accepted_at m s r = simp zero-add in (
      leads_on stands old mid new (Conversed alone turns) (Answers alone m s r) _ p.0 q.answers (λ t h x y before now. conversed_more alone turns (turn_of m s r) t h x y before now),
      omega (arith, p.1, q.count, one, sum_by-append (λ (turn : Turn). accepted_at turn.message turn.step turn.reply) turns (turn_of m s r ∷ [])),
    )

pub tells_none : {O : Type 0} (stands : O → Tables → List Entry → Type 0) (accepted : O → ℕ) (alone : Bool) (o : O) → Tells stands accepted alone o o []
tells_none stands accepted alone o = (leads_here stands o (Conversed alone []) (λ t h. conversed_none alone t h), omega arith)

answered_more : (Told Tolds : List Turn → Type 0) (Wrote Writes : List (List ℕ) → Type 0) (Found Finds : List Message → Type 0) (steps : List Step) (m : Message) (s : Step) (r : List ℕ) →
    Answered Told Wrote Found steps → ((turns : List Turn) → Told turns → Tolds (turns ++ turn_of m s r ∷ [])) → ((pieces : List (List ℕ)) → Wrote pieces → Writes (pieces ++ r ∷ []))
    → ((ms : List Message) → Found ms → Finds (ms ++ m ∷ [])) → Answered Tolds Writes Finds (steps ++ s ∷ [])
answered_more Told Tolds Wrote Writes Found Finds steps m s r a tells writes finds = record {
  turns = a.turns ++ turn_of m s r ∷ [];
  told = tells a.turns a.told;
  found = subst Finds (sym (map-append (λ (turn : Turn). turn.message) a.turns (turn_of m s r ∷ []))) (finds (messages_of a.turns) a.found);
  steps_are = ap (λ ss. ss ++ s ∷ []) a.steps_are ∙ sym (map-append (λ (turn : Turn). turn.step) a.turns (turn_of m s r ∷ []));
  written = subst Writes (sym (map-append (λ (turn : Turn). turn.reply) a.turns (turn_of m s r ∷ []))) (writes (replies_of a.turns) a.written);
}

-- none is answered
pub answered_none : (Told : List Turn → Type 0) (Wrote : List (List ℕ) → Type 0) (Found : List Message → Type 0) → Told [] → Wrote [] → Found [] → Answered Told Wrote Found []
answered_none Told Wrote Found told wrote found = record { turns = []; told = told; found = found; steps_are = refl; written = wrote }

-- no more is answered
pub answered_as : (Told : List Turn → Type 0) (Wrote Writes : List (List ℕ) → Type 0) (Found Finds : List Message → Type 0) (steps : List Step) →
    (a : Answered Told Wrote Found steps) → ((pieces : List (List ℕ)) → Wrote pieces → Writes pieces) → ((ms : List Message) → length ms ≡ length steps → Found ms → Finds ms) → Answered Told Writes Finds steps
answered_as Told Wrote Writes Found Finds steps a writes finds = record {
  turns = a.turns;
  told = a.told;
  found = finds (messages_of a.turns) (length-map a.turns (λ (turn : Turn). turn.message) ∙ sym (ap length a.steps_are ∙ length-map a.turns (λ (turn : Turn). turn.step))) a.found;
  steps_are = a.steps_are;
  written = writes (replies_of a.turns) a.written;
}

-- ---- the trace

-- the step takes the room at the end
pub last_put : (ss now later : List Step) (p s : Step) → now ≡ ss ++ p ∷ [] → later ≡ slice_set now (length now - 1) s → later ≡ ss ++ s ∷ []
last_put ss now later p s is put =
    let size : length ss ≡ length now - 1 = omega (arith, ap length is, length-append ss (p ∷ [])) in
    put ∙ ap (λ l. slice_set l (length now - 1) s) is ∙ set_at ss p [] s (length now - 1) size

when_true : (b : Bool) (P : Type 0) → OnTrue b P → b ≡ true → P
when_true true P p e = p
when_true false P p e = absurd (cc e)

when_false : (b : Bool) (P : Type 0) → OnFalse b P → b ≡ false → P
when_false false P p e = p
when_false true P p e = absurd (cc e)

-- ---- one more turn over an office and a line, whose taken bytes are those before

-- one more message is answered, and its reply taken whole
pub turned_whole : {O : Type 0} (stands : O → Tables → List Entry → Type 0) (accepted : O → ℕ) (alone : Bool) (old mid new : O) (a b c d : Option (List ℕ)) (i j : ℕ) (Found Finds : List Message → Type 0) (steps later : List Step) (m : Message) (s : Step) (sent : Bool) →
    Answered (Tells stands accepted alone old mid) (WroteAt Done a b) Found steps → Turned stands accepted alone mid new c d i j m s sent → c ≡ b → sent ≡ true
    → ((ms : List Message) → Found ms → Finds (ms ++ m ∷ [])) → later ≡ steps ++ s ∷ [] → Answered (Tells stands accepted alone old new) (WroteAt Done a d) Finds later
turned_whole stands accepted alone old mid new a b c d i j Found Finds steps later m s sent answered turn same is finds put =
    subst (Answered (Tells stands accepted alone old new) (WroteAt Done a d) Finds) (sym put)
    (answered_more (Tells stands accepted alone old mid) (Tells stands accepted alone old new) (WroteAt Done a b) (WroteAt Done a d) Found Finds steps m s turn.reply answered
    (λ turns told. tells_more stands accepted alone old mid new turns m s turn.reply told turn.handled)
    (λ pieces w. piece_whole a b d pieces turn.reply w (subst (λ x. Appends x d turn.reply) same (when_true sent (Appends c d turn.reply) turn.sent.taken is)))
    finds)

-- what was written where it stops behind this reply
wrote_behind : (stop : Stop) (a b d : Option (List ℕ)) (s : Step) (r : List ℕ) (sent last : Bool) → IsBehind s sent last (Some stop) → OnTrue sent (Appends b d r) → OnFalse sent (AppendsPrefix b d r)
    → (pieces : List (List ℕ)) → WroteAt Done a b pieces → WroteAt (end_of stop) a d (pieces ++ r ∷ [])
wrote_behind AtLast a b d s r sent last is whole cut pieces w = piece_whole a b d pieces r w (when_true sent (Appends b d r) whole is.0)
wrote_behind ClockFault a b d s r sent last is whole cut pieces w = piece_whole a b d pieces r w (when_true sent (Appends b d r) whole is.0)
wrote_behind WriteStopped a b d s r sent last is whole cut pieces w = piece_cut a b d pieces r w (when_false sent (AppendsPrefix b d r) cut is)
wrote_behind AtEnd a b d s r sent last is whole cut pieces w = absurd is
wrote_behind Cut a b d s r sent last is whole cut pieces w = absurd is
wrote_behind (Fault fault) a b d s r sent last is whole cut pieces w = absurd is
wrote_behind Enough a b d s r sent last is whole cut pieces w = absurd is
wrote_behind ReadFault a b d s r sent last is whole cut pieces w = absurd is
wrote_behind OutOfMemory a b d s r sent last is whole cut pieces w = absurd is

-- it is the last that is answered
pub turned_last : {O : Type 0} (stands : O → Tables → List Entry → Type 0) (accepted : O → ℕ) (alone : Bool) (old mid new : O) (a b c d : Option (List ℕ)) (i j : ℕ) (Found Finds : List Message → Type 0) (steps later : List Step) (m : Message) (s : Step) (sent last : Bool) (stop : Stop) →
    Answered (Tells stands accepted alone old mid) (WroteAt Done a b) Found steps → Turned stands accepted alone mid new c d i j m s sent → c ≡ b → IsBehind s sent last (Some stop)
    → ((ms : List Message) → Found ms → Finds (ms ++ m ∷ [])) → later ≡ steps ++ s ∷ [] → Answered (Tells stands accepted alone old new) (WroteAt (end_of stop) a d) Finds later
turned_last stands accepted alone old mid new a b c d i j Found Finds steps later m s sent last stop answered turn same is finds put =
    subst (Answered (Tells stands accepted alone old new) (WroteAt (end_of stop) a d) Finds) (sym put)
    (answered_more (Tells stands accepted alone old mid) (Tells stands accepted alone old new) (WroteAt Done a b) (WroteAt (end_of stop) a d) Found Finds steps m s turn.reply answered
    (λ turns told. tells_more stands accepted alone old mid new turns m s turn.reply told turn.handled)
    (wrote_behind stop a b d s turn.reply sent last is (subst (λ x. OnTrue sent (Appends x d turn.reply)) same turn.sent.taken) (subst (λ x. OnFalse sent (AppendsPrefix x d turn.reply)) same turn.sent.cut))
    finds)

-- it doesn't stop at a read then
pub read_never : (stop : Stop) (s : Step) (sent last : Bool) → IsBehind s sent last (Some stop) → stop ≡ ReadFault → ⊥
read_never ReadFault s sent last behind is = behind
read_never AtLast s sent last behind is = cc is
read_never ClockFault s sent last behind is = cc is
read_never WriteStopped s sent last behind is = cc is
read_never AtEnd s sent last behind is = behind
read_never Cut s sent last behind is = behind
read_never (Fault fault) s sent last behind is = behind
read_never Enough s sent last behind is = behind
read_never OutOfMemory s sent last behind is = behind

-- how often the line failed then
pub failed_behind : (stop : Stop) (s : Step) (sent last : Bool) (a b c d : ℕ) → IsBehind s sent last (Some stop) → Rise 0 a b → c ≡ b → Rise (failures sent) c d → Rise (failed_writes (end_of stop)) a d
failed_behind AtLast s sent last a b c d is p same q = omega (arith, p, same, q)
failed_behind ClockFault s sent last a b c d is p same q = omega (arith, p, same, q)
failed_behind WriteStopped s false last a b c d is p same q = omega (arith, p, same, q)
failed_behind WriteStopped s true last a b c d is p same q = absurd (cc is)
failed_behind AtEnd s sent last a b c d is p same q = absurd is
failed_behind Cut s sent last a b c d is p same q = absurd is
failed_behind (Fault fault) s sent last a b c d is p same q = absurd is
failed_behind Enough s sent last a b c d is p same q = absurd is
failed_behind ReadFault s sent last a b c d is p same q = absurd is
failed_behind OutOfMemory s sent last a b c d is p same q = absurd is

-- ---- how the clock was

pub clock_none : HadClock []
unfolding HadClock
clock_none = All-nil (λ step. step ≢ NoClock)

pub clock_more : (steps : List Step) (s : Step) → HadClock steps → s ≢ NoClock → HadClock (steps ++ s ∷ [])
unfolding HadClock
clock_more steps s had is = All-append (λ step. step ≢ NoClock) steps (s ∷ []) had (All-cons (λ step. step ≢ NoClock) s [] is (All-nil (λ step. step ≢ NoClock)))

clock_lost : (steps later : List Step) (s : Step) → HadClock steps → s ≡ NoClock → later ≡ steps ++ s ∷ [] → LostClock later
clock_lost steps later s had is put = (steps, put ∙ ap (λ x. steps ++ x ∷ []) is, had)

-- either way
clock_either : (steps later : List Step) (s : Step) → HadClock steps → later ≡ steps ++ s ∷ [] → HadClock later ⊎ LostClock later
clock_either steps later NoClock had put = inr (clock_lost steps later NoClock had refl put)
clock_either steps later Plain had put = inl (subst HadClock (sym put) (clock_more steps Plain had (λ e. cc e)))
clock_either steps later (Served n m) had put = inl (subst HadClock (sym put) (clock_more steps (Served n m) had (λ e. cc e)))
clock_either steps later (NoKeeper m) had put = inl (subst HadClock (sym put) (clock_more steps (NoKeeper m) had (λ e. cc e)))
clock_either steps later (NoMemory stored m) had put = inl (subst HadClock (sym put) (clock_more steps (NoMemory stored m) had (λ e. cc e)))

-- where it stops behind this step
pub clock_behind : (stop : Stop) (steps later : List Step) (s : Step) (sent last : Bool) → IsBehind s sent last (Some stop) → HadClock steps → later ≡ steps ++ s ∷ [] → ClockAt stop later
clock_behind AtLast steps later s sent last is had put = subst HadClock (sym put) (clock_more steps s had is.1)
clock_behind ClockFault steps later s sent last is had put = clock_lost steps later s had is.1 put
clock_behind WriteStopped steps later s sent last is had put = clock_either steps later s had put
clock_behind AtEnd steps later s sent last is had put = absurd is
clock_behind Cut steps later s sent last is had put = absurd is
clock_behind (Fault fault) steps later s sent last is had put = absurd is
clock_behind Enough steps later s sent last is had put = absurd is
clock_behind ReadFault steps later s sent last is had put = absurd is
clock_behind OutOfMemory steps later s sent last is had put = absurd is

pub size_more : (steps later : List Step) (s : Step) → later ≡ steps ++ s ∷ [] → length later ≡ length steps + 1
size_more steps later s put = ap length put ∙ length-append steps (s ∷ [])
