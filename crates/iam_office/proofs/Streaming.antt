-- The messages of a line, as it is read.
use Rattle.std.proofs.Common.{◌≡◌, ℕ, Bool, false, ◌<◌, ◌≤◌, ◌⊎◌, inl, inr, List, [], ◌∷◌, ◌++◌, length, take, Some, None, Ok, refl, sym, ap, ◌∙◌, subst, arith, append_assoc, append-nil}
use Rattle.std.specs.declared.option.Option.{Option}
use Rattle.std.specs.Io.KnownBytes.{Consumes, IsAtEnd, Keeps}
use Rattle.std.proofs.KnownBytes.{Consumes-kept, Consumes-nil, Consumes-trans}
use Rattle.std.proofs.lemmas.List.{length-take, nil_from_length}
use Rattle.iam_outer.specs.declared.talk.Step.{Step}
use Rattle.iam_outer.specs.declared.talk.TalkEnd.TheVariants.{Done}
use Rattle.iam_wire.specs.Front.{IsMessage, IsPrefix}
use Rattle.iam_wire.specs.Stream.{Reads, Takes, at_end, at_rest}
use Rattle.iam_wire.specs.declared.message.Message.{Message}
use Rattle.iam_office.specs.Answering.{IsBehind, IsFed, IsNextOf, LacksMessage, Streams, StopsWithout, TookFrom, failed_writes}
use Rattle.iam_office.specs.Stops.{ClockAt, HadClock, MOST_MESSAGES, StopsAt, end_of}
use Rattle.iam_office.specs.Talks.{OfInput, WroteAt}
use Rattle.iam_office.specs.declared.stop.Stop.{Stop}
use Rattle.iam_office.specs.declared.stop.Stop.TheVariants.{AtEnd, AtLast, Cut, Fault, Enough, ReadFault, WriteFault, ClockFault, OutOfMemory}

-- ---- a piece

pub fed : (before now : Option (List ℕ)) (buffer held new : List ℕ) (n : ℕ) → n ≤ length buffer → 0 < length buffer
    → Consumes before now (take n buffer) × (n ≡ 0 → 0 < length buffer → IsAtEnd now) → new ≡ held ++ take n buffer → IsFed (Ok n) before now held new
fed before now buffer held new n within some read is = (take n buffer, read.0, is, omega (arith, length-take n buffer, within), λ none. read.1 none some)

pub kept : (before now : Option (List ℕ)) → Keeps before now → Consumes before now []
kept before now keeps = Consumes-kept before before now [] (Consumes-nil before) keeps

-- nothing came
pub ended : (before now : Option (List ℕ)) (held new : List ℕ) (stop : Stop) → IsPrefix held → IsFed (Ok 0) before now held new → (new ≡ [] → stop ≡ AtEnd) → ((new ≡ [] → ⊥) → stop ≡ Cut) → StopsWithout stop before now held
ended before now held [] stop prefix is ends rests = (is.0, is.1, subst (λ s. LacksMessage s now (held ++ is.0)) (sym (ends refl)) (is.4 refl, sym is.2))
ended before now held (b ∷ new) stop prefix is ends rests =
    let none : is.0 ≡ [] = nil_from_length is.0 is.3 in
    let same : held ++ is.0 ≡ held = ap (λ s. held ++ s) none ∙ append-nil held in
    let some : b ∷ new ≡ [] → ⊥ = λ e. cc e in
    (is.0, is.1, subst (λ s. LacksMessage s now (held ++ is.0)) (sym (rests some)) (is.4 refl, ((λ e. some (is.2 ∙ e)), subst IsPrefix (sym same) prefix)))

-- nothing was read for it
pub without_reading : (left : Option (List ℕ)) (held : List ℕ) (stop : Stop) → LacksMessage stop left held → StopsWithout stop left left held
without_reading left held stop lacks = ([], Consumes-nil left, subst (LacksMessage stop left) (sym (append-nil held)) lacks)

pub unread : (before now : Option (List ℕ)) (held : List ℕ) → IsPrefix held → Consumes before now [] → StopsWithout ReadFault before now held
unread before now held prefix moved = ([], moved, subst IsPrefix (sym (append-nil held)) prefix)

-- ---- pieces until a message is whole

-- what is held is what was held first, with a piece behind it
abbrev pub ReadSo : Option (List ℕ) → Option (List ℕ) → List ℕ → List ℕ → Type 0
ReadSo before now start held = (piece : List ℕ) × Consumes before now piece × (held ≡ start ++ piece)

pub read_none : (left : Option (List ℕ)) (held : List ℕ) → ReadSo left left held held
read_none left held = ([], Consumes-nil left, sym (append-nil held))

pub read_more : (a b c : Option (List ℕ)) (start held new : List ℕ) (so : ReadSo a b start held) (piece : List ℕ) → Consumes b c piece → new ≡ held ++ piece → ReadSo a c start new
read_more a b c start held new so piece moved is = (so.0 ++ piece, Consumes-trans a b c so.0 piece so.1 moved, is ∙ ap (λ s. s ++ piece) so.2 ∙ append_assoc start so.0 piece)

pub next_took : (a b c : Option (List ℕ)) (start held left : List ℕ) (m : Message) → ReadSo a b start held → IsMessage held m left → c ≡ b → (piece : List ℕ) × Consumes a c piece × IsMessage (start ++ piece) m left
next_took a b c start held left m so is same = (so.0, subst (λ x. Consumes a x so.0) (sym same) so.1, subst (λ s. IsMessage s m left) so.2 is)

pub next_stopped : (a b c : Option (List ℕ)) (start held : List ℕ) (stop : Stop) → ReadSo a b start held → StopsWithout stop b c held → StopsWithout stop a c start
next_stopped a b c start held stop so stops =
    (so.0 ++ stops.0, Consumes-trans a b c so.0 stops.0 so.1 stops.1, subst (LacksMessage stop c) (ap (λ s. s ++ stops.0) so.2 ∙ append_assoc start so.0 stops.0) stops.2)

-- ---- the input

-- whatever is left of it
of_input : (before now : Option (List ℕ)) (read : List ℕ) (P : List ℕ → List ℕ → Type 0) → Consumes before now read → ((unread : List ℕ) → P read unread) → OfInput before now P
of_input None None read P moved p = (read, [], tt, tt, p [])
of_input None (Some ys) read P moved p = (read, ys, tt, refl, p ys)
of_input (Some xs) None read P moved p = absurd moved
of_input (Some xs) (Some ys) read P moved p = (read, ys, moved, refl, p ys)

-- nothing is left of it
of_whole : (before now : Option (List ℕ)) (read : List ℕ) (P : List ℕ → List ℕ → Type 0) → Consumes before now read → IsAtEnd now → P read [] → OfInput before now P
of_whole None None read P moved ends p = (read, [], tt, tt, p)
of_whole None (Some ys) read P moved ends p = (read, [], tt, ends, p)
of_whole (Some xs) None read P moved ends p = absurd moved
of_whole (Some xs) (Some ys) read P moved ends p = (read, [], moved ∙ ap (λ s. read ++ s) ends, ends, p)

-- nothing was read of it
pub of_unread : (before now : Option (List ℕ)) (P : List ℕ → List ℕ → Type 0) → now ≡ before → ((unread : List ℕ) → P [] unread) → OfInput before now P
of_unread before now P same p = of_input before now [] P (subst (λ x. Consumes before x []) (sym same) (Consumes-nil before)) p

-- ---- the messages that were taken

pub took_none : (left : Option (List ℕ)) (held : List ℕ) → held ≡ [] → TookFrom left left held []
took_none left held none = ([], Consumes-nil left, sym none)

read_on : Streams → (a b c : Option (List ℕ)) (held piece : List ℕ) (ms : List Message) → TookFrom a b held ms → Consumes b c piece → TookFrom a c (held ++ piece) ms
read_on laws a b c held piece ms took moved = (took.0 ++ piece, Consumes-trans a b c took.0 piece took.1 moved, laws.stays took.0 piece ms held took.2)

-- where a line stays as it was
same_left : (a b c : Option (List ℕ)) (held : List ℕ) (ms : List Message) → c ≡ b → TookFrom a b held ms → TookFrom a c held ms
same_left a b c held ms same took = (took.0, subst (λ x. Consumes a x took.0) (sym same) took.1, took.2)

-- the next one, behind which it goes on
pub took_next : Streams → (a b c d : Option (List ℕ)) (held left : List ℕ) (m : Message) (ms : List Message) → TookFrom a b held ms → IsNextOf (Ok m) b c held left → d ≡ c → m.last ≡ false → TookFrom a d left (ms ++ m ∷ [])
took_next laws a b c d held left m ms took next same goes =
    let so = read_on laws a b c held next.0 ms took next.1 in
    same_left a c d left (ms ++ m ∷ []) same (so.0, so.1, laws.another so.0 ms (held ++ next.0) m left so.2 next.2 goes)

-- the bytes that were read end behind a message or inside one
read_so_far : Streams → (read held : List ℕ) (ms : List Message) → Takes read ms held → IsPrefix held → Reads read ms at_end ⊎ Reads read ms at_rest
read_so_far laws read [] ms took prefix = inl (laws.end read ms [] at_end took refl)
read_so_far laws read (b ∷ held) ms took prefix = inr (laws.end read ms (b ∷ held) at_rest took ((λ e. cc e), prefix))

no_next : Streams → (a c : Option (List ℕ)) (held : List ℕ) (stop : Stop) (ms : List Message) → TookFrom a c held ms → LacksMessage stop c held → length ms < MOST_MESSAGES → OfInput a c (λ read unread. StopsAt stop read unread ms)
no_next laws a c held AtEnd ms took lacks few =
    of_whole a c took.0 (λ read unread. StopsAt AtEnd read unread ms) took.1 lacks.0 (subst (λ s. Reads s ms at_end) (sym (append-nil took.0)) (laws.end took.0 ms held at_end took.2 lacks.1), few)
no_next laws a c held Cut ms took lacks few =
    of_whole a c took.0 (λ read unread. StopsAt Cut read unread ms) took.1 lacks.0 (subst (λ s. Reads s ms at_rest) (sym (append-nil took.0)) (laws.end took.0 ms held at_rest took.2 lacks.1), few)
no_next laws a c held (Fault fault) ms took lacks few =
    of_input a c took.0 (λ read unread. StopsAt (Fault fault) read unread ms) took.1 (λ unread. (laws.fault took.0 unread ms held fault took.2 lacks, few))
no_next laws a c held ReadFault ms took lacks few =
    of_input a c took.0 (λ read unread. StopsAt ReadFault read unread ms) took.1 (λ unread. (read_so_far laws took.0 held ms took.2 lacks, few))
no_next laws a c held OutOfMemory ms took lacks few = of_input a c took.0 (λ read unread. StopsAt OutOfMemory read unread ms) took.1 (λ unread. laws.taken took.0 unread ms held took.2)
no_next laws a c held AtLast ms took lacks few = absurd lacks
no_next laws a c held Enough ms took lacks few = absurd lacks
no_next laws a c held WriteFault ms took lacks few = absurd lacks
no_next laws a c held ClockFault ms took lacks few = absurd lacks

-- there is no next one
pub without_next : Streams → (a b c : Option (List ℕ)) (held : List ℕ) (stop : Stop) (ms : List Message) → TookFrom a b held ms → StopsWithout stop b c held → length ms < MOST_MESSAGES → OfInput a c (λ read unread. StopsAt stop read unread ms)
without_next laws a b c held stop ms took stops few = no_next laws a c (held ++ stops.0) stop ms (read_on laws a b c held stops.0 ms took stops.1) stops.2 few

-- the next one isn't answered
pub without_room : Streams → (a b c : Option (List ℕ)) (held left : List ℕ) (m : Message) (ms : List Message) → TookFrom a b held ms → IsNextOf (Ok m) b c held left → OfInput a c (λ read unread. StopsAt OutOfMemory read unread ms)
without_room laws a b c held left m ms took next =
    let so = read_on laws a b c held next.0 ms took next.1 in
    of_input a c so.0 (λ read unread. StopsAt OutOfMemory read unread ms) so.1 (λ unread. laws.taken so.0 unread ms (held ++ next.0) so.2)

-- so many are taken
pub enough : Streams → (a b : Option (List ℕ)) (held : List ℕ) (ms : List Message) → TookFrom a b held ms → length ms ≡ MOST_MESSAGES → OfInput a b (λ read unread. StopsAt Enough read unread ms)
enough laws a b held ms took many = of_input a b took.0 (λ read unread. StopsAt Enough read unread ms) took.1 (λ unread. (held ++ unread, laws.stays took.0 unread ms held took.2, many))

behind : Streams → (a c : Option (List ℕ)) (held left : List ℕ) (m : Message) (ms : List Message) (stop : Stop) (step : Step) (sent : Bool) → TookFrom a c held ms → IsMessage held m left → IsBehind step sent m.last (Some stop)
    → OfInput a c (λ read unread. StopsAt stop read unread (ms ++ m ∷ []))
behind laws a c held left m ms AtLast step sent took next is =
    of_input a c took.0 (λ read unread. StopsAt AtLast read unread (ms ++ m ∷ [])) took.1 (λ unread. laws.last took.0 unread ms held m left took.2 next is.2)
behind laws a c held left m ms ClockFault step sent took next is =
    of_input a c took.0 (λ read unread. StopsAt ClockFault read unread (ms ++ m ∷ [])) took.1 (λ unread. laws.more took.0 unread ms held m left took.2 next)
behind laws a c held left m ms WriteFault step sent took next is =
    of_input a c took.0 (λ read unread. StopsAt WriteFault read unread (ms ++ m ∷ [])) took.1 (λ unread. laws.more took.0 unread ms held m left took.2 next)
behind laws a c held left m ms AtEnd step sent took next is = absurd is
behind laws a c held left m ms Cut step sent took next is = absurd is
behind laws a c held left m ms (Fault fault) step sent took next is = absurd is
behind laws a c held left m ms Enough step sent took next is = absurd is
behind laws a c held left m ms ReadFault step sent took next is = absurd is
behind laws a c held left m ms OutOfMemory step sent took next is = absurd is

-- the next one is the last that is answered
pub stops_behind : Streams → (a b c d : Option (List ℕ)) (held left : List ℕ) (m : Message) (ms : List Message) (stop : Stop) (step : Step) (sent : Bool) → TookFrom a b held ms → IsNextOf (Ok m) b c held left → d ≡ c
    → IsBehind step sent m.last (Some stop) → OfInput a d (λ read unread. StopsAt stop read unread (ms ++ m ∷ []))
stops_behind laws a b c d held left m ms stop step sent took next same is =
    behind laws a d (held ++ next.0) left m ms stop step sent (same_left a c d (held ++ next.0) ms same (read_on laws a b c held next.0 ms took next.1)) next.2 is

-- ---- where there is no next one, nothing else has failed

pub had_at : (stop : Stop) (left : Option (List ℕ)) (held : List ℕ) (steps : List Step) → LacksMessage stop left held → HadClock steps → ClockAt stop steps
had_at AtEnd left held steps lacks had = had
had_at Cut left held steps lacks had = had
had_at (Fault fault) left held steps lacks had = had
had_at ReadFault left held steps lacks had = had
had_at OutOfMemory left held steps lacks had = had
had_at AtLast left held steps lacks had = absurd lacks
had_at Enough left held steps lacks had = absurd lacks
had_at WriteFault left held steps lacks had = absurd lacks
had_at ClockFault left held steps lacks had = absurd lacks

wrote_as : (stop : Stop) (left : Option (List ℕ)) (held : List ℕ) (a b : Option (List ℕ)) (pieces : List (List ℕ)) → LacksMessage stop left held → WroteAt Done a b pieces → WroteAt (end_of stop) a b pieces
wrote_as AtEnd left held a b pieces lacks w = w
wrote_as Cut left held a b pieces lacks w = w
wrote_as (Fault fault) left held a b pieces lacks w = w
wrote_as ReadFault left held a b pieces lacks w = w
wrote_as OutOfMemory left held a b pieces lacks w = w
wrote_as AtLast left held a b pieces lacks w = absurd lacks
wrote_as Enough left held a b pieces lacks w = absurd lacks
wrote_as WriteFault left held a b pieces lacks w = absurd lacks
wrote_as ClockFault left held a b pieces lacks w = absurd lacks

-- over a line that took nothing since
pub wrote_so : (stop : Stop) (left later : Option (List ℕ)) (held : List ℕ) (a b c : Option (List ℕ)) → StopsWithout stop left later held → c ≡ b → (pieces : List (List ℕ)) → WroteAt Done a b pieces → WroteAt (end_of stop) a c pieces
wrote_so stop left later held a b c stops same pieces w =
    subst (λ x. WroteAt (end_of stop) a x pieces) (sym same) (wrote_as stop later (held ++ stops.0) a b pieces stops.2 w)

pub none_failed : (stop : Stop) (left : Option (List ℕ)) (held : List ℕ) → LacksMessage stop left held → failed_writes (end_of stop) ≡ 0
none_failed AtEnd left held lacks = refl
none_failed Cut left held lacks = refl
none_failed (Fault fault) left held lacks = refl
none_failed ReadFault left held lacks = refl
none_failed OutOfMemory left held lacks = refl
none_failed AtLast left held lacks = absurd lacks
none_failed Enough left held lacks = absurd lacks
none_failed WriteFault left held lacks = absurd lacks
none_failed ClockFault left held lacks = absurd lacks
