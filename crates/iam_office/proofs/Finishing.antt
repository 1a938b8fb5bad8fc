-- What is written behind the replies, and the conversation as a whole.
use Rattle.std.proofs.Common.{◌≡◌, ◌≢◌, ◌⊎◌, ℕ, ◌≤◌, List, [], ◌∷◌, ◌++◌, length, inl, inr, subst, sym, ◌∙◌, ap, refl, arith, append-nil}
use Rattle.std.specs.declared.option.Option.{Option}
use Rattle.std.specs.List.{concat}
use Rattle.std.specs.Io.KnownBytes.{Appends}
use Rattle.std.proofs.KnownBytes.{Appends-nil}
use Rattle.std.proofs.lemmas.List.{length-map}
use Rattle.iam_text.specs.declared.moment.Moment.{Moment}
use Rattle.iam_outer.specs.Causes.{Rose}
use Rattle.iam_outer.specs.declared.talk.Step.{Step}
use Rattle.iam_outer.specs.declared.talk.Step.TheVariants.{Plain}
use Rattle.iam_outer.specs.declared.talk.TalkEnd.{TalkEnd}
use Rattle.iam_outer.specs.declared.talk.TalkEnd.TheVariants as talk
use Rattle.iam_wire.specs.declared.fault.FrameFault.{FrameFault}
use Rattle.iam_wire.specs.declared.message.Message.{Message}
use Rattle.iam_answer.specs.Replies.{plain_reply, no_memory_reply}
use Rattle.iam_office.specs.Answering.{Answered, EndsWith, Finishes, Streams, StopsSo, failed_writes}
use Rattle.iam_office.specs.Stops.{ClockAt, Ends, HadClock, MOST_MESSAGES, StopsAt, end_of, frame_details, steps_behind, tail_of}
use Rattle.iam_office.specs.Talks.{OfInput, Talked, WroteAt}
use Rattle.iam_office.specs.Turns.{Clocked, Rise, Turn, all_keeper_faults, messages_of, replies_of, steps_of}
use Rattle.iam_office.specs.declared.stop.Stop.{Stop}
use Rattle.iam_office.specs.declared.stop.Stop.TheVariants.{AtEnd, AtLast, Cut, Fault, Enough, ReadFault, WriteFault, ClockFault, OutOfMemory}
use Rattle.iam_office.proofs.Clocks.{clocked_none, clocked_plain, lost_rose, rise_on}
use Rattle.iam_office.proofs.Going.{piece_cut, piece_whole}
use Rattle.iam_office.proofs.Streaming.{of_unread}

some_tail : (piece : List ℕ) → piece ∷ [] ≢ []
some_tail piece is = cc is

-- ---- behind the replies

-- the reply to a fault of the frame
pub frame_ends : (fault : FrameFault) (result : TalkEnd) (b c : Option (List ℕ)) (i j : ℕ) (steps now : List Step) → EndsWith talk.BadFrame (plain_reply (frame_details fault)) b c i j result → now ≡ steps ++ Plain ∷ []
    → Finishes (Fault fault) result b c steps now
frame_ends fault result b c i j steps now sent room = elim sent [
  | inl whole ↦ subst (λ r. Finishes (Fault fault) r b c steps now) (sym whole.0) (record {
    stopped = Fault fault;
    so = inl refl;
    ends = inl refl;
    written = λ first pieces w. piece_whole first b c pieces (plain_reply (frame_details fault)) w whole.1;
    traced = room;
  })
  | inr cut ↦ subst (λ r. Finishes (Fault fault) r b c steps now) (sym cut.0) (record {
    stopped = Fault fault;
    so = inl refl;
    ends = inr (some_tail (plain_reply (frame_details fault)), refl);
    written = λ first pieces w. piece_cut first b c pieces (plain_reply (frame_details fault)) w cut.1;
    traced = room;
  })
]

-- no memory
no_memory : (stop : Stop) (result : TalkEnd) (b c : Option (List ℕ)) (i j : ℕ) (steps now : List Step) → StopsSo stop OutOfMemory
    → ((first : Option (List ℕ)) (pieces : List (List ℕ)) → WroteAt (end_of stop) first b pieces → Appends first b (concat pieces))
    → EndsWith talk.OutOfMemory no_memory_reply b c i j result → now ≡ steps → Finishes stop result b c steps now
no_memory stop result b c i j steps now so up sent same = elim sent [
  | inl whole ↦ subst (λ r. Finishes stop r b c steps now) (sym whole.0) (record {
    stopped = OutOfMemory;
    so = so;
    ends = inl refl;
    written = λ first pieces w. piece_whole first b c pieces no_memory_reply (up first pieces w) whole.1;
    traced = same ∙ sym (append-nil steps);
  })
  | inr cut ↦ subst (λ r. Finishes stop r b c steps now) (sym cut.0) (record {
    stopped = OutOfMemory;
    so = so;
    ends = inr (some_tail no_memory_reply, refl);
    written = λ first pieces w. piece_cut first b c pieces no_memory_reply (up first pieces w) cut.1;
    traced = same ∙ sym (append-nil steps);
  })
]

pub memory_ends : (result : TalkEnd) (b c : Option (List ℕ)) (i j : ℕ) (steps now : List Step) → EndsWith talk.OutOfMemory no_memory_reply b c i j result → now ≡ steps → Finishes OutOfMemory result b c steps now
memory_ends result b c i j steps now sent same = no_memory OutOfMemory result b c i j steps now (inl refl) (λ first pieces w. w) sent same

pub frame_without_memory : (fault : FrameFault) (result : TalkEnd) (b c : Option (List ℕ)) (i j : ℕ) (steps now : List Step) → EndsWith talk.OutOfMemory no_memory_reply b c i j result → now ≡ steps
    → Finishes (Fault fault) result b c steps now
frame_without_memory fault result b c i j steps now sent same = no_memory (Fault fault) result b c i j steps now (inr (refl, (fault, refl))) (λ first pieces w. w) sent same

-- it is one of those behind which nothing is written
abbrev pub IsBare : Stop → Type 0
IsBare stop = (stop ≡ AtEnd) ⊎ ((stop ≡ AtLast) ⊎ ((stop ≡ Cut) ⊎ ((stop ≡ Enough) ⊎ ((stop ≡ ReadFault) ⊎ ((stop ≡ WriteFault) ⊎ (stop ≡ ClockFault))))))

bare_as : (stop other : Stop) → stop ≡ other → tail_of other ≡ [] → steps_behind other ≡ [] → (tail_of stop ≡ []) × (steps_behind stop ≡ [])
bare_as stop other is tail steps = (ap tail_of is ∙ tail, ap steps_behind is ∙ steps)

bare : (stop : Stop) → IsBare stop → (tail_of stop ≡ []) × (steps_behind stop ≡ [])
bare stop (inl is) = bare_as stop AtEnd is refl refl
bare stop (inr (inl is)) = bare_as stop AtLast is refl refl
bare stop (inr (inr (inl is))) = bare_as stop Cut is refl refl
bare stop (inr (inr (inr (inl is)))) = bare_as stop Enough is refl refl
bare stop (inr (inr (inr (inr (inl is))))) = bare_as stop ReadFault is refl refl
bare stop (inr (inr (inr (inr (inr (inl is)))))) = bare_as stop WriteFault is refl refl
bare stop (inr (inr (inr (inr (inr (inr is)))))) = bare_as stop ClockFault is refl refl

pub stays : (stop : Stop) (result : TalkEnd) (b : Option (List ℕ)) (steps : List Step) → IsBare stop → result ≡ end_of stop → Finishes stop result b b steps steps
stays stop result b steps is ends =
    let none = bare stop is in
    record {
      stopped = stop;
      so = inl refl;
      ends = inl ends;
      written = λ first pieces w.
          subst (λ t. WroteAt result first b (pieces ++ t)) (sym none.0) (subst (WroteAt result first b) (sym (append-nil pieces)) (subst (λ e. WroteAt e first b pieces) (sym ends) w));
      traced = subst (λ t. steps ≡ steps ++ t) (sym none.1) (sym (append-nil steps));
    }

-- how often writing failed in all
pub writes_on : (end result : TalkEnd) (piece : List ℕ) (b c : Option (List ℕ)) (i j first : ℕ) → failed_writes end ≡ 0 → EndsWith end piece b c i j result → Rise 0 first i → Rise (failed_writes result) first j
writes_on end result piece b c i j first none sent before = elim sent [
  | inl whole ↦ omega (arith, ap failed_writes whole.0, none, whole.2, before)
  | inr cut ↦ omega (arith, ap failed_writes cut.0, cut.2, before)
]

-- ---- the trace behind the replies

-- a step that has no moment and is no fault, or none
adds : (stop : Stop) → (steps_behind stop ≡ []) ⊎ (steps_behind stop ≡ Plain ∷ [])
adds (Fault fault) = inr refl
adds AtEnd = inl refl
adds AtLast = inl refl
adds Cut = inl refl
adds Enough = inl refl
adds ReadFault = inl refl
adds WriteFault = inl refl
adds ClockFault = inl refl
adds OutOfMemory = inl refl

-- what holds with and without such a step, holds of the trace
whole_trace : (P : List Step → Type 0) (stop : Stop) (steps trace : List Step) → trace ≡ steps ++ steps_behind stop → P steps → (P steps → P (steps ++ Plain ∷ [])) → P trace
whole_trace P stop steps trace is here more = elim (adds stop) [
  | inl none ↦ subst P (sym (is ∙ ap (λ s. steps ++ s) none ∙ append-nil steps)) here
  | inr one ↦ subst P (sym (is ∙ ap (λ s. steps ++ s) one)) (more here)
]

pub clocked_behind : {stop : Stop} {end : TalkEnd} {b c : Option (List ℕ)} {steps trace : List Step} (given later : Option (List Moment)) (i j : ℕ) → Finishes stop end b c steps trace → Clocked given later i j steps → Clocked given later i j trace
clocked_behind {stop} {end} {b} {c} {steps} {trace} given later i j finish p =
    whole_trace (Clocked given later i j) finish.stopped steps trace finish.traced p (λ q. clocked_plain given later i j steps q)

pub rise_behind : {stop : Stop} {end : TalkEnd} {b c : Option (List ℕ)} {steps trace : List Step} (i j : ℕ) → Finishes stop end b c steps trace → Rise (all_keeper_faults steps) i j → Rise (all_keeper_faults trace) i j
rise_behind {stop} {end} {b} {c} {steps} {trace} i j finish p =
    whole_trace (λ ss. Rise (all_keeper_faults ss) i j) finish.stopped steps trace finish.traced p (λ q. rise_on steps Plain i j j q (omega arith))

-- where the conversation ended before its first message
pub clocked_early : {stop : Stop} {end : TalkEnd} {b c : Option (List ℕ)} {steps trace : List Step} (given : Option (List Moment)) (i : ℕ) → steps ≡ [] → Finishes stop end b c steps trace → Clocked given given i i trace
clocked_early given i none finish = clocked_behind given given i i finish (subst (Clocked given given i i) (sym none) (clocked_none given i))

pub rise_early : {stop : Stop} {end : TalkEnd} {b c : Option (List ℕ)} {steps trace : List Step} (i : ℕ) → steps ≡ [] → Finishes stop end b c steps trace → Rise (all_keeper_faults trace) i i
rise_early i none finish = rise_behind i i finish (subst (λ ss. Rise (all_keeper_faults ss) i i) (sym none) (omega arith))

-- ---- why it ended so

pub write_rose : (end : TalkEnd) (a b : ℕ) → Rise (failed_writes end) a b → end ≡ talk.WriteFault → Rose a b
write_rose end a b rise is = omega (arith, ap failed_writes is, rise)

-- reading and the clock are what it stopped at
only_read : (stop : Stop) → end_of stop ≡ talk.ReadFault → stop ≡ ReadFault
only_read ReadFault is = refl
only_read AtEnd is = absurd (cc is)
only_read AtLast is = absurd (cc is)
only_read Cut is = absurd (cc is)
only_read (Fault fault) is = absurd (cc is)
only_read Enough is = absurd (cc is)
only_read WriteFault is = absurd (cc is)
only_read ClockFault is = absurd (cc is)
only_read OutOfMemory is = absurd (cc is)

only_clock : (stop : Stop) → end_of stop ≡ talk.ClockFault → stop ≡ ClockFault
only_clock ClockFault is = refl
only_clock AtEnd is = absurd (cc is)
only_clock AtLast is = absurd (cc is)
only_clock Cut is = absurd (cc is)
only_clock (Fault fault) is = absurd (cc is)
only_clock Enough is = absurd (cc is)
only_clock ReadFault is = absurd (cc is)
only_clock WriteFault is = absurd (cc is)
only_clock OutOfMemory is = absurd (cc is)

-- it stopped at what it ended by
stopped_at : (stop stopped other : Stop) (end : TalkEnd) → ((s : Stop) → end_of s ≡ end_of other → s ≡ other) → talk.WriteFault ≢ end_of other → OutOfMemory ≢ other → StopsSo stop stopped → Ends stopped end → end ≡ end_of other → stop ≡ other
stopped_at stop stopped other end only never apart so ends is = elim ends [
  | inl here ↦ elim so [
    | inl same ↦ sym same ∙ only stopped (sym here ∙ is)
    | inr memory ↦ absurd (apart (sym memory.0 ∙ only stopped (sym here ∙ is)))
  ]
  | inr cut ↦ absurd (never (sym cut.1 ∙ is))
]

pub read_stopped : {stop : Stop} {end : TalkEnd} {b c : Option (List ℕ)} {steps trace : List Step} → Finishes stop end b c steps trace → end ≡ talk.ReadFault → stop ≡ ReadFault
read_stopped {stop} {end} finish is = stopped_at stop finish.stopped ReadFault end only_read (λ e. cc e) (λ e. cc e) finish.so finish.ends is

pub clock_stopped : {stop : Stop} {end : TalkEnd} {b c : Option (List ℕ)} {steps trace : List Step} → Finishes stop end b c steps trace → end ≡ talk.ClockFault → stop ≡ ClockFault
clock_stopped {stop} {end} finish is = stopped_at stop finish.stopped ClockFault end only_clock (λ e. cc e) (λ e. cc e) finish.so finish.ends is

pub clock_rose : (stop : Stop) (given later : Option (List Moment)) (i j : ℕ) (steps : List Step) → ClockAt stop steps → Clocked given later i j steps → stop ≡ ClockFault → Rose i j
clock_rose stop given later i j steps at clocked is = lost_rose given later i j steps (subst (λ s. ClockAt s steps) is at) clocked

-- ---- the whole

found_so : Streams → (stop stopped : Stop) (read unread : List ℕ) (ms : List Message) → StopsSo stop stopped → StopsAt stop read unread ms → StopsAt stopped read unread ms
found_so laws stop stopped read unread ms so found = elim so [
  | inl same ↦ subst (λ s. StopsAt s read unread ms) (sym same) found
  | inr memory ↦ subst (λ s. StopsAt s read unread ms) (sym memory.0) (laws.all (read ++ unread) ms _ (subst (λ s. StopsAt s read unread ms) memory.1.1 found).0)
]

clock_so : (stop stopped : Stop) (steps : List Step) → StopsSo stop stopped → ClockAt stop steps → ClockAt stopped steps
clock_so stop stopped steps so at = elim so [
  | inl same ↦ subst (λ s. ClockAt s steps) (sym same) at
  | inr memory ↦ subst (λ s. ClockAt s steps) (sym memory.0) (subst (λ s. ClockAt s steps) memory.1.1 at)
]

same_length : (turns : List Turn) (steps : List Step) → steps ≡ steps_of turns → length turns ≡ length steps
same_length turns steps are = sym (ap length are ∙ length-map turns (λ (turn : Turn). turn.step))

pub talked : (laws : Streams) (Told : List Turn → Type 0) (a b c : Option (List ℕ)) (left later behind : Option (List ℕ)) (stop : Stop) (end : TalkEnd) (steps trace : List Step) →
    Answered Told (WroteAt (end_of stop) a b) (λ ms. OfInput left later (λ read unread. StopsAt stop read unread ms)) steps → ClockAt stop steps → length steps ≤ MOST_MESSAGES → Finishes stop end b c steps trace → behind ≡ later
    → OfInput left behind (λ read unread. Talked Told a c read unread end trace)
talked laws Told a b c left later behind stop end steps trace x at most finish same =
    subst (λ now. OfInput left now (λ read unread. Talked Told a c read unread end trace)) (sym same) (
      x.found.0,
      x.found.1,
      x.found.2,
      x.found.3,
      record {
        turns = x.turns;
        stop = finish.stopped;
        told = x.told;
        found = found_so laws stop finish.stopped x.found.0 x.found.1 (messages_of x.turns) finish.so x.found.4;
        clock = subst (ClockAt finish.stopped) x.steps_are (clock_so stop finish.stopped steps finish.so at);
        most = omega (arith, same_length x.turns steps x.steps_are, most);
        ends = finish.ends;
        written = finish.written a (replies_of x.turns) x.written;
        traced = finish.traced ∙ ap (λ ss. ss ++ steps_behind finish.stopped) x.steps_are;
      },
    )

-- no message was answered, and nothing was read
pub talked_none : (laws : Streams) (Told : List Turn → Type 0) (a b : Option (List ℕ)) (left later : Option (List ℕ)) (end : TalkEnd) (steps trace : List Step) → Told [] → HadClock [] → steps ≡ [] → Finishes OutOfMemory end a b steps trace → later ≡ left
    → OfInput left later (λ read unread. Talked Told a b read unread end trace)
talked_none laws Told a b left later end steps trace told had none finish same =
    of_unread left later (λ read unread. Talked Told a b read unread end trace) same (λ unread. record {
      turns = [];
      stop = finish.stopped;
      told = told;
      found = found_so laws OutOfMemory finish.stopped [] unread [] finish.so tt;
      clock = clock_so OutOfMemory finish.stopped [] finish.so had;
      most = omega arith;
      ends = finish.ends;
      written = finish.written a [] (Appends-nil a);
      traced = finish.traced ∙ ap (λ ss. ss ++ steps_behind finish.stopped) none;
    })
