-- What an office of one conversation tells.
use Rattle.std.proofs.Common.{◌≡◌, ℕ, ◌+◌, ◌-◌, ◌<◌, ◌≤◌, true, IsTrue, List, [], ◌∷◌, ◌++◌, length, Some, None, inl, inr, subst, sym, ◌∙◌, ap, refl, arith, append-nil, length-append}
use Rattle.std.specs.Prelude.{Ok, Err, IsErr}
use Rattle.std.specs.declared.result.Result.{Result}
use Rattle.std.proofs.lemmas.List.{take-append-le, take_all}
use Rattle.iam_text.specs.declared.moment.Moment.{Moment}
use Rattle.iam_names.specs.declared.caller.Caller.{Caller}
use Rattle.iam_types.specs.declared.answer.Answer.{Answer}
use Rattle.iam_types.specs.declared.answer.Answer.TheVariants.{Refused}
use Rattle.iam_types.specs.declared.ask.Ask.{Ask}
use Rattle.iam_types.specs.declared.command.Command.{Command}
use Rattle.iam_types.specs.declared.command.Entry.{Entry}
use Rattle.iam_types.specs.declared.refusal.Refusal.{Refusal}
use Rattle.iam_types.specs.declared.tables.Tables.{Tables}
use Rattle.iam_law.specs.Admit.{admission}
use Rattle.iam_model.specs.Commands.{IsEntry, after}
use Rattle.iam_law.specs.Good.{Good}
use Rattle.iam_law.specs.History.{state}
use Rattle.iam_answer.specs.Answer.{accepts, answer_of, written_answer}
use Rattle.iam_office.specs.Office.{FloorTold, Leads, Number, ReadTold, WriteTold, first, Judged, JudgedAlone, IsStoredAt, StoredAlone, accepted_by, gained, verdict}
use Rattle.iam_office.specs.declared.office.FloorStop.TheVariants.{Ahead}
use Rattle.iam_office.specs.declared.office.Numbered.{Numbered}
use Rattle.iam_office.specs.declared.office.WriteStop.{WriteStop}
use Rattle.iam_office.specs.declared.office.WriteStop.TheVariants.{KeeperFault, OutOfMemory}
use Rattle.iam_lone.specs.Histories.{Histories}
use Rattle.iam_lone.specs.Lone.{Alone, StandsAt, StandsFor, IsFailed, IsJudged, IsKept, IsRefused, IsUnjudged, current, taken_up}
use Rattle.iam_lone.proofs.Waiting.{none_current}

number_after : (t : Tables) (h more : List Entry) → Number t (h ++ more) ≡ Number t h + length more
number_after t h more = omega (arith, length-append h more)

abbrev pub none : List Entry
none = []

abbrev pub told_result : Type 0
told_result = Result (Numbered Answer) WriteStop

-- the history stays
stays : (now : Tables) (Q : Tables → List Entry → List Entry → Type 0) → ((t : Tables) (h : List Entry) → StandsAt now t h → Q t h []) → Leads StandsAt now now Q
stays now Q q t h s = ([], subst (StandsAt now t) (sym (append-nil h)) s, q t h s)

number_is : Histories → (now t : Tables) (h : List Entry) → StandsAt now t h → now.org.changes ≡ Number t h
number_is laws now t h s = ap (λ (x : Tables). x.org.changes) (sym s.1) ∙ laws.counted t h s.0

-- ---- floors and reads

floor_reached : Histories → (now : Tables) (known floor : ℕ) → known ≡ now.org.changes → floor ≤ known → (t : Tables) (h : List Entry) → StandsAt now t h → (floor ≤ Number t (h ++ none)) × (IsTrue true → (none ≡ []) × (floor ≤ (state t h).org.changes))
floor_reached laws now known floor at le t h s = (omega (arith, at, number_is laws now t h s, number_after t h []), λ u. (refl, omega (arith, at, le, ap (λ (x : Tables). x.org.changes) s.1)))

floor_ahead : Histories → (now : Tables) (known floor : ℕ) → known ≡ now.org.changes → known < floor → (t : Tables) (h : List Entry) → StandsAt now t h →
    (known < floor) × (Number t h < floor) × (t.org.changes ≤ known) × (known ≤ Number t (h ++ none)) × (IsTrue true → (none ≡ []) × (known ≡ (state t h).org.changes))
floor_ahead laws now known floor at lt t h s =
    let is = number_is laws now t h s in
    (lt, omega (arith, at, is), omega (arith, at, is), omega (arith, at, is, number_after t h []), λ u. (refl, at ∙ ap (λ (x : Tables). x.org.changes) (sym s.1)))

read_told : Histories → (now : Tables) (ask : Ask) (caller : Caller) (moment : Moment) (number : ℕ) (value : Answer) → number ≡ now.org.changes → value ≡ answer_of now ask caller moment → (t : Tables) (h : List Entry) → StandsAt now t h →
    (number ≡ Number t (h ++ none)) × (value ≡ answer_of (state t (h ++ none)) ask caller moment) × (IsTrue true → (none ≡ []) × (number ≡ (state t h).org.changes))
read_told laws now ask caller moment number value at is t h s = (
  at ∙ number_is laws now t h s ∙ ap (Number t) (sym (append-nil h)),
  is ∙ ap (λ x. answer_of x ask caller moment) (sym s.1 ∙ ap (state t) (sym (append-nil h))),
  λ u. (refl, at ∙ ap (λ (x : Tables). x.org.changes) (sym s.1)),
)

-- ---- writes

-- the first entries up to the number of the whole history
first_all : (t : Tables) (h : List Entry) (n : ℕ) → n ≡ Number t h → first t n h ≡ h
first_all t h n is = take_all _ _ (omega arith)

-- the history gains an accepted entry
gains : Histories → (now new : Tables) (e : Entry) (Q : Tables → List Entry → List Entry → Type 0) → IsEntry e → admission now e ≡ None → new ≡ after now e →
    ((t : Tables) (h : List Entry) → StandsAt now t h → Q t h (e ∷ [])) → Leads StandsAt now new Q
gains laws now new e Q formed admitted is q t h s =
    let accepted : admission (state t h) e ≡ None = ap (λ x. admission x e) s.1 ∙ admitted in
    (e ∷ [], (laws.legal t h e s.0 formed accepted, laws.grown t h e ∙ ap (λ x. after x e) s.1 ∙ sym is), q t h s)

refused_told : Histories → (now : Tables) (e : Entry) (a : Numbered Answer) (r : Refusal) → a.number ≡ now.org.changes → admission now e ≡ Some r → a.value ≡ Refused r → (t : Tables) (h : List Entry) → StandsAt now t h →
    WriteTold true e (Ok a) t h []
unfolding Judged JudgedAlone
refused_told laws now e a r at refused is t h s =
    let number : a.number ≡ Number t (h ++ none) = at ∙ number_is laws now t h s ∙ ap (Number t) (sym (append-nil h)) in
    let judged : admission (state t h) e ≡ Some r = ap (λ x. admission x e) s.1 ∙ refused in
    let whole : first t a.number (h ++ none) ≡ h = first_all t (h ++ none) a.number number ∙ append-nil h in (
      omega (arith, number),
      omega (arith, number),
      inl (r, ap (λ k. admission (state t k) e) whole ∙ judged, is),
      λ u. (ap (λ j. gained j e) (sym judged), at ∙ ap (λ (x : Tables). x.org.changes) (sym s.1), is ∙ ap (λ j. verdict j (state t h) e) (sym judged)),
    )

-- the state behind an accepted entry, and its number
state_behind : Histories → (now new t : Tables) (e : Entry) (h : List Entry) → new ≡ after now e → StandsAt now t h → state t (h ++ e ∷ []) ≡ new
state_behind laws now new t e h is s = laws.grown t h e ∙ ap (λ x. after x e) s.1 ∙ sym is

after_state : (now new t : Tables) (e : Entry) (h : List Entry) → new ≡ after now e → StandsAt now t h → new ≡ after (state t h) e
after_state now new t e h is s = is ∙ ap (λ x. after x e) (sym s.1)

number_behind : Histories → (now new t : Tables) (e : Entry) (h : List Entry) (n : ℕ) → IsEntry e → admission now e ≡ None → new ≡ after now e → n ≡ new.org.changes → StandsAt now t h → n ≡ Number t (h ++ e ∷ [])
number_behind laws now new t e h n formed admitted is at s =
    let accepted : admission (state t h) e ≡ None = ap (λ x. admission x e) s.1 ∙ admitted in
    at ∙ ap (λ (x : Tables). x.org.changes) (sym (state_behind laws now new t e h is s)) ∙ laws.counted t (h ++ e ∷ []) (laws.legal t h e s.0 formed accepted)

accepted_told : Histories → (now new : Tables) (e : Entry) (a : Numbered Answer) → IsEntry e → admission now e ≡ None → new ≡ after now e → a.number ≡ new.org.changes → a.value ≡ written_answer now new e.command → (t : Tables) (h : List Entry) → StandsAt now t h →
    WriteTold true e (Ok a) t h (e ∷ [])
unfolding Judged JudgedAlone
accepted_told laws now new e a formed admitted is at value t h s =
    let number : a.number ≡ Number t (h ++ e ∷ []) = number_behind laws now new t e h a.number formed admitted is at s in
    let judged : admission (state t h) e ≡ None = ap (λ x. admission x e) s.1 ∙ admitted in
    let whole : first t a.number (h ++ e ∷ []) ≡ h ++ e ∷ [] = first_all t (h ++ e ∷ []) a.number number in
    let later : new ≡ after (state t h) e = after_state now new t e h is s in
    let answer : a.value ≡ written_answer (state t h) new e.command = value ∙ ap (λ x. written_answer x new e.command) (sym s.1) in (
      omega (arith, number),
      omega (arith, number),
      inr (h, whole, judged, answer ∙ ap (λ x. written_answer (state t h) x e.command) (sym (state_behind laws now new t e h is s) ∙ ap (state t) (sym whole))),
      λ u. (
        ap (λ j. gained j e) (sym judged),
        at ∙ ap (λ (x : Tables). x.org.changes) later,
        answer ∙ ap (λ x. written_answer (state t h) x e.command) later ∙ ap (λ j. verdict j (state t h) e) (sym judged),
      ),
    )

stored_told : Histories → (now new : Tables) (e : Entry) (n : ℕ) → IsEntry e → admission now e ≡ None → new ≡ after now e → n ≡ new.org.changes → (t : Tables) (h : List Entry) → StandsAt now t h →
    IsStoredAt t (h ++ e ∷ []) n e × (IsTrue true → StoredAlone (state t h) e n (e ∷ []))
unfolding IsStoredAt StoredAlone
stored_told laws now new e n formed admitted is at t h s =
    let number : n ≡ Number t (h ++ e ∷ []) = number_behind laws now new t e h n formed admitted is at s in
    let judged : admission (state t h) e ≡ None = ap (λ x. admission x e) s.1 ∙ admitted in
    let grown = number_after t h (e ∷ []) in
    let shorter : first t (n - 1) (h ++ e ∷ []) ≡ h = take-append-le _ h (e ∷ []) (omega (arith, number, grown)) ∙ take_all _ h (omega (arith, number, grown)) in (
      (omega (arith, number, grown), omega (arith, number), ap (λ k. admission (state t k) e) shorter ∙ judged),
      λ u. (judged, refl, at ∙ ap (λ (x : Tables). x.org.changes) (after_state now new t e h is s)),
    )

kept_told : Histories → (now new : Tables) (e : Entry) (result : told_result) → IsEntry e → IsKept now new e result → Leads StandsAt now new (WriteTold true e result)
kept_told laws now new e result formed kept = elim kept.2 [
  | inl answered ↦ subst (λ r. Leads StandsAt now new (WriteTold true e r)) (sym answered)
      (gains laws now new e _ formed kept.0 kept.1 (accepted_told laws now new e (record { number = new.org.changes; value = written_answer now new e.command }) formed kept.0 kept.1 refl refl))
  | inr stored ↦ subst (λ r. Leads StandsAt now new (WriteTold true e r)) (sym stored)
      (gains laws now new e _ formed kept.0 kept.1 (stored_told laws now new e new.org.changes formed kept.0 kept.1 refl))
]

-- a write that adds nothing
unmade : (now new : Tables) (e : Entry) (result other : told_result) → new ≡ now → result ≡ other → ((t : Tables) (h : List Entry) → StandsAt now t h → WriteTold true e other t h []) → Leads StandsAt now new (WriteTold true e result)
unmade now new e result other same is told =
    subst (λ r. Leads StandsAt now new (WriteTold true e r)) (sym is) (subst (λ x. Leads StandsAt now x (WriteTold true e other)) (sym same) (stays now _ told))

refused_leads : Histories → (now new : Tables) (e : Entry) (result : told_result) → IsRefused now new e result → Leads StandsAt now new (WriteTold true e result)
refused_leads laws now new e result is =
    unmade now new e result (Ok (record { number = now.org.changes; value = Refused is.0 })) is.2 is.3 (refused_told laws now e (record { number = now.org.changes; value = Refused is.0 }) is.0 refl is.1 refl)

failed_leads : (now new : Tables) (e : Entry) (result : told_result) → IsFailed now new e result → Leads StandsAt now new (WriteTold true e result)
failed_leads now new e result is = unmade now new e result (Err KeeperFault) is.1 is.2 (λ t h s u. (refl, ap (λ x. admission x e) s.1 ∙ is.0))

unjudged_leads : (now new : Tables) (e : Entry) (result : told_result) → IsUnjudged now new result → Leads StandsAt now new (WriteTold true e result)
unjudged_leads now new e result is = unmade now new e result (Err (OutOfMemory None)) is.0 is.1 (λ t h s u. refl)

pub judged_told : Histories → (now new : Tables) (e : Entry) (result : told_result) → IsEntry e → IsJudged now new e result → Leads StandsAt now new (WriteTold true e result)
unfolding IsJudged
judged_told laws now new e result formed judged = elim judged [
  | inl is ↦ refused_leads laws now new e result is
  | inr (inl is) ↦ kept_told laws now new e result formed is
  | inr (inr (inl is)) ↦ failed_leads now new e result is
  | inr (inr (inr is)) ↦ unjudged_leads now new e result is
]

-- ---- the count of accepted writes

-- the answer to a write that was made counts as one
abbrev pub CountsOne : Type 0
CountsOne = (before later : Tables) (command : Command) → accepts (written_answer before later command) ≡ 1

-- nothing changed, and no write was accepted
same_count : (now new : Tables) (result other : told_result) → new ≡ now → result ≡ other → accepted_by other ≡ 0 → new.org.changes ≡ now.org.changes + accepted_by result
same_count now new result other same is nothing = omega (arith, ap (λ (x : Tables). x.org.changes) same, ap accepted_by is, nothing)

kept_one : CountsOne → (now new : Tables) (e : Entry) (result : told_result) → IsKept now new e result → accepted_by result ≡ 1
kept_one one now new e result kept = elim kept.2 [
  | inl answered ↦ ap accepted_by answered ∙ one now new e.command
  | inr stored ↦ ap accepted_by stored
]

kept_count : Histories → CountsOne → (now new : Tables) (e : Entry) (result : told_result) → Good now → IsEntry e → IsKept now new e result → new.org.changes ≡ now.org.changes + accepted_by result
kept_count laws one now new e result good formed kept =
    omega (arith, ap (λ (x : Tables). x.org.changes) kept.1, laws.counted now (e ∷ []) (good, (formed, kept.0, tt)), kept_one one now new e result kept)

pub judged_counted : Histories → CountsOne → (now new : Tables) (e : Entry) (result : told_result) → Good now → IsEntry e → IsJudged now new e result → new.org.changes ≡ now.org.changes + accepted_by result
unfolding IsJudged
judged_counted laws one now new e result good formed judged = elim judged [
  | inl is ↦ same_count now new result _ is.2 is.3 refl
  | inr (inl is) ↦ kept_count laws one now new e result good formed is
  | inr (inr (inl is)) ↦ same_count now new result _ is.1 is.2 refl
  | inr (inr (inr is)) ↦ same_count now new result _ is.0 is.1 refl
]

-- ---- over the office

refused_judged : {P : Type 0} (lone : Alone P) (e : Entry) (number : ℕ) (refusal : Refusal) → lone.waiting ≡ None → number ≡ lone.tables.org.changes → admission lone.tables e ≡ Some refusal →
    IsJudged lone.tables lone.tables e (Ok (record { number = number; value = Refused refusal }))
unfolding IsJudged
refused_judged lone e number refusal none at refused = inl (refusal, refused, refl, ap (λ n. Ok (record { number = n; value = Refused refusal })) at)

pub refused_here : {P : Type 0} (lone : Alone P) (e : Entry) (number : ℕ) (refusal : Refusal) → lone.waiting ≡ None → number ≡ lone.tables.org.changes → admission lone.tables e ≡ Some refusal →
    IsJudged (current lone) (current lone) e (Ok (record { number = number; value = Refused refusal }))
refused_here lone e number refusal none at refused =
    subst (λ t. IsJudged t t e (Ok (record { number = number; value = Refused refusal }))) (sym (none_current lone none)) (refused_judged lone e number refusal none at refused)

-- what it stands for stays
stays_at : {P : Type 0} (old new : Alone P) (Q : Tables → List Entry → List Entry → Type 0) → new ≡ taken_up old → ((t : Tables) (h : List Entry) → StandsFor old t h → Q t h []) → Leads StandsFor old new Q
stays_at old new Q is told = subst (λ now. Leads StandsAt (current old) now Q) (sym (ap current is)) (stays (current old) Q told)

abbrev changes_of : {P : Type 0} → Alone P → ℕ
changes_of lone = lone.tables.org.changes

pub ahead_here : {P : Type 0} (T : Type 0) (laws : Histories) (old new : Alone P) (known floor : ℕ) → new ≡ taken_up old → known ≡ new.tables.org.changes → known < floor → Leads StandsFor old new (FloorTold {T = T} true floor (Err (Ahead known)))
ahead_here {P} T laws old new known floor is at less = stays_at old new _ is (floor_ahead laws (current old) known floor (at ∙ ap changes_of is) less)

pub reached_here : {P T : Type 0} (laws : Histories) (old new : Alone P) (known floor : ℕ) (done : T) → new ≡ taken_up old → known ≡ new.tables.org.changes → floor ≤ known → Leads StandsFor old new (FloorTold true floor (Ok done))
reached_here {P} laws old new known floor done is at within = stays_at old new _ is (floor_reached laws (current old) known floor (at ∙ ap changes_of is) within)

pub read_here : {P : Type 0} (E : Type 0) (laws : Histories) (old new : Alone P) (ask : Ask) (caller : Caller) (moment : Moment) (number : ℕ) (value : Answer) → new ≡ taken_up old → number ≡ new.tables.org.changes → value ≡ answer_of new.tables ask caller moment →
    Leads StandsFor old new (ReadTold {E = E} true ask caller moment (Ok (record { number = number; value = value })))
read_here {P} E laws old new ask caller moment number value is at told =
    stays_at old new _ is (read_told laws (current old) ask caller moment number value (at ∙ ap changes_of is) (told ∙ ap (λ (l : Alone P). answer_of l.tables ask caller moment) is))

pub unread_here : {P E : Type 0} (old new : Alone P) (ask : Ask) (caller : Caller) (moment : Moment) (result : Result (Numbered Answer) E) → new ≡ taken_up old → IsErr result → Leads StandsFor old new (ReadTold true ask caller moment result)
unread_here old new ask caller moment (Ok a) is err = absurd (cc)
unread_here old new ask caller moment (Err stop) is err = stays_at old new _ is (λ t h s u. refl)
