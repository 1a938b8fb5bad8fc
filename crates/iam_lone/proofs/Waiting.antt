-- The entry that waits, and the one that is kept.
use Rattle.std.proofs.Common.{◌≡◌, ◌∙◌, ℕ, ◌+◌, List, Some, None, inl, inr, refl, sym, ap, subst, arith}
use Rattle.std.specs.Prelude.{◌⊎◌, Ok, Err, OnOk, OnErr, IfSome}
use Rattle.std.specs.declared.option.Option.{Option}
use Rattle.std.specs.declared.result.Result.{Result}
use Rattle.iam_outer.specs.declared.keeper.Row.{Row}
use Rattle.iam_types.specs.declared.answer.Answer.{Answer}
use Rattle.iam_types.specs.declared.command.Entry.{Entry}
use Rattle.iam_types.specs.declared.fact.FactChange.{FactChange}
use Rattle.iam_types.specs.declared.tables.Tables.{Tables}
use Rattle.iam_model.specs.Commands.{IsEntry, after}
use Rattle.iam_model.specs.Facts.{facts_of, with_changes}
use Rattle.iam_admit.specs.Facts.{LeadTo}
use Rattle.iam_law.specs.Admit.{admission}
use Rattle.iam_law.specs.Good.{Good}
use Rattle.iam_answer.specs.Answer.{written_answer}
use Rattle.iam_rows.specs.Kept.{AreRows, KeepsTables}
use Rattle.iam_office.specs.declared.office.Numbered.{Numbered}
use Rattle.iam_office.specs.declared.office.WriteStop.{WriteStop}
use Rattle.iam_office.specs.declared.office.WriteStop.TheVariants.{KeeperFault, OutOfMemory}
use Rattle.iam_lone.specs.Lone.{Alone, IsJudged, IsKept, IsWaiting, current, waits, with_waiting}

-- ---- the tables with the entry that waits

abbrev pub KeepGood : Type 0
KeepGood = (t : Tables) (e : Entry) → Good t → IsEntry e → admission t e ≡ None → Good (after t e)

abbrev pub CountOne : Type 0
CountOne = (t : Tables) (e : Entry) → Good t → IsEntry e → admission t e ≡ None → (after t e).org.changes ≡ t.org.changes + 1

pub good_waiting : KeepGood → (t : Tables) (w : Option Entry) → Good t → IsWaiting t w → Good (with_waiting t w)
good_waiting keep t None good waiting = good
good_waiting keep t (Some e) good waiting = keep t e good waiting.0 waiting.1

pub counted_waiting : CountOne → (t : Tables) (w : Option Entry) → Good t → IsWaiting t w → (with_waiting t w).org.changes ≡ t.org.changes + waits w
counted_waiting count t None good waiting = omega arith
counted_waiting count t (Some e) good waiting = count t e good waiting.0 waiting.1

-- over the end of a call that takes up
pub advanced_waits : {A E : Type 0} (t now : Tables) (w next : Option Entry) (result : Result A E) → OnOk result ((now ≡ with_waiting t w) × (next ≡ None)) → OnErr result ((now ≡ t) × (next ≡ w)) → IsWaiting t w → IsWaiting now next
advanced_waits t now w next (Ok done) ok err waiting = subst (IsWaiting now) (sym ok.1) tt
advanced_waits t now w next (Err stop) ok err waiting = subst (λ x. IsWaiting x next) (sym err.0) (subst (IsWaiting t) (sym err.1) waiting)

pub advanced_same : {A E : Type 0} (t now : Tables) (w next : Option Entry) (result : Result A E) → OnOk result ((now ≡ with_waiting t w) × (next ≡ None)) → OnErr result ((now ≡ t) × (next ≡ w)) → with_waiting now next ≡ with_waiting t w
advanced_same t now w next (Ok done) ok err = ap (with_waiting now) ok.1 ∙ ok.0
advanced_same t now w next (Err stop) ok err = ap (λ x. with_waiting x next) err.0 ∙ ap (with_waiting t) err.1

-- ---- an entry that is kept

-- it is taken up
pub kept_now : (old index : Tables) (w : Option Entry) (e : Entry) (result : Result (Numbered Answer) WriteStop) → admission old e ≡ None → w ≡ None → index ≡ after old e
    → ((before : Tables) → (result ≡ Ok (record { number = index.org.changes; value = written_answer before index e.command })) ⊎ (result ≡ Err (OutOfMemory (Some index.org.changes))))
    → IsKept old (with_waiting index w) e result
kept_now old index w e result admitted none is told = subst (λ x. IsKept old (with_waiting index x) e result) (sym none) (admitted, is, told old)

-- it waits
pub kept_waits : (old index : Tables) (w : Option Entry) (e : Entry) (number : ℕ) → admission old e ≡ None → w ≡ Some e → index ≡ old → number ≡ old.org.changes + 1 → (after old e).org.changes ≡ old.org.changes + 1
    → IsKept old (with_waiting index w) e (Err (OutOfMemory (Some number)))
kept_waits old index w e number admitted some same at counted =
    let now : after index e ≡ after old e = ap (λ t. after t e) same in
    subst (λ x. IsKept old (with_waiting index x) e (Err (OutOfMemory (Some number)))) (sym some)
    (admitted, now, inr (ap (λ n. Err (OutOfMemory (Some n))) (at ∙ sym counted ∙ ap (λ (t : Tables). t.org.changes) (sym now))))

pub waits_now : (old index : Tables) (w : Option Entry) (e : Entry) → IsEntry e → admission old e ≡ None → w ≡ Some e → index ≡ old → IsWaiting index w
waits_now old index w e formed admitted some same = subst (IsWaiting index) (sym some) (formed, subst (λ t. admission t e ≡ None) (sym same) admitted)

pub none_waits : (index : Tables) (w : Option Entry) → w ≡ None → IsWaiting index w
none_waits index w none = subst (IsWaiting index) (sym none) tt

-- the keeper's rows then
pub rows_after : (before now : Option (List Row)) (t new : Tables) (e : Entry) (changes : List FactChange) →
    (IfSome before (AreRows (facts_of t)) → IfSome now (AreRows (with_changes (facts_of t) changes))) → LeadTo t e changes → KeepsTables before t → new ≡ after t e → KeepsTables now new
rows_after before now t new e changes kept lead had is = subst (KeepsTables now) (sym is) (subst (λ facts. IfSome now (AreRows facts)) lead (kept had))

-- ---- what comes of an entry, by its case

pub as_kept : (old new : Tables) (e : Entry) (result : Result (Numbered Answer) WriteStop) → IsKept old new e result → IsJudged old new e result
unfolding IsJudged
as_kept old new e result kept = inr (inl kept)

pub as_failed : (old new : Tables) (e : Entry) → admission old e ≡ None → new ≡ old → IsJudged old new e (Err KeeperFault)
unfolding IsJudged
as_failed old new e admitted same = inr (inr (inl (admitted, same, refl)))

pub as_unjudged : (old new : Tables) (e : Entry) → new ≡ old → IsJudged old new e (Err (OutOfMemory None))
unfolding IsJudged
as_unjudged old new e same = inr (inr (inr (same, refl)))

-- once an entry is kept, the keeper has not failed
pub kept_is_no_fault : (old new : Tables) (e : Entry) (result : Result (Numbered Answer) WriteStop) → IsKept old new e result → result ≡ Err KeeperFault → ⊥
kept_is_no_fault old new e result kept is = elim kept.2 [
  | inl answered ↦ let both = sym answered ∙ is in cc both
  | inr stored ↦ let both = sym stored ∙ is in cc both
]

-- no entry waits
pub none_current : {P : Type 0} (lone : Alone P) → lone.waiting ≡ None → current lone ≡ lone.tables
none_current lone none = ap (with_waiting lone.tables) none

pub judged_here : {P : Type 0} (lone : Alone P) (new : Tables) (e : Entry) (result : Result (Numbered Answer) WriteStop) → lone.waiting ≡ None → IsJudged lone.tables new e result → IsJudged (current lone) new e result
judged_here lone new e result none judged = subst (λ t. IsJudged t new e result) (sym (none_current lone none)) judged
