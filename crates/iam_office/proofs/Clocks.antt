-- Moments and faults of steps.
use Rattle.std.proofs.Common.{◌≡◌, ℕ, ◌+◌, ◌≤◌, List, [], ◌∷◌, ◌++◌, length, Some, None, inl, inr, subst, sym, ◌∙◌, ap, refl, arith, append_assoc, append-nil, length-append, zero-add}
use Rattle.std.specs.Prelude.{flat_map, sum_by}
use Rattle.std.specs.declared.option.Option.{Option}
use Rattle.std.proofs.lemmas.Grind.{flat_map-append}
use Rattle.std.proofs.lemmas.List.Sums.{sum_by-append}
use Rattle.iam_text.specs.declared.moment.Moment.{Moment}
use Rattle.iam_outer.specs.Causes.{Rose}
use Rattle.iam_outer.specs.Given.{AppendsMoments}
use Rattle.iam_outer.specs.declared.talk.Step.{Step}
use Rattle.iam_outer.specs.declared.talk.Step.TheVariants.{Plain, Served, NoClock, NoKeeper, NoMemory}
use Rattle.iam_types.specs.declared.answer.Answer.{Answer}
use Rattle.iam_types.specs.declared.answer.Answer.TheVariants.{Refused}
use Rattle.iam_types.specs.declared.refusal.Refusal.TheVariants.{FutureRevision}
use Rattle.iam_json.specs.declared.details.Details.{Details}
use Rattle.iam_office.specs.Replying.{IsShown, IsStopped, IsTimed, IsUnreached, SaysNoMemory, SaysPlainly}
use Rattle.iam_office.specs.Stops.{LostClock}
use Rattle.iam_office.specs.Turns.{Clocked, Rise, moments_of, keeper_faults_of, all_keeper_faults, clock_faults_of}
use Rattle.iam_office.specs.declared.floors.Unreached.{Unreached}
use Rattle.iam_office.specs.declared.floors.Unreached.TheVariants.{Ahead, OutOfMemory}
use Rattle.iam_office.specs.declared.office.WriteStop.{WriteStop}
use Rattle.iam_office.specs.declared.office.WriteStop.TheVariants.{KeeperFault as WriteFailed, OutOfMemory as WriteMemory}

-- ---- steps with a moment

timed_as : (moment : Moment) (step said : Step) → said ≡ step → IsTimed moment step → IsTimed moment said
timed_as moment step said is timed = subst (IsTimed moment) (sym is) timed

pub timed_no_memory : (moment : Moment) (said : Step) (bytes : List ℕ) → SaysNoMemory (Some moment) said bytes → IsTimed moment said
timed_no_memory moment said bytes says = timed_as moment (NoMemory None (Some moment)) said says.step (record { moments = refl; clock = refl })

pub timed_shown : (number : ℕ) (moment : Moment) (value : Answer) (said : Step) (bytes : List ℕ) → IsShown number moment value said bytes → IsTimed moment said
timed_shown number moment value said bytes shown = elim shown [
  | inl served ↦ timed_as moment (Served number moment) said served.0 (record { moments = refl; clock = refl })
  | inr (inl none) ↦ timed_no_memory moment said bytes none.1
  | inr (inr stored) ↦ timed_as moment (NoMemory (Some number) (Some moment)) said stored.1.step (record { moments = refl; clock = refl })
]

pub timed_stopped : (stop : WriteStop) (moment : Moment) (said : Step) (bytes : List ℕ) → IsStopped stop moment said bytes → IsTimed moment said
timed_stopped WriteFailed moment said bytes says = elim says [
  | inl failed ↦ timed_as moment (NoKeeper moment) said failed.0 (record { moments = refl; clock = refl })
  | inr none ↦ timed_no_memory moment said bytes none
]
timed_stopped (WriteMemory None) moment said bytes says = timed_no_memory moment said bytes says
timed_stopped (WriteMemory (Some number)) moment said bytes says = timed_as moment (NoMemory (Some number) (Some moment)) said says.step (record { moments = refl; clock = refl })

pub timed_unreached : (stop : Unreached) (moment : Moment) (said : Step) (bytes : List ℕ) → IsUnreached stop moment said bytes → IsTimed moment said
timed_unreached (Ahead asked known) moment said bytes says = timed_shown known moment (Refused (FutureRevision asked known)) said bytes says
timed_unreached OutOfMemory moment said bytes says = timed_no_memory moment said bytes says

-- ---- the clock of one step

one_moments : (step : Step) → flat_map moments_of (step ∷ []) ≡ moments_of step
one_moments step = append-nil (moments_of step)

one_clock : (step : Step) → sum_by clock_faults_of (step ∷ []) ≡ clock_faults_of step
one_clock step = simp zero-add

-- a step at a moment that the clock gave
pub clocked_timed : (given later : Option (List Moment)) (faults now : ℕ) (moment : Moment) (step : Step) → AppendsMoments given later (moment ∷ []) → faults ≤ now → IsTimed moment step → Clocked given later faults now (step ∷ [])
clocked_timed given later faults now moment step gave le timed = record {
  moments = subst (AppendsMoments given later) (sym (one_moments step ∙ timed.moments)) gave;
  failed = omega (arith, one_clock step, timed.clock, le);
}

no_moments : (given : Option (List Moment)) → AppendsMoments given given []
no_moments None = refl
no_moments (Some before) = sym (append-nil before)

-- a step for which the clock wasn't asked
clocked_unasked : (given : Option (List Moment)) (faults : ℕ) (step : Step) → moments_of step ≡ [] → clock_faults_of step ≡ 0 → Clocked given given faults faults (step ∷ [])
clocked_unasked given faults step none zero = record {
  moments = subst (AppendsMoments given given) (sym (one_moments step ∙ none)) (no_moments given);
  failed = omega (arith, one_clock step, zero);
}

pub clocked_no_memory : (given : Option (List Moment)) (faults : ℕ) (step : Step) (bytes : List ℕ) → SaysNoMemory None step bytes → Clocked given given faults faults (step ∷ [])
clocked_no_memory given faults step bytes says = clocked_unasked given faults step (ap moments_of says.step) (ap clock_faults_of says.step)

pub clocked_plainly : (given : Option (List Moment)) (faults : ℕ) (details : Details) (step : Step) (bytes : List ℕ) → SaysPlainly Plain details step bytes → Clocked given given faults faults (step ∷ [])
clocked_plainly given faults details step bytes says = elim says [
  | inl plain ↦ clocked_unasked given faults step (ap moments_of plain.0) (ap clock_faults_of plain.0)
  | inr none ↦ clocked_no_memory given faults step bytes none
]

-- a step for which the clock failed
clocked_lost : (given later : Option (List Moment)) (faults now : ℕ) (step : Step) → later ≡ given → Rose faults now → moments_of step ≡ [] → clock_faults_of step ≤ 1 → Clocked given later faults now (step ∷ [])
clocked_lost given later faults now step same rose none once = record {
  moments = subst (AppendsMoments given later) (sym (one_moments step ∙ none)) (subst (λ l. AppendsMoments given l []) (sym same) (no_moments given));
  failed = omega (arith, one_clock step, once, rose);
}

pub clocked_failed : (given later : Option (List Moment)) (faults now : ℕ) (details : Details) (step : Step) (bytes : List ℕ) → later ≡ given → Rose faults now → SaysPlainly NoClock details step bytes → Clocked given later faults now (step ∷ [])
clocked_failed given later faults now details step bytes same rose says = elim says [
  | inl plain ↦ clocked_lost given later faults now step same rose (ap moments_of plain.0) (omega (arith, ap clock_faults_of plain.0))
  | inr none ↦ clocked_lost given later faults now step same rose (ap moments_of none.step) (omega (arith, ap clock_faults_of none.step))
]

-- ---- of many

moments_on : (a b c : Option (List Moment)) (ms ns : List Moment) → AppendsMoments a b ms → AppendsMoments b c ns → AppendsMoments a c (ms ++ ns)
moments_on None None c ms ns p q = q
moments_on None (Some y) c ms ns p q = absurd (cc)
moments_on (Some x) None None ms ns p q = omega (arith, length-append ms ns)
moments_on (Some x) None (Some z) ms ns p q = absurd (cc)
moments_on (Some x) (Some y) None ms ns p q = omega (arith, length-append ms ns, ap length p, length-append x ms)
moments_on (Some x) (Some y) (Some z) ms ns p q = q ∙ ap (λ l. l ++ ns) p ∙ append_assoc x ms ns

pub clocked_on : (a b c : Option (List Moment)) (i j k : ℕ) (steps more : List Step) → Clocked a b i j steps → Clocked b c j k more → Clocked a c i k (steps ++ more)
clocked_on a b c i j k steps more p q = record {
  moments = subst (AppendsMoments a c) (sym (flat_map-append moments_of steps more)) (moments_on a b c _ _ p.moments q.moments);
  failed = omega (arith, sum_by-append clock_faults_of steps more, p.failed, q.failed);
}

pub clocked_none : (given : Option (List Moment)) (faults : ℕ) → Clocked given given faults faults []
clocked_none given faults = record { moments = no_moments given; failed = omega arith }

-- a step that has no moment and is no fault changes nothing
pub clocked_plain : (a b : Option (List Moment)) (i j : ℕ) (steps : List Step) → Clocked a b i j steps → Clocked a b i j (steps ++ Plain ∷ [])
clocked_plain a b i j steps p = clocked_on a b b i j j steps (Plain ∷ []) p (clocked_unasked b j Plain refl refl)

-- where the steps end with a clock's fault its count rose
pub lost_rose : (a b : Option (List Moment)) (i j : ℕ) (steps : List Step) → LostClock steps → Clocked a b i j steps → Rose i j
lost_rose a b i j steps lost p =
    let sum : sum_by clock_faults_of steps ≡ sum_by clock_faults_of lost.0 + sum_by clock_faults_of (NoClock ∷ []) = ap (sum_by clock_faults_of) lost.1 ∙ sum_by-append clock_faults_of lost.0 (NoClock ∷ []) in
    omega (arith, sum, one_clock NoClock, p.failed)

-- ---- the keeper's faults

pub rise_none : (step : Step) (a b : ℕ) → keeper_faults_of step ≡ 0 → a ≤ b → Rise (keeper_faults_of step) a b
rise_none step a b none le = omega (arith, none, le)

pub rise_shown : (number : ℕ) (moment : Moment) (value : Answer) (step : Step) (bytes : List ℕ) (a b : ℕ) → IsShown number moment value step bytes → a ≤ b → Rise (keeper_faults_of step) a b
rise_shown number moment value step bytes a b shown le = elim shown [
  | inl served ↦ rise_none step a b (ap keeper_faults_of served.0) le
  | inr (inl none) ↦ rise_none step a b (ap keeper_faults_of none.1.step) le
  | inr (inr stored) ↦ rise_none step a b (ap keeper_faults_of stored.1.step) le
]

pub rise_stopped : (stop : WriteStop) (moment : Moment) (step : Step) (bytes : List ℕ) (a b : ℕ) → IsStopped stop moment step bytes → a ≤ b → (stop ≡ WriteFailed → Rose a b) → Rise (keeper_faults_of step) a b
rise_stopped WriteFailed moment step bytes a b said le cause = elim said [
  | inl failed ↦ omega (arith, ap keeper_faults_of failed.0, cause refl)
  | inr none ↦ rise_none step a b (ap keeper_faults_of none.step) le
]
rise_stopped (WriteMemory None) moment step bytes a b said le cause = rise_none step a b (ap keeper_faults_of said.step) le
rise_stopped (WriteMemory (Some number)) moment step bytes a b said le cause = rise_none step a b (ap keeper_faults_of said.step) le

pub rise_unreached : (stop : Unreached) (moment : Moment) (step : Step) (bytes : List ℕ) (a b : ℕ) → IsUnreached stop moment step bytes → a ≤ b → Rise (keeper_faults_of step) a b
rise_unreached (Ahead asked known) moment step bytes a b says le = rise_shown known moment (Refused (FutureRevision asked known)) step bytes a b says le
rise_unreached OutOfMemory moment step bytes a b says le = rise_none step a b (ap keeper_faults_of says.step) le

-- behind a call in which the count didn't fall
pub rise_later : (many a b c : ℕ) → a ≤ b → Rise many b c → Rise many a c
rise_later many a b c le rise = omega (arith, le, rise)

pub rise_plainly : (step : Step) (details : Details) (said : Step) (bytes : List ℕ) (a : ℕ) → keeper_faults_of step ≡ 0 → SaysPlainly step details said bytes → Rise (keeper_faults_of said) a a
rise_plainly step details said bytes a none says = elim says [
  | inl plain ↦ rise_none said a a (ap keeper_faults_of plain.0 ∙ none) (omega arith)
  | inr short ↦ rise_none said a a (ap keeper_faults_of short.step) (omega arith)
]

pub rise_on : (steps : List Step) (step : Step) (a b c : ℕ) → Rise (all_keeper_faults steps) a b → Rise (keeper_faults_of step) b c → Rise (all_keeper_faults (steps ++ step ∷ [])) a c
rise_on steps step a b c p q =
    let one : all_keeper_faults (step ∷ []) ≡ keeper_faults_of step = simp zero-add in
    omega (arith, sum_by-append keeper_faults_of steps (step ∷ []), one, p, q)
