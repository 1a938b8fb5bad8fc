-- A tree comes to at most one outcome in a setting.
use Rattle.std.proofs.Common.{◌≡◌, ℕ, ◌+◌, ◌-◌, ◌/◌, ◌%◌, ℤ, pos, Bool, true, false, not, cond, ◌||◌, List, ◌∷◌, Result, Ok, Err, refl, sym, ap, ◌∙◌, subst, ◌+ℤ◌, Contains}
use Rattle.std.specs.Bool.{Decides}
use Rattle.jiff_core.proofs.DateLemmas.{epoch_day_injective}
use Rattle.jiff_core.proofs.DateTimeLemmas.{civil_nanos_injective, time_nanos_injective}
use Rattle.jiff_core.specs.Calendar.{weekday_number}
use Rattle.jiff_core.specs.Date.{epoch_day}
use Rattle.jiff_core.specs.DateTime.{civil_nanos}
use Rattle.jiff_core.specs.declared.civil.datetime.DateTime.{DateTime}
use Rattle.cel_tree.specs.declared.tree.Expr.{Expr}
use Rattle.cel_tree.specs.declared.tree.Expr.TheOpen.{Expr-F}
use Rattle.cel_value.specs.declared.value.EvalFault.{EvalFault}
use Rattle.cel_value.specs.declared.value.Outcome.{Outcome}
use Rattle.cel_value.specs.declared.value.Outcome.TheVariants.{Given, Stopped}
use Rattle.cel_value.specs.declared.value.Value.{Value, out-Value}
use Rattle.cel_value.specs.declared.value.Value.TheVariants as value
use Rattle.cel_value.specs.declared.value.Value.TheVariants.{outs-Bool, outs-Many}
use Rattle.cel_types.specs.declared.form.TimePart.{TimePart}
use Rattle.cel_types.specs.declared.form.TimePart.TheVariants.{FullYear, Month, Date, DayOfMonth, DayOfWeek, DayOfYear, Hours, Minutes, Seconds, Milliseconds}
use Rattle.cel_types.specs.Calendar as has
use Rattle.cel_types.specs.Calendar.{HasPart, part_of}
use Rattle.cel_types.specs.Heads.{Head}
use Rattle.cel_types.specs.Setting.{Setting}
use Rattle.cel_types.specs.Means as rule
use Rattle.cel_types.specs.Means.{Means, MeansAt, PartsMean, Concludes, Applies, conjunction, disjunction, first_stop, comes_to, value_is, AllIn}
use Rattle.cel_types.proofs.OneKind.{same_some}

-- two tests that decide one fact agree
decided : {P : Type 0} (a b : Bool) → Decides a P → Decides b P → a ≡ b
decided true b d e = sym (e.1 (d.0 refl))
decided false true d e = let same : false ≡ true = d.1 (e.0 refl) in same
decided false false d e = refl

same_truth : {P : Type 0} {a b : Bool} → Decides a P → Decides b P → Given (value.Bool a) ≡ Given (value.Bool b)
same_truth {P} {a} {b} d e = ap (λ z. Given (value.Bool z)) (decided a b d e)

other_truth : {P : Type 0} {a b : Bool} → Decides a P → Decides b P → Given (value.Bool (not a)) ≡ Given (value.Bool (not b))
other_truth {P} {a} {b} d e = ap (λ z. Given (value.Bool (not z))) (decided a b d e)

-- equal lists of values have equal items
same_items : {vs ws : List Value} → value.Many vs ≡ value.Many ws → vs ≡ ws
same_items {vs} {ws} e = let f = sym (outs-Many vs) ∙ ap out-Value e ∙ outs-Many ws in cc f

same_by_parts : (p : TimePart) (a b : DateTime) → a.date.year ≡ b.date.year → a.date.month ≡ b.date.month → a.date.day ≡ b.date.day
    → a.time.hour ≡ b.time.hour → a.time.minute ≡ b.time.minute → a.time.second ≡ b.time.second
    → a.time.subsec_nanosecond ≡ b.time.subsec_nanosecond → epoch_day a.date ≡ epoch_day b.date → part_of p a ≡ part_of p b
same_by_parts FullYear a b year month day hour minute second nanos same = year
same_by_parts Month a b year month day hour minute second nanos same = ap (λ (n : ℕ). pos (n - 1)) month
same_by_parts Date a b year month day hour minute second nanos same = ap (λ (n : ℕ). pos n) day
same_by_parts DayOfMonth a b year month day hour minute second nanos same = ap (λ (n : ℕ). pos (n - 1)) day
same_by_parts DayOfWeek a b year month day hour minute second nanos same = ap (λ (n : ℤ). pos ((weekday_number n + 1) % 7)) same
same_by_parts DayOfYear a b year month day hour minute second nanos same = rw (year, month, day) refl
same_by_parts Hours a b year month day hour minute second nanos same = ap (λ (n : ℕ). pos n) hour
same_by_parts Minutes a b year month day hour minute second nanos same = ap (λ (n : ℕ). pos n) minute
same_by_parts Seconds a b year month day hour minute second nanos same = ap (λ (n : ℕ). pos n) second
same_by_parts Milliseconds a b year month day hour minute second nanos same = ap (λ (n : ℕ). pos (n / 1_000_000)) nanos

-- at one time there is one date and one time of day
same_part : (p : TimePart) (a b : DateTime) (t : ℤ) → civil_nanos a ≡ t → civil_nanos b ≡ t → part_of p a ≡ part_of p b
same_part p a b t h i =
    let both = civil_nanos_injective a b (h ∙ sym i) in
    let date = epoch_day_injective a.date b.date both.0 in
    let time = time_nanos_injective a.time b.time both.1 in
    same_by_parts p a b date.0 date.1 date.2 time.0 time.1 time.2 time.3 both.0

pub one_part : (p : TimePart) (t : ℤ) (o : Outcome) → HasPart p t o → (q : Outcome) → HasPart p t q → o ≡ q
one_part p t o (has.within a in_range h) q (has.within b in_range' i) = ap (λ (z : ℤ). Given (value.Int z)) (same_part p a b t h i)
one_part p t o (has.within a in_range h) q (has.outside out) = absurd (let P : ⊥ = cc (in_range, out) in P)
one_part p t o (has.outside out) q (has.within a in_range h) = absurd (let P : ⊥ = cc (in_range, out) in P)
one_part p t o (has.outside out) q (has.outside out') = refl

-- values of parts give one outcome
one_applies : {c : Setting} {h : Head} {vs : List Value} {o : Outcome} → Applies c h vs o → (q : Outcome) → Applies c h vs q → o ≡ q
one_applies rule.bool_literal q rule.bool_literal = refl
one_applies rule.int_literal q rule.int_literal = refl
one_applies rule.str_literal q rule.str_literal = refl
one_applies rule.logical_not q rule.logical_not = refl
one_applies rule.negative q rule.negative = refl
one_applies rule.int_plus_int q rule.int_plus_int = refl
one_applies rule.int_minus_int q rule.int_minus_int = refl
one_applies rule.product q rule.product = refl
one_applies rule.quotient q rule.quotient = refl
one_applies rule.remainder q rule.remainder = refl
one_applies rule.str_plus_str q rule.str_plus_str = refl
one_applies rule.time_plus_length q rule.time_plus_length = refl
one_applies rule.length_plus_time q rule.length_plus_time = refl
one_applies rule.length_plus_length q rule.length_plus_length = refl
one_applies rule.time_minus_length q rule.time_minus_length = refl
one_applies rule.time_minus_time q rule.time_minus_time = refl
one_applies rule.length_minus_length q rule.length_minus_length = refl
one_applies (rule.equal d) q (rule.equal d') = same_truth d d'
one_applies (rule.not_equal d) q (rule.not_equal d') = other_truth d d'
one_applies (rule.less d) q (rule.less d') = same_truth d d'
one_applies (rule.less_or_equal d) q (rule.less_or_equal d') = other_truth d d'
one_applies (rule.greater d) q (rule.greater d') = same_truth d d'
one_applies (rule.greater_or_equal d) q (rule.greater_or_equal d') = other_truth d d'
one_applies (rule.member {v = v} ws many d) q (rule.member {b = b} ws' many' d') =
    same_truth d (subst (λ z. Decides b (Contains z v)) (same_items (sym many' ∙ many)) d')
one_applies rule.list q rule.list = refl
one_applies rule.attribute q rule.attribute = refl
one_applies rule.timestamp q rule.timestamp = refl
one_applies rule.duration q rule.duration = refl
one_applies rule.begins q rule.begins = refl
one_applies rule.ends q rule.ends = refl
one_applies rule.extract q rule.extract = refl
one_applies (rule.part h) q (rule.part i) = one_part _ _ _ h q i
one_applies rule.tag q rule.tag = refl
one_applies rule.modified q rule.modified = refl
one_applies (rule.has_only vs ws many more d) q (rule.has_only {b = b} vs' ws' many' more' d') =
    same_truth d (subst (λ z. Decides b (AllIn z ws)) (same_items (sym many' ∙ many))
    (subst (λ z. Decides b (AllIn vs' z)) (same_items (sym more' ∙ more)) d'))

one_conclusion : {c : Setting} {h : Head} {r : Result (List Value) EvalFault} {o : Outcome} → Concludes c h r o → (q : Outcome) → Concludes c h r q → o ≡ q
one_conclusion rule.stops q rule.stops = refl
one_conclusion (rule.gives a) q (rule.gives b) = one_applies a q b

-- the same results of the parts of one head
concluded : {c : Setting} {f g : Head} {r s : Result (List Value) EvalFault} {o q : Outcome} → f ≡ g → r ≡ s → Concludes c f r o → Concludes c g s q → o ≡ q
concluded {c} {f} {g} {r} {s} {o} {q} fg rs h i =
    one_conclusion h q (subst (λ z. Concludes c z r q) (sym fg) (subst (λ z. Concludes c g z q) (sym rs) i))

itself : (b : Bool) → comes_to b (Given (value.Bool b)) ≡ true
itself true = ap (λ z. value_is true z) (outs-Bool true)
itself false = ap (λ z. value_is false z) (outs-Bool false)

false_first : (x y : Outcome) → Given (value.Bool false) ≡ x → conjunction x y ≡ Given (value.Bool false)
false_first x y e =
    ap (λ z. conjunction z y) (sym e)
    ∙ ap (λ b. cond (b || comes_to false y) (Given (value.Bool false)) (first_stop (Given (value.Bool false)) y (Given (value.Bool true)))) (itself false)

true_first : (x y : Outcome) → Given (value.Bool true) ≡ x → disjunction x y ≡ Given (value.Bool true)
true_first x y e =
    ap (λ z. disjunction z y) (sym e)
    ∙ ap (λ b. cond (b || comes_to true y) (Given (value.Bool true)) (first_stop (Given (value.Bool true)) y (Given (value.Bool false)))) (itself true)

both_same : (f : Outcome → Outcome → Outcome) (x y x' y' : Outcome) → x ≡ x' → y ≡ y' → f x y ≡ f x' y'
both_same f x y x' y' e h = ap (λ z. f z y) e ∙ ap (λ z. f x' z) h

same_given : {v w : Value} → Given v ≡ Given w → v ≡ w
same_given e = cc

same_fault : {a b : EvalFault} → Stopped a ≡ Stopped b → a ≡ b
same_fault e = cc

clash : {X : Type 0} {v : Value} {fault : EvalFault} → Given v ≡ Stopped fault → X
clash e = absurd (let P : ⊥ = cc in P)

crossed : {X : Type 0} → Given (value.Bool true) ≡ Given (value.Bool false) → X
crossed e = absurd (let P : ⊥ = cc in P)

lazy : {X : Type 0} → false ≡ true → X
lazy e = absurd (let P : ⊥ = cc in P)

abbrev values : List Value → Result (List Value) EvalFault
values vs = Ok vs

one_value : {v w : Value} {vs ws : List Value} → v ≡ w → values vs ≡ values ws → values (v ∷ vs) ≡ values (w ∷ ws)
one_value {v} {w} {vs} {ws} e h = let same : vs ≡ ws = cc in ap (λ z. values (z ∷ vs)) e ∙ ap (λ z. values (w ∷ z)) same

mutual
  pub one_outcome : {c : Setting} {e : Expr} {o : Outcome} → Means c e o → (q : Outcome) → Means c e q → o ≡ q
  one_outcome (rule.node h) q (rule.node i) = one_at h q i

  one_at : {c : Setting} {e : Expr-F Expr} {o : Outcome} → MeansAt c e o → (q : Outcome) → MeansAt c e q → o ≡ q
  one_at (rule.false_and d) q (rule.false_and d') = refl
  one_at (rule.false_and d) q (rule.and {x = x} {y = y} d' f') = sym (false_first x y (one_outcome d _ d'))
  one_at (rule.false_and d) q (rule.strict s form parts conclusion) = lazy s
  one_at (rule.and {x = x} {y = y} d f) q (rule.false_and d') = false_first x y (sym (one_outcome d _ d'))
  one_at (rule.and d f) q (rule.and d' f') = both_same conjunction _ _ _ _ (one_outcome d _ d') (one_outcome f _ f')
  one_at (rule.and d f) q (rule.strict s form parts conclusion) = lazy s
  one_at (rule.true_or d) q (rule.true_or d') = refl
  one_at (rule.true_or d) q (rule.or {x = x} {y = y} d' f') = sym (true_first x y (one_outcome d _ d'))
  one_at (rule.true_or d) q (rule.strict s form parts conclusion) = lazy s
  one_at (rule.or {x = x} {y = y} d f) q (rule.true_or d') = true_first x y (sym (one_outcome d _ d'))
  one_at (rule.or d f) q (rule.or d' f') = both_same disjunction _ _ _ _ (one_outcome d _ d') (one_outcome f _ f')
  one_at (rule.or d f) q (rule.strict s form parts conclusion) = lazy s
  one_at (rule.picked d f) q (rule.picked d' f') = one_outcome f _ f'
  one_at (rule.picked d f) q (rule.other d' f') = crossed (one_outcome d _ d')
  one_at (rule.picked d f) q (rule.undecided d') = clash (one_outcome d _ d')
  one_at (rule.picked d f) q (rule.strict s form parts conclusion) = lazy s
  one_at (rule.other d f) q (rule.picked d' f') = crossed (sym (one_outcome d _ d'))
  one_at (rule.other d f) q (rule.other d' f') = one_outcome f _ f'
  one_at (rule.other d f) q (rule.undecided d') = clash (one_outcome d _ d')
  one_at (rule.other d f) q (rule.strict s form parts conclusion) = lazy s
  one_at (rule.undecided d) q (rule.picked d' f') = clash (sym (one_outcome d _ d'))
  one_at (rule.undecided d) q (rule.other d' f') = clash (sym (one_outcome d _ d'))
  one_at (rule.undecided d) q (rule.undecided d') = one_outcome d _ d'
  one_at (rule.undecided d) q (rule.strict s form parts conclusion) = lazy s
  one_at (rule.strict s form parts conclusion) q (rule.false_and d) = lazy s
  one_at (rule.strict s form parts conclusion) q (rule.and d f) = lazy s
  one_at (rule.strict s form parts conclusion) q (rule.true_or d) = lazy s
  one_at (rule.strict s form parts conclusion) q (rule.or d f) = lazy s
  one_at (rule.strict s form parts conclusion) q (rule.picked d f) = lazy s
  one_at (rule.strict s form parts conclusion) q (rule.other d f) = lazy s
  one_at (rule.strict s form parts conclusion) q (rule.undecided d) = lazy s
  one_at (rule.strict s form parts conclusion) q (rule.strict s' form' parts' conclusion') =
      concluded (same_some (sym form ∙ form')) (one_result parts _ parts') conclusion conclusion'

  one_result : {c : Setting} {es : List Expr} {r : Result (List Value) EvalFault} → PartsMean c es r
      → (q : Result (List Value) EvalFault) → PartsMean c es q → r ≡ q
  one_result rule.none q rule.none = refl
  one_result (rule.more d r) q (rule.more d' r') = one_value (same_given (one_outcome d _ d')) (one_result r _ r')
  one_result (rule.more d r) q (rule.first_stops d') = clash (one_outcome d _ d')
  one_result (rule.more d r) q (rule.later_stops d' r') = let e = one_result r _ r' in absurd (let P : ⊥ = cc in P)
  one_result (rule.first_stops d) q (rule.more d' r') = clash (sym (one_outcome d _ d'))
  one_result (rule.first_stops d) q (rule.first_stops d') = ap (λ z. Err z) (same_fault (one_outcome d _ d'))
  one_result (rule.first_stops d) q (rule.later_stops d' r') = clash (sym (one_outcome d _ d'))
  one_result (rule.later_stops d r) q (rule.more d' r') = let e = one_result r _ r' in absurd (let P : ⊥ = cc in P)
  one_result (rule.later_stops d r) q (rule.first_stops d') = clash (one_outcome d _ d')
  one_result (rule.later_stops d r) q (rule.later_stops d' r') = one_result r _ r'
