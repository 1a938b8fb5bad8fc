-- Rows in order with another one over that of its place.
use Rattle.std.proofs.Common.{◌≡◌, inl, inr, ◌+◌, Bool, true, false, cond, List, [], ◌∷◌, ◌++◌, filter, length, Some, refl, sym, ap, subst, ◌∙◌, arith}
use Rattle.std.specs.Prelude.{Contains}
use Rattle.std.specs.List.{find}
use Rattle.std.specs.Cmp.{IsTotalOrder}
use Rattle.std.specs.declared.cmp.Ordering.{Ordering}
use Rattle.std.specs.declared.cmp.Ordering.TheVariants.{Less, Equal, Greater}
use Rattle.std.specs.declared.option.Option.{Option}
use Rattle.std.specs.Ordering.{match_ordering}
use Rattle.std.proofs.lemmas.List.Elements.{All-contains}
use Rattle.iam_text.specs.Put.{put, IsInOrder}
use Rattle.iam_model.proofs.Placing.{Contains-cases}

-- the new row stands in the place of the old one, and all others stay
pub record Over {X : Type 0} (old new : X) (rows next : List X) : Type 0 where
  pub before : List X
  pub behind : List X
  pub was : rows ≡ before ++ old ∷ behind
  pub is : next ≡ before ++ new ∷ behind

pub put_over : {X : Type 0} (order : X → X → Ordering) → IsTotalOrder order → (old new : X) (rows : List X) → IsInOrder order rows → order new old ≡ Equal → Contains rows old → Over old new rows (put order new rows)
put_over order total old new [] ordered tied there = absurd (omega (arith, there.1))
put_over {X} order total old new (first ∷ rows) ordered tied there =
    elim (order new first) as (λ o. order new first ≡ o → Over old new (first ∷ rows) (match_ordering o (new ∷ first ∷ rows) (new ∷ rows) (first ∷ put order new rows))) [
      | Less ↦ λ is. elim (Contains-cases first rows old there) [
        | inl same ↦ let less : order new old ≡ Less = subst (λ (z : X). order new z ≡ Less) same is in absurd (cc)
        | inr more ↦ let less : order new old ≡ Less = total.trans new first old is (later old more) in absurd (cc)
      ]
      | Equal ↦ λ is. elim (Contains-cases first rows old there) [
        | inl same ↦ record { before = []; behind = rows; was = ap (λ (z : X). z ∷ rows) same; is = refl }
        | inr more ↦ let less : order new old ≡ Less = total.congr new first old is ∙ later old more in absurd (cc)
      ]
      | Greater ↦ λ is. elim (Contains-cases first rows old there) [
        | inl same ↦ let greater : order new old ≡ Greater = subst (λ (z : X). order new z ≡ Greater) same is in absurd (cc)
        | inr more ↦ further (put_over order total old new rows ordered.1 tied more)
      ]
    ] refl
  where
    later : (z : X) → Contains rows z → order first z ≡ Less
    later z more = All-contains (λ (y : X). order first y ≡ Less) rows z ordered.0 more

    further : Over old new rows (put order new rows) → Over old new (first ∷ rows) (first ∷ put order new rows)
    further over = record { before = first ∷ over.before; behind = over.behind; was = ap (λ (ys : List X). first ∷ ys) over.was; is = ap (λ (ys : List X). first ∷ ys) over.is }

-- ---- what is found

found_over : {X Y : Type 0} (p : X → Bool) (f : Option X → Y) (old new : X) (before behind : List X) → p old ≡ p new → f (Some old) ≡ f (Some new) → f (find p (before ++ new ∷ behind)) ≡ f (find p (before ++ old ∷ behind))
found_over {X} {Y} p f old new [] behind alike same = chosen (p old) (p new) alike
  where
    chosen : (a b : Bool) → a ≡ b → f (cond b (Some new) (find p behind)) ≡ f (cond a (Some old) (find p behind))
    chosen true true is = sym same
    chosen false false is = refl
    chosen true false is = absurd (cc)
    chosen false true is = absurd (cc)
found_over p f old new (first ∷ before) behind alike same =
    elim (p first) as (λ b. f (cond b (Some first) (find p (before ++ new ∷ behind))) ≡ f (cond b (Some first) (find p (before ++ old ∷ behind)))) [ true ↦ refl | false ↦ found_over p f old new before behind alike same ]

-- what is told of a row that is found is the same where it is the same of both
pub still_found : {X Y : Type 0} (p : X → Bool) (f : Option X → Y) (old new : X) (rows next : List X) → Over old new rows next → p old ≡ p new → f (Some old) ≡ f (Some new) → f (find p next) ≡ f (find p rows)
still_found {X} p f old new rows next over alike same =
    ap (λ (xs : List X). f (find p xs)) over.is ∙ found_over p f old new over.before over.behind alike same ∙ sym (ap (λ (xs : List X). f (find p xs)) over.was)

passed_over : {X : Type 0} (p : X → Bool) (old new : X) (before behind : List X) → p old ≡ false → p new ≡ false → find p (before ++ new ∷ behind) ≡ find p (before ++ old ∷ behind)
passed_over p old new [] behind fails other = rw (fails, other) refl
passed_over p old new (first ∷ before) behind fails other = ap (λ found. cond (p first) (Some first) found) (passed_over p old new before behind fails other)

-- what is found where neither passes is the same
pub found_elsewhere : {X : Type 0} (p : X → Bool) (old new : X) (rows next : List X) → Over old new rows next → p old ≡ false → p new ≡ false → find p next ≡ find p rows
found_elsewhere {X} p old new rows next over fails other =
    ap (λ (xs : List X). find p xs) over.is ∙ passed_over p old new over.before over.behind fails other ∙ sym (ap (λ (xs : List X). find p xs) over.was)

holds_over : {X : Type 0} (p : X → Bool) (P : Option X → Type 0) (old new : X) (before behind : List X) → p old ≡ p new → P (Some new) → P (find p (before ++ old ∷ behind)) → P (find p (before ++ new ∷ behind))
holds_over {X} p P old new [] behind alike holds = chosen (p old) (p new) alike
  where
    chosen : (a b : Bool) → a ≡ b → P (cond a (Some old) (find p behind)) → P (cond b (Some new) (find p behind))
    chosen true true is was = holds
    chosen false false is was = was
    chosen true false is was = absurd (cc)
    chosen false true is was = absurd (cc)
holds_over p P old new (first ∷ before) behind alike holds =
    elim (p first) as (λ b. P (cond b (Some first) (find p (before ++ old ∷ behind))) → P (cond b (Some first) (find p (before ++ new ∷ behind)))) [ true ↦ λ was. was | false ↦ holds_over p P old new before behind alike holds ]

-- what held of a row that is found holds where it holds of the new one
pub still_holds : {X : Type 0} (p : X → Bool) (P : Option X → Type 0) (old new : X) (rows next : List X) → Over old new rows next → p old ≡ p new → P (Some new) → P (find p rows) → P (find p next)
still_holds {X} p P old new rows next over alike holds was =
    subst (λ (xs : List X). P (find p xs)) (sym over.is) (holds_over p P old new over.before over.behind alike holds (subst (λ (xs : List X). P (find p xs)) over.was was))

-- ---- how many

counted_over : {X : Type 0} (p : X → Bool) (old new : X) (before behind : List X) → length (filter p (before ++ new ∷ behind)) + cond (p old) 1 0 ≡ length (filter p (before ++ old ∷ behind)) + cond (p new) 1 0
counted_over {X} p old new [] behind = chosen (p old) (p new)
  where
    chosen : (a b : Bool) → length (cond b (new ∷ filter p behind) (filter p behind)) + cond a 1 0 ≡ length (cond a (old ∷ filter p behind) (filter p behind)) + cond b 1 0
    chosen true true = omega arith
    chosen true false = omega arith
    chosen false true = omega arith
    chosen false false = omega arith
counted_over p old new (first ∷ before) behind =
    elim (p first) as (λ b. length (cond b (first ∷ filter p (before ++ new ∷ behind)) (filter p (before ++ new ∷ behind))) + cond (p old) 1 0 ≡ length (cond b (first ∷ filter p (before ++ old ∷ behind)) (filter p (before ++ old ∷ behind))) + cond (p new) 1 0) [
      | true ↦ omega (arith, counted_over p old new before behind)
      | false ↦ counted_over p old new before behind
    ]

pub count_over : {X : Type 0} (p : X → Bool) (old new : X) (rows next : List X) → Over old new rows next → length (filter p next) + cond (p old) 1 0 ≡ length (filter p rows) + cond (p new) 1 0
count_over {X} p old new rows next over =
    ap (λ (xs : List X). length (filter p xs) + cond (p old) 1 0) over.is ∙ counted_over p old new over.before over.behind ∙ sym (ap (λ (xs : List X). length (filter p xs) + cond (p new) 1 0) over.was)

long_over : {X : Type 0} (old new : X) (before behind : List X) → length (before ++ new ∷ behind) ≡ length (before ++ old ∷ behind)
long_over old new [] behind = refl
long_over old new (first ∷ before) behind = omega (arith, long_over old new before behind)

pub length_over : {X : Type 0} (old new : X) (rows next : List X) → Over old new rows next → length next ≡ length rows
length_over {X} old new rows next over = ap (λ (xs : List X). length xs) over.is ∙ long_over old new over.before over.behind ∙ sym (ap (λ (xs : List X). length xs) over.was)
