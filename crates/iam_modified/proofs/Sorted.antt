-- Rows after a stable sort: they are placed as before, and those of one place stand together in the order that they had.
use Rattle.std.proofs.Common.{◌≡◌, ℕ, suc, zero, ◌+◌, ◌<◌, ◌≤◌, length, get_or, take, drop, Bool, true, false, not, cond, ◌&&◌, List, [], ◌∷◌, Option, Some, None, filter, refl, sym, ap, subst, ◌∙◌, arith, length-drop}
use Rattle.std.specs.declared.cmp.Ordering.{Ordering}
use Rattle.std.specs.declared.cmp.Ordering.TheVariants.{Less, Equal, Greater}
use Rattle.std.specs.Ordering.{is_eq, is_lt, match_ordering, ordering_reverse}
use Rattle.std.specs.Cmp.{IsTotalOrder}
use Rattle.std.specs.List.{All, find, prefix_len}
use Rattle.std.specs.List.Sorted.{IsSorted, IsStable, ties}
use Rattle.std.proofs.lemmas.Bool.{both_ways}
use Rattle.std.proofs.lemmas.Cmp.{alike_right, tied_itself}
use Rattle.std.proofs.lemmas.List.Elements.{All-cons, All-drop, All-head, All-tail, All-weaker, filter_agree}
use Rattle.std.proofs.lemmas.List.Sorted.{ranks_by, sorted_far}
use Rattle.iam_text.specs.Put.{IsInOrder, placed, put}
use Rattle.iam_text.proofs.InOrder.{placed-IsInOrder, put-front}
use Rattle.iam_model.proofs.Placing.{All-placed}

abbrev pub tied : {X : Type 0} → (X → X → Ordering) → X → X → Bool
tied order a b = is_eq (order a b)

is_tied : (o : Ordering) → is_eq o ≡ true → o ≡ Equal
is_tied Less h = cc
is_tied Equal h = refl
is_tied Greater h = cc

-- ---- what a stable sort keeps

neither_less : (o : Ordering) → (not (is_lt o) && not (is_lt (ordering_reverse o))) ≡ is_eq o
neither_less Less = refl
neither_less Equal = refl
neither_less Greater = refl

ties_tied : {X : Type 0} (order : X → X → Ordering) → IsTotalOrder order → (a b : X) → ties (λ (x : X) (y : X). is_lt (order x y)) a b ≡ tied order a b
ties_tied order total a b = ap (λ (o : Ordering). not (is_lt (order a b)) && not (is_lt o)) (total.antisymm b a) ∙ neither_less (order a b)

stable_tied : {X : Type 0} (order : X → X → Ordering) → IsTotalOrder order → (old new : List X) → IsStable order old new → (x : X) → filter (tied order x) new ≡ filter (tied order x) old
stable_tied {X} order total old new stable x =
    let test : X → Bool = ties (λ (a : X) (b : X). is_lt (order a b)) x in
    sym (filter_agree test (tied order x) (ties_tied order total x) new) ∙ stable x ∙ filter_agree test (tied order x) (ties_tied order total x) old

-- ---- which row has a place

abbrev front : {X : Type 0} → List X → Option X
front [] = None
front (x ∷ xs) = Some x

find_front : {X : Type 0} (p : X → Bool) (xs : List X) → find p xs ≡ front (filter p xs)
find_front p [] = refl
find_front {X} p (x ∷ xs) = elim (p x) as (λ b. cond b (Some x) (find p xs) ≡ front (cond b (x ∷ filter p xs) (filter p xs))) [ true ↦ refl | false ↦ find_front p xs ]

find_none : {X : Type 0} (p : X → Bool) (xs : List X) → All (λ x. p x ≡ false) xs → find p xs ≡ None
find_none p [] all = refl
find_none {X} p (x ∷ xs) all = rw (All-head (λ (y : X). p y ≡ false) x xs all) (find_none p xs (All-tail (λ (y : X). p y ≡ false) x xs all))

find_itself : {X : Type 0} (order : X → X → Ordering) → IsTotalOrder order → (x : X) (xs : List X) → find (tied order x) (x ∷ xs) ≡ Some x
find_itself order total x xs = rw (tied_itself total x) refl

over_tied : {X : Type 0} (row other : X) (found : Option X) (a b : Bool) → a ≡ b → cond a (Some row) found ≡ cond a (Some row) (cond b (Some other) found)
over_tied row other found true b same = refl
over_tied row other found false true same = cc
over_tied row other found false false same = refl

apart_found : {X : Type 0} (row other : X) (found : Option X) (a b : Bool) → (a ≡ true → b ≡ true → ⊥) → cond a (Some other) (cond b (Some row) found) ≡ cond b (Some row) (cond a (Some other) found)
apart_found row other found true true apart = absurd (apart refl refl)
apart_found row other found true false apart = refl
apart_found row other found false true apart = refl
apart_found row other found false false apart = refl

find_put : {X : Type 0} (order : X → X → Ordering) → IsTotalOrder order → (x row : X) (rows : List X) → find (tied order x) (put order row rows) ≡ cond (tied order x row) (Some row) (find (tied order x) rows)
find_put order total x row [] = refl
find_put {X} order total x row (other ∷ rows) =
    elim (order row other) as (λ o. order row other ≡ o → find (tied order x) (match_ordering o (row ∷ other ∷ rows) (row ∷ rows) (other ∷ put order row rows)) ≡ cond (tied order x row) (Some row) (find (tied order x) (other ∷ rows))) [
      | Less ↦ λ is. refl
      | Equal ↦ λ is. over_tied row other (find (tied order x) rows) (tied order x row) (tied order x other) (ap is_eq (alike_right total row other x is))
      | Greater ↦ λ is. ap (λ (found : Option X). cond (tied order x other) (Some other) found) (find_put order total x row rows)
          ∙ apart_found row other (find (tied order x) rows) (tied order x other) (tied order x row) (λ h k. not_tied is (is_tied (order x other) h) (is_tied (order x row) k))
    ] refl
  where
    not_tied : order row other ≡ Greater → order x other ≡ Equal → order x row ≡ Equal → ⊥
    not_tied is h k = let same : order row other ≡ Equal = sym (total.congr x row other k) ∙ h in absurd (cc)

find_placed : {X : Type 0} (order : X → X → Ordering) → IsTotalOrder order → (x : X) (rows : List X) → find (tied order x) (placed order rows) ≡ find (tied order x) rows
find_placed order total x [] = refl
find_placed {X} order total x (row ∷ rows) = find_put order total x row (placed order rows) ∙ ap (λ (found : Option X). cond (tied order x row) (Some row) found) (find_placed order total x rows)

-- what stands behind a row isn't in its place, nor in that of a row that ties with it
none_behind : {X : Type 0} (order : X → X → Ordering) → IsTotalOrder order → (z x : X) (xs : List X) → order z x ≡ Equal → All (λ y. order x y ≡ Less) xs → find (tied order z) xs ≡ None
none_behind {X} order total z x xs same all =
    find_none (tied order z) xs (All-weaker (λ (y : X). order x y ≡ Less) (λ (y : X). tied order z y ≡ false) (λ y less. ap is_eq (total.congr z x y same ∙ less)) xs all)

none_from : {X : Type 0} (order : X → X → Ordering) → IsTotalOrder order → (x y : X) (ys : List X) → order x y ≡ Less → All (λ z. order y z ≡ Less) ys → find (tied order x) (y ∷ ys) ≡ None
none_from {X} order total x y ys less all =
    find_none (tied order x) (y ∷ ys)
    (All-cons (λ (z : X). tied order x z ≡ false) y ys (ap is_eq less) (All-weaker (λ (z : X). order y z ≡ Less) (λ (z : X). tied order x z ≡ false) (λ z behind. ap is_eq (total.trans x y z less behind)) ys all))

-- rows in order that have the same row in each place are the same
same_found : {X : Type 0} (order : X → X → Ordering) → IsTotalOrder order → (xs ys : List X) → IsInOrder order xs → IsInOrder order ys → ((z : X) → find (tied order z) xs ≡ find (tied order z) ys) → xs ≡ ys
same_found order total [] [] ox oy same = refl
same_found order total [] (y ∷ ys) ox oy same = let found = same y in let here = find_itself order total y ys in cc (found, here)
same_found order total (x ∷ xs) [] ox oy same = let found = same x in let here = find_itself order total x xs in cc (found, here)
same_found {X} order total (x ∷ xs) (y ∷ ys) ox oy same =
    elim (order x y) as (λ o. order x y ≡ o → x ∷ xs ≡ y ∷ ys) [
      | Less ↦ λ is. let none = none_from order total x y ys is oy.0 in let found = same x in let here = find_itself order total x xs in cc (none, found, here)
      | Equal ↦ λ is. whole (head is) (same_found order total xs ys ox.1 oy.1 (tails is))
      | Greater ↦ λ is. let none = none_from order total y x xs (total.antisymm y x ∙ ap ordering_reverse is) ox.0 in let found = same y in let here = find_itself order total y ys in cc (none, found, here)
    ] refl
  where
    head : order x y ≡ Equal → x ≡ y
    head is = let there : find (tied order x) (y ∷ ys) ≡ Some y = rw is refl in let found = same x in let here = find_itself order total x xs in cc (there, found, here)

    past : (z : X) → tied order z x ≡ false → tied order z y ≡ false → find (tied order z) xs ≡ find (tied order z) ys
    past z n m = rw (n, m) at (same z)

    tails : order x y ≡ Equal → (z : X) → find (tied order z) xs ≡ find (tied order z) ys
    tails is z =
        elim (order z x) as (λ o. order z x ≡ o → find (tied order z) xs ≡ find (tied order z) ys) [
          | Less ↦ λ apart. past z (ap is_eq apart) (ap is_eq (sym (alike_right total x y z is) ∙ apart))
          | Equal ↦ λ tie. none_behind order total z x xs tie ox.0 ∙ sym (none_behind order total z y ys (sym (alike_right total x y z is) ∙ tie) oy.0)
          | Greater ↦ λ apart. past z (ap is_eq apart) (ap is_eq (sym (alike_right total x y z is) ∙ apart))
        ] refl

    whole : x ≡ y → xs ≡ ys → x ∷ xs ≡ y ∷ ys
    whole first rest = cc

pub placed_stable : {X : Type 0} (order : X → X → Ordering) → IsTotalOrder order → (old new : List X) → IsStable order old new → placed order new ≡ placed order old
placed_stable order total old new stable =
    same_found order total (placed order new) (placed order old) (placed-IsInOrder order total new) (placed-IsInOrder order total old)
    (λ z. find_placed order total z new ∙ find_front (tied order z) new ∙ ap front (stable_tied order total old new stable z) ∙ sym (find_front (tied order z) old) ∙ sym (find_placed order total z old))

-- ---- sorted rows ascend

abbrev Ascends : {X : Type 0} → (X → X → Ordering) → List X → Type 0
Ascends order [] = Unit {0}
Ascends order (row ∷ rows) = All (λ other. is_lt (order other row) ≡ false) rows × Ascends order rows

sorted_ascends : {X : Type 0} (order : X → X → Ordering) → IsTotalOrder order → (rows : List X) → IsSorted order rows → Ascends order rows
sorted_ascends order total [] up = tt
sorted_ascends {X} order total (row ∷ rows) up =
    (λ k d within. far zero (suc k) d (omega arith) (omega (arith, within)), sorted_ascends order total rows (λ k d from within. far (suc k) (suc (k + 1)) d (omega arith) (omega (arith, within))))
  where
    far : (i j : ℕ) (d : X) → i ≤ j → j < length (row ∷ rows) → is_lt (order (get_or (row ∷ rows) j d) (get_or (row ∷ rows) i d)) ≡ false
    far = sorted_far (λ (a : X) (b : X). is_lt (order a b)) (ranks_by total (λ (a : X). a)) (row ∷ rows) up

Ascends-drop : {X : Type 0} (order : X → X → Ordering) (n : ℕ) (rows : List X) → Ascends order rows → Ascends order (drop n rows)
Ascends-drop order zero rows ascends = ascends
Ascends-drop order (suc n) [] ascends = tt
Ascends-drop order (suc n) (row ∷ rows) ascends = Ascends-drop order n rows ascends.1

not_behind : {X : Type 0} (order : X → X → Ordering) → IsTotalOrder order → (x y : X) → is_lt (order y x) ≡ false → order x y ≡ Greater → ⊥
not_behind order total x y up is = both_ways (is_lt (order y x)) up (ap is_lt (total.antisymm y x ∙ ap ordering_reverse is))

still_behind : {X : Type 0} (order : X → X → Ordering) → IsTotalOrder order → (x y z : X) → order x y ≡ Less → is_lt (order z y) ≡ false → order x z ≡ Less
still_behind order total x y z less up =
    elim (order y z) as (λ o. order y z ≡ o → order x z ≡ Less) [
      | Less ↦ λ is. total.trans x y z less is
      | Equal ↦ λ is. sym (alike_right total y z x is) ∙ less
      | Greater ↦ λ is. absurd (not_behind order total y z up is)
    ] refl

all_behind : {X : Type 0} (order : X → X → Ordering) → IsTotalOrder order → (x y : X) (ys : List X) → order x y ≡ Less → All (λ z. is_lt (order z y) ≡ false) ys → All (λ z. order x z ≡ Less) (y ∷ ys)
all_behind {X} order total x y ys less up =
    All-cons (λ (z : X). order x z ≡ Less) y ys less (All-weaker (λ (z : X). is_lt (order z y) ≡ false) (λ (z : X). order x z ≡ Less) (λ z h. still_behind order total x y z less h) ys up)

-- ---- those at the front that tie with a row, which none of them stands before

abbrev run : {X : Type 0} → (X → X → Ordering) → X → List X → ℕ
run order x ys = prefix_len (tied order x) ys

run-more : {X : Type 0} (order : X → X → Ordering) (x y : X) (ys : List X) → order x y ≡ Equal → run order x (y ∷ ys) ≡ suc (run order x ys)
run-more order x y ys is = rw is (omega arith)

run-none : {X : Type 0} (order : X → X → Ordering) (x y : X) (ys : List X) → tied order x y ≡ false → run order x (y ∷ ys) ≡ 0
run-none order x y ys is = rw is refl

filter_none : {X : Type 0} (p : X → Bool) (xs : List X) → All (λ x. p x ≡ false) xs → filter p xs ≡ []
filter_none p [] all = refl
filter_none {X} p (x ∷ xs) all = rw (All-head (λ (y : X). p y ≡ false) x xs all) (filter_none p xs (All-tail (λ (y : X). p y ≡ false) x xs all))

run_kept : {X : Type 0} (order : X → X → Ordering) → IsTotalOrder order → (x : X) (ys : List X) → All (λ y. is_lt (order y x) ≡ false) ys → Ascends order ys → filter (tied order x) ys ≡ take (run order x ys) ys
run_kept order total x [] up ascends = refl
run_kept {X} order total x (y ∷ ys) up ascends =
    elim (order x y) as (λ o. order x y ≡ o → filter (tied order x) (y ∷ ys) ≡ take (run order x (y ∷ ys)) (y ∷ ys)) [
      | Less ↦ λ is. none is ∙ sym (ap (λ (n : ℕ). take n (y ∷ ys)) (run-none order x y ys (ap is_eq is)))
      | Equal ↦ λ is. more is (run_kept order total x ys (All-tail (λ (z : X). is_lt (order z x) ≡ false) y ys up) ascends.1) ∙ sym (ap (λ (n : ℕ). take n (y ∷ ys)) (run-more order x y ys is))
      | Greater ↦ λ is. absurd (not_behind order total x y (All-head (λ (z : X). is_lt (order z x) ≡ false) y ys up) is)
    ] refl
  where
    none : order x y ≡ Less → filter (tied order x) (y ∷ ys) ≡ []
    none is = filter_none (tied order x) (y ∷ ys)
        (All-weaker (λ (z : X). order x z ≡ Less) (λ (z : X). tied order x z ≡ false) (λ z less. ap is_eq less) (y ∷ ys) (all_behind order total x y ys is ascends.0))

    more : order x y ≡ Equal → filter (tied order x) ys ≡ take (run order x ys) ys → filter (tied order x) (y ∷ ys) ≡ y ∷ take (run order x ys) ys
    more is kept = rw is (ap (λ (zs : List X). y ∷ zs) kept)

run_rest : {X : Type 0} (order : X → X → Ordering) → IsTotalOrder order → (x : X) (ys : List X) → All (λ y. is_lt (order y x) ≡ false) ys → Ascends order ys → All (λ y. order x y ≡ Less) (drop (run order x ys) ys)
run_rest {X} order total x [] up ascends = λ k d within. absurd (omega (arith, within))
run_rest {X} order total x (y ∷ ys) up ascends =
    elim (order x y) as (λ o. order x y ≡ o → All (λ z. order x z ≡ Less) (drop (run order x (y ∷ ys)) (y ∷ ys))) [
      | Less ↦ λ is. subst (λ (n : ℕ). All (λ (z : X). order x z ≡ Less) (drop n (y ∷ ys))) (sym (run-none order x y ys (ap is_eq is))) (all_behind order total x y ys is ascends.0)
      | Equal ↦ λ is. subst (λ (n : ℕ). All (λ (z : X). order x z ≡ Less) (drop n (y ∷ ys))) (sym (run-more order x y ys is))
          (run_rest order total x ys (All-tail (λ (z : X). is_lt (order z x) ≡ false) y ys up) ascends.1)
      | Greater ↦ λ is. absurd (not_behind order total x y (All-head (λ (z : X). is_lt (order z x) ≡ false) y ys up) is)
    ] refl

put_over : {X : Type 0} (order : X → X → Ordering) → IsTotalOrder order → (x y : X) (rows : List X) → order x y ≡ Equal → put order x (put order y rows) ≡ put order x rows
put_over order total x y [] same = rw same refl
put_over {X} order total x y (other ∷ rows) same =
    elim (order y other) as (λ o. order x other ≡ o → put order x (match_ordering o (y ∷ other ∷ rows) (y ∷ rows) (other ∷ put order y rows)) ≡ put order x (other ∷ rows)) [
      | Less ↦ λ is. rw (same, is) refl
      | Equal ↦ λ is. rw (same, is) refl
      | Greater ↦ λ is. rw is (ap (λ (zs : List X). other ∷ zs) (put_over order total x y rows same))
    ] (total.congr x y other same)

run_placed : {X : Type 0} (order : X → X → Ordering) → IsTotalOrder order → (x : X) (ys : List X) → All (λ y. is_lt (order y x) ≡ false) ys → Ascends order ys → put order x (placed order ys) ≡ x ∷ placed order (drop (run order x ys) ys)
run_placed order total x [] up ascends = refl
run_placed {X} order total x (y ∷ ys) up ascends =
    elim (order x y) as (λ o. order x y ≡ o → put order x (placed order (y ∷ ys)) ≡ x ∷ placed order (drop (run order x (y ∷ ys)) (y ∷ ys))) [
      | Less ↦ λ is. put-front order x (placed order (y ∷ ys)) (All-placed (λ (z : X). order x z ≡ Less) order (y ∷ ys) (all_behind order total x y ys is ascends.0)) ∙ sym (skip (run-none order x y ys (ap is_eq is)))
      | Equal ↦ λ is. put_over order total x y (placed order ys) is ∙ run_placed order total x ys (All-tail (λ (z : X). is_lt (order z x) ≡ false) y ys up) ascends.1 ∙ sym (skip (run-more order x y ys is))
      | Greater ↦ λ is. absurd (not_behind order total x y (All-head (λ (z : X). is_lt (order z x) ≡ false) y ys up) is)
    ] refl
  where
    skip : {n : ℕ} → run order x (y ∷ ys) ≡ n → x ∷ placed order (drop (run order x (y ∷ ys)) (y ∷ ys)) ≡ x ∷ placed order (drop n (y ∷ ys))
    skip is = ap (λ (n : ℕ). x ∷ placed order (drop n (y ∷ ys))) is

-- of another place behind, none is passed over
run_past : {X : Type 0} (order : X → X → Ordering) → IsTotalOrder order → (x other : X) (ys : List X) → order x other ≡ Less → filter (tied order other) (drop (run order x ys) ys) ≡ filter (tied order other) ys
run_past order total x other [] less = refl
run_past {X} order total x other (y ∷ ys) less =
    elim (order x y) as (λ o. order x y ≡ o → filter (tied order other) (drop (run order x (y ∷ ys)) (y ∷ ys)) ≡ filter (tied order other) (y ∷ ys)) [
      | Less ↦ λ is. ap (λ (n : ℕ). filter (tied order other) (drop n (y ∷ ys))) (run-none order x y ys (ap is_eq is))
      | Equal ↦ λ is. ap (λ (n : ℕ). filter (tied order other) (drop n (y ∷ ys))) (run-more order x y ys is) ∙ run_past order total x other ys less ∙ sym (passed is)
      | Greater ↦ λ is. ap (λ (n : ℕ). filter (tied order other) (drop n (y ∷ ys))) (run-none order x y ys (ap is_eq is))
    ] refl
  where
    passed : order x y ≡ Equal → filter (tied order other) (y ∷ ys) ≡ filter (tied order other) ys
    passed is =
        let before : order y other ≡ Less = sym (total.congr x y other is) ∙ less in
        let apart : order other y ≡ Greater = total.antisymm other y ∙ ap ordering_reverse before in
        rw apart refl

-- ---- one run after another

-- what is left of the rows, where whole runs were taken from the front
pub record IsLeft {X : Type 0} (order : X → X → Ordering) (all left : List X) : Type 0 where
  pub ascends : Ascends order left
  pub whole : All (λ row. filter (tied order row) left ≡ filter (tied order row) all) left

pub all_left : {X : Type 0} (order : X → X → Ordering) → IsTotalOrder order → (old new : List X) → IsSorted order new → IsStable order old new → IsLeft order old new
all_left order total old new up stable = record { ascends = sorted_ascends order total new up; whole = λ k d within. stable_tied order total old new stable (get_or new k d) }

from_front : {X : Type 0} (order : X → X → Ordering) → IsTotalOrder order → (x : X) (xs : List X) → run order x (x ∷ xs) ≡ suc (run order x xs)
from_front order total x xs = run-more order x x xs (tied_itself total x)

-- the run at the front has all rows of its place
pub run_whole : {X : Type 0} (order : X → X → Ordering) → IsTotalOrder order → (all : List X) (x : X) (xs : List X) → IsLeft order all (x ∷ xs) → take (run order x (x ∷ xs)) (x ∷ xs) ≡ filter (tied order x) all
run_whole {X} order total all x xs left =
    let kept = run_kept order total x xs left.ascends.0 left.ascends.1 in
    let here : filter (tied order x) (x ∷ xs) ≡ x ∷ filter (tied order x) xs = rw (tied_itself total x) refl in
    ap (λ (n : ℕ). take n (x ∷ xs)) (from_front order total x xs) ∙ ap (λ (ys : List X). x ∷ ys) (sym kept) ∙ sym here ∙ All-head (λ (row : X). filter (tied order row) (x ∷ xs) ≡ filter (tied order row) all) x xs left.whole

-- its first row is placed first
pub run_first : {X : Type 0} (order : X → X → Ordering) → IsTotalOrder order → (all : List X) (x : X) (xs : List X) → IsLeft order all (x ∷ xs) → placed order (x ∷ xs) ≡ x ∷ placed order (drop (run order x (x ∷ xs)) (x ∷ xs))
run_first {X} order total all x xs left =
    run_placed order total x xs left.ascends.0 left.ascends.1 ∙ sym (ap (λ (n : ℕ). x ∷ placed order (drop n (x ∷ xs))) (from_front order total x xs))

-- and behind it whole runs are left
pub run_left : {X : Type 0} (order : X → X → Ordering) → IsTotalOrder order → (all : List X) (x : X) (xs : List X) → IsLeft order all (x ∷ xs) → IsLeft order all (drop (run order x (x ∷ xs)) (x ∷ xs))
run_left {X} order total all x xs left =
    subst (λ (n : ℕ). IsLeft order all (drop n (x ∷ xs))) (sym (from_front order total x xs)) (record { ascends = Ascends-drop order (run order x xs) xs left.ascends.1; whole = rest })
  where
    behind : All (λ row. order x row ≡ Less) (drop (run order x xs) xs)
    behind = run_rest order total x xs left.ascends.0 left.ascends.1

    passed : (row : X) → order x row ≡ Less → filter (tied order row) (x ∷ xs) ≡ filter (tied order row) xs
    passed row less = let apart : order row x ≡ Greater = total.antisymm row x ∙ ap ordering_reverse less in rw apart refl

    before : All (λ row. filter (tied order row) (x ∷ xs) ≡ filter (tied order row) all) (drop (run order x xs) xs)
    before = All-drop (λ (row : X). filter (tied order row) (x ∷ xs) ≡ filter (tied order row) all) (run order x xs) xs (All-tail (λ (row : X). filter (tied order row) (x ∷ xs) ≡ filter (tied order row) all) x xs left.whole)

    rest : All (λ row. filter (tied order row) (drop (run order x xs) xs) ≡ filter (tied order row) all) (drop (run order x xs) xs)
    rest k d within =
        let row : X = get_or (drop (run order x xs) xs) k d in
        run_past order total x row xs (behind k d within) ∙ sym (passed row (behind k d within)) ∙ before k d within

-- fewer rows than before
pub run_shorter : {X : Type 0} (order : X → X → Ordering) → IsTotalOrder order → (x : X) (xs : List X) → length (drop (run order x (x ∷ xs)) (x ∷ xs)) < length (x ∷ xs)
run_shorter order total x xs =
    subst (λ (n : ℕ). length (drop n (x ∷ xs)) < length (x ∷ xs)) (sym (from_front order total x xs)) (omega (arith, length-drop (run order x xs) xs))
