-- Rows in order stay so.
use Rattle.std.proofs.Common.{◌≡◌, ℕ, suc, ◌<◌, length, get_or, set, take, drop, Bool, true, false, List, [], ◌∷◌, ◌++◌, filter, refl, sym, ◌∙◌, ap, drop-cons}
use Rattle.std.specs.declared.cmp.Ordering.{Ordering}
use Rattle.std.specs.declared.cmp.Ordering.TheVariants.{Less, Equal, Greater}
use Rattle.std.specs.Ordering.{match_ordering, ordering_reverse}
use Rattle.std.specs.List.{All}
use Rattle.std.specs.Cmp.{IsTotalOrder}
use Rattle.std.proofs.lemmas.List.{set_split}
use Rattle.std.proofs.lemmas.List.Elements.{All-cons, All-head, All-tail, All-weaker, All-nil}
use Rattle.iam_text.specs.Put.{put, placed, IsInOrder}

-- a write over the row that has the same place
pub put-set : {X : Type 0} (order : X → X → Ordering) (row : X) (rows : List X) (at : ℕ) (other : X)
    → at < length rows → other ≡ get_or rows at other → order row other ≡ Equal
    → take at rows ++ put order row (drop at rows) ≡ put order row rows → set rows at row ≡ put order row rows
put-set order row rows at other within is same sofar =
    let split : drop at rows ≡ other ∷ drop (suc at) rows = drop-cons rows at other within ∙ ap (λ x. x ∷ drop (suc at) rows) (sym is) in
    let here : put order row (drop at rows) ≡ row ∷ drop (suc at) rows = rw (split, same) refl in
    set_split rows at row within ∙ ap (λ ys. take at rows ++ ys) (sym here) ∙ sofar

-- what holds of the row and of the others holds after the row was put
pub All-put : {X : Type 0} (P : X → Type 0) (order : X → X → Ordering) (row : X) (rows : List X) → P row → All P rows → All P (put order row rows)
All-put P order row [] holds all = All-cons P row [] holds all
All-put P order row (other ∷ rows) holds all =
    elim (order row other) as (λ o. All P (match_ordering o (row ∷ other ∷ rows) (row ∷ rows) (other ∷ put order row rows))) [
      | Less ↦ All-cons P row (other ∷ rows) holds all
      | Equal ↦ All-cons P row rows holds (All-tail P other rows all)
      | Greater ↦ All-cons P other (put order row rows) (All-head P other rows all) (All-put P order row rows holds (All-tail P other rows all))
    ]

-- what stands behind a row stands behind each that ties with it or stands before it
behind_tied : {X : Type 0} (order : X → X → Ordering) → IsTotalOrder order → (row other : X) (rows : List X) → order row other ≡ Equal → All (λ y. order other y ≡ Less) rows → All (λ y. order row y ≡ Less) rows
behind_tied {X} order total row other rows same all =
    All-weaker (λ (y : X). order other y ≡ Less) (λ (y : X). order row y ≡ Less) (λ y less. total.congr row other y same ∙ less) rows all

behind_before : {X : Type 0} (order : X → X → Ordering) → IsTotalOrder order → (row other : X) (rows : List X) → order row other ≡ Less → All (λ y. order other y ≡ Less) rows → All (λ y. order row y ≡ Less) rows
behind_before {X} order total row other rows before all =
    All-weaker (λ (y : X). order other y ≡ Less) (λ (y : X). order row y ≡ Less) (λ y less. total.trans row other y before less) rows all

pub put-IsInOrder : {X : Type 0} (order : X → X → Ordering) → IsTotalOrder order → (row : X) (rows : List X) → IsInOrder order rows → IsInOrder order (put order row rows)
put-IsInOrder {X} order total row [] h = (All-nil (λ (y : X). order row y ≡ Less), tt)
put-IsInOrder {X} order total row (other ∷ rows) h =
    elim (order row other) as (λ o. order row other ≡ o → IsInOrder order (match_ordering o (row ∷ other ∷ rows) (row ∷ rows) (other ∷ put order row rows))) [
      | Less ↦ λ is. (All-cons (λ (y : X). order row y ≡ Less) other rows is (behind_before order total row other rows is h.0), h)
      | Equal ↦ λ is. (behind_tied order total row other rows is h.0, h.1)
      | Greater ↦ λ is. (All-put (λ (y : X). order other y ≡ Less) order row rows (total.antisymm other row ∙ ap ordering_reverse is) h.0, put-IsInOrder order total row rows h.1)
    ] refl

pub placed-IsInOrder : {X : Type 0} (order : X → X → Ordering) → IsTotalOrder order → (rows : List X) → IsInOrder order (placed order rows)
placed-IsInOrder order total [] = tt
placed-IsInOrder order total (row ∷ rows) = put-IsInOrder order total row (placed order rows) (placed-IsInOrder order total rows)

-- a row that stands before all others is put in front
pub put-front : {X : Type 0} (order : X → X → Ordering) (row : X) (rows : List X) → All (λ y. order row y ≡ Less) rows → put order row rows ≡ row ∷ rows
put-front order row [] all = refl
put-front {X} order row (other ∷ rows) all = ap (λ o. match_ordering o (row ∷ other ∷ rows) (row ∷ rows) (other ∷ put order row rows)) (All-head (λ (y : X). order row y ≡ Less) other rows all)

-- rows in order are in their places
pub placed-in_order : {X : Type 0} (order : X → X → Ordering) (rows : List X) → IsInOrder order rows → placed order rows ≡ rows
placed-in_order order [] h = refl
placed-in_order order (row ∷ rows) h = ap (put order row) (placed-in_order order rows h.1) ∙ put-front order row rows h.0

-- what is taken out of rows in order leaves them in order
All-filter : {X : Type 0} (P : X → Type 0) (keep : X → Bool) (rows : List X) → All P rows → All P (filter keep rows)
All-filter P keep [] all = all
All-filter P keep (row ∷ rows) all =
    elim (keep row) as (λ b. keep row ≡ b → All P (filter keep (row ∷ rows))) [
      | true ↦ λ is. rw is (All-cons P row (filter keep rows) (All-head P row rows all) (All-filter P keep rows (All-tail P row rows all)))
      | false ↦ λ is. rw is (All-filter P keep rows (All-tail P row rows all))
    ] refl

pub filter-IsInOrder : {X : Type 0} (order : X → X → Ordering) (keep : X → Bool) (rows : List X) → IsInOrder order rows → IsInOrder order (filter keep rows)
filter-IsInOrder order keep [] h = tt
filter-IsInOrder {X} order keep (row ∷ rows) h =
    elim (keep row) as (λ b. keep row ≡ b → IsInOrder order (filter keep (row ∷ rows))) [
      | true ↦ λ is. rw is (All-filter (λ (y : X). order row y ≡ Less) keep rows h.0, filter-IsInOrder order keep rows h.1)
      | false ↦ λ is. rw is (filter-IsInOrder order keep rows h.1)
    ] refl
