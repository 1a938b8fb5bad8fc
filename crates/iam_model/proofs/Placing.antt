-- Rows in their places, by any order: which they are, and how many.
use Rattle.std.proofs.Common.{◌≡◌, ◌⊎◌, inl, inr, suc, zero, ◌+◌, ◌≤◌, true, false, List, [], ◌∷◌, ◌++◌, length, refl, sym, ap, subst, ◌∙◌, arith}
use Rattle.std.specs.Prelude.{◌↔◌, Contains}
use Rattle.std.specs.List.{All}
use Rattle.std.specs.Cmp.{IsTotalOrder}
use Rattle.std.specs.declared.cmp.Ordering.{Ordering}
use Rattle.std.specs.declared.cmp.Ordering.TheVariants.{Less, Equal, Greater}
use Rattle.std.specs.Ordering.{match_ordering, ordering_reverse, is_eq}
use Rattle.std.proofs.lemmas.Bool.{both_ways}
use Rattle.std.proofs.lemmas.Cmp.{tied_itself}
use Rattle.std.proofs.lemmas.List.Elements.{All-cons, All-contains, All-contains_itself, All-head, All-tail, All-nil, All-weaker}
use Rattle.iam_text.specs.Put.{put, placed, IsInOrder}
use Rattle.iam_text.proofs.InOrder.{All-put, placed-IsInOrder}
use Rattle.iam_model.specs.Part.{AreApartBy}

-- rows in order are apart
pub ordered_apart : {X : Type 0} (order : X → X → Ordering) (rows : List X) → IsInOrder order rows → AreApartBy order rows
ordered_apart order [] ordered = tt
ordered_apart {X} order (first ∷ rows) ordered =
    (All-weaker (λ (other : X). order first other ≡ Less) (λ (other : X). is_eq (order first other) ≡ false) (λ other less. ap is_eq less) rows ordered.0, ordered_apart order rows ordered.1)

-- a row behind all others is put at the end
pub put_last : {X : Type 0} (order : X → X → Ordering) → IsTotalOrder order → (row : X) (rows : List X) → All (λ other. order other row ≡ Less) rows → put order row rows ≡ rows ++ row ∷ []
put_last order total row [] all = refl
put_last {X} order total row (other ∷ rows) all =
    let greater : order row other ≡ Greater = total.antisymm row other ∙ ap ordering_reverse (All-head (λ (y : X). order y row ≡ Less) other rows all) in
    ap (λ o. match_ordering o (row ∷ other ∷ rows) (row ∷ rows) (other ∷ put order row rows)) greater
    ∙ ap (λ (ys : List X). other ∷ ys) (put_last order total row rows (All-tail (λ (y : X). order y row ≡ Less) other rows all))

-- ---- which rows are in their places

pub Contains-cases : {X : Type 0} (x : X) (xs : List X) (z : X) → Contains (x ∷ xs) z → (x ≡ z) ⊎ Contains xs z
Contains-cases x xs z (zero, within, is) = inl is
Contains-cases x xs z (suc k, within, is) = inr (k, omega (arith, within), is)

pub Contains-here : {X : Type 0} (x : X) (xs : List X) → Contains (x ∷ xs) x
Contains-here x xs = (0, omega arith, refl)

pub Contains-there : {X : Type 0} (x : X) (xs : List X) (z : X) → Contains xs z → Contains (x ∷ xs) z
Contains-there x xs z (k, within, is) = (suc k, omega (arith, within), is)

not_both : {X : Type 0} (order : X → X → Ordering) → IsTotalOrder order → (x y : X) → order x y ≡ Less → order y x ≡ Less → ⊥
not_both order total x y less back = let greater : order x y ≡ Greater = total.antisymm x y ∙ ap ordering_reverse back in absurd (cc)

-- lists in order with the same elements are the same
pub same_in_order : {X : Type 0} (order : X → X → Ordering) → IsTotalOrder order → (xs ys : List X) → IsInOrder order xs → IsInOrder order ys
    → ((z : X) → Contains xs z → Contains ys z) → ((z : X) → Contains ys z → Contains xs z) → xs ≡ ys
same_in_order order total [] [] ox oy to from = refl
same_in_order order total [] (y ∷ ys) ox oy to from = let none = from y (Contains-here y ys) in absurd (omega (arith, none.1))
same_in_order order total (x ∷ xs) [] ox oy to from = let none = to x (Contains-here x xs) in absurd (omega (arith, none.1))
same_in_order {X} order total (x ∷ xs) (y ∷ ys) ox oy to from =
    let first : x ≡ y = heads (Contains-cases y ys x (to x (Contains-here x xs))) (Contains-cases x xs y (from y (Contains-here y ys))) in
    let rest : xs ≡ ys = same_in_order order total xs ys ox.1 oy.1 (λ z there. past y ys z (λ is. behind z there (first ∙ is)) (to z (Contains-there x xs z there))) (λ z there. past x xs z (λ is. ahead z there (sym first ∙ is)) (from z (Contains-there y ys z there))) in
    cc
  where
    heads : (y ≡ x) ⊎ Contains ys x → (x ≡ y) ⊎ Contains xs y → x ≡ y
    heads (inl is) other = sym is
    heads (inr there) (inl is) = is
    heads (inr there) (inr back) = absurd (not_both order total x y (All-contains (λ (z : X). order x z ≡ Less) xs y ox.0 back) (All-contains (λ (z : X). order y z ≡ Less) ys x oy.0 there))

    -- what follows a head isn't that head
    behind : (z : X) → Contains xs z → x ≡ z → ⊥
    behind z there is = let less : order x z ≡ Less = All-contains (λ (w : X). order x w ≡ Less) xs z ox.0 there in let tied : order x z ≡ Equal = subst (λ (w : X). order x w ≡ Equal) is (tied_itself total x) in absurd (cc)

    ahead : (z : X) → Contains ys z → y ≡ z → ⊥
    ahead z there is = let less : order y z ≡ Less = All-contains (λ (w : X). order y w ≡ Less) ys z oy.0 there in let tied : order y z ≡ Equal = subst (λ (w : X). order y w ≡ Equal) is (tied_itself total y) in absurd (cc)

    past : (w : X) (ws : List X) (z : X) → (w ≡ z → ⊥) → Contains (w ∷ ws) z → Contains ws z
    past w ws z other there = elim (Contains-cases w ws z there) [ inl is ↦ absurd (other is) | inr more ↦ more ]

pub put_here : {X : Type 0} (order : X → X → Ordering) (row : X) (rows : List X) → Contains (put order row rows) row
put_here order row [] = Contains-here row []
put_here order row (other ∷ rows) =
    elim (order row other) as (λ o. Contains (match_ordering o (row ∷ other ∷ rows) (row ∷ rows) (other ∷ put order row rows)) row) [
      | Less ↦ Contains-here row (other ∷ rows)
      | Equal ↦ Contains-here row rows
      | Greater ↦ Contains-there other (put order row rows) row (put_here order row rows)
    ]

put_cases : {X : Type 0} (order : X → X → Ordering) (row : X) (rows : List X) (z : X) → Contains (put order row rows) z → (row ≡ z) ⊎ Contains rows z
put_cases order row [] z = λ there. Contains-cases row [] z there
put_cases {X} order row (other ∷ rows) z =
    elim (order row other) as (λ o. Contains (match_ordering o (row ∷ other ∷ rows) (row ∷ rows) (other ∷ put order row rows)) z → (row ≡ z) ⊎ Contains (other ∷ rows) z) [
      | Less ↦ λ there. Contains-cases row (other ∷ rows) z there
      | Equal ↦ λ there. elim (Contains-cases row rows z there) [ inl is ↦ inl is | inr more ↦ inr (Contains-there other rows z more) ]
      | Greater ↦ λ there. elim (Contains-cases other (put order row rows) z there) [
        | inl is ↦ inr (subst (λ (w : X). Contains (other ∷ rows) w) is (Contains-here other rows))
        | inr more ↦ elim (put_cases order row rows z more) [ inl is ↦ inl is | inr still ↦ inr (Contains-there other rows z still) ]
      ]
    ]

-- a row in another place stays
pub put_keeps : {X : Type 0} (order : X → X → Ordering) (row : X) (rows : List X) (z : X) → is_eq (order row z) ≡ false → Contains rows z → Contains (put order row rows) z
put_keeps order row [] z apart there = Contains-there row [] z there
put_keeps {X} order row (other ∷ rows) z apart there =
    elim (order row other) as (λ o. order row other ≡ o → Contains (match_ordering o (row ∷ other ∷ rows) (row ∷ rows) (other ∷ put order row rows)) z) [
      | Less ↦ λ is. Contains-there row (other ∷ rows) z there
      | Equal ↦ λ is. elim (Contains-cases other rows z there) [
        | inl same ↦ absurd (both_ways (is_eq (order row z)) apart (subst (λ (w : X). is_eq (order row w) ≡ true) same (ap is_eq is)))
        | inr more ↦ Contains-there row rows z more
      ]
      | Greater ↦ λ is. elim (Contains-cases other rows z there) [
        | inl same ↦ subst (λ (w : X). Contains (other ∷ put order row rows) w) same (Contains-here other (put order row rows))
        | inr more ↦ Contains-there other (put order row rows) z (put_keeps order row rows z apart more)
      ]
    ] refl

pub placed_from : {X : Type 0} (order : X → X → Ordering) (rows : List X) (z : X) → Contains (placed order rows) z → Contains rows z
placed_from order [] z there = there
placed_from {X} order (first ∷ rows) z there = elim (put_cases order first (placed order rows) z there) [
  | inl is ↦ subst (λ (w : X). Contains (first ∷ rows) w) is (Contains-here first rows)
  | inr more ↦ Contains-there first rows z (placed_from order rows z more)
]

pub placed_has : {X : Type 0} (order : X → X → Ordering) (rows : List X) (z : X) → AreApartBy order rows → Contains rows z → Contains (placed order rows) z
placed_has order [] z apart there = there
placed_has {X} order (first ∷ rows) z apart there = elim (Contains-cases first rows z there) [
  | inl is ↦ subst (λ (w : X). Contains (put order first (placed order rows)) w) is (put_here order first (placed order rows))
  | inr more ↦ put_keeps order first (placed order rows) z (All-contains (λ (other : X). is_eq (order first other) ≡ false) rows z apart.0 more) (placed_has order rows z apart.1 more)
]

-- each row's place is taken, by it or by another
pub placed_tied : {X : Type 0} (order : X → X → Ordering) → IsTotalOrder order → (rows : List X) (x : X) → Contains rows x → (y : X) × Contains (placed order rows) y × (order y x ≡ Equal)
placed_tied order total [] x there = absurd (omega (arith, there.1))
placed_tied {X} order total (first ∷ rows) x there = elim (Contains-cases first rows x there) [
  | inl same ↦ (first, put_here order first (placed order rows), subst (λ (y : X). order first y ≡ Equal) same (tied_itself total first))
  | inr more ↦ over (placed_tied order total rows x more)
]
  where
    over : ((y : X) × Contains (placed order rows) y × (order y x ≡ Equal)) → (y : X) × Contains (put order first (placed order rows)) y × (order y x ≡ Equal)
    over (y, kept, tied) =
        elim (order first y) as (λ o. order first y ≡ o → (z : X) × Contains (put order first (placed order rows)) z × (order z x ≡ Equal)) [
          | Less ↦ λ is. (y, put_keeps order first (placed order rows) y (ap is_eq is) kept, tied)
          | Equal ↦ λ is. (first, put_here order first (placed order rows), total.congr first y x is ∙ tied)
          | Greater ↦ λ is. (y, put_keeps order first (placed order rows) y (ap is_eq is) kept, tied)
        ] refl

-- ---- how many

pub All-placed : {X : Type 0} (P : X → Type 0) (order : X → X → Ordering) (rows : List X) → All P rows → All P (placed order rows)
All-placed P order [] all = all
All-placed P order (row ∷ rows) all = All-put P order row (placed order rows) (All-head P row rows all) (All-placed P order rows (All-tail P row rows all))

put_longer : {X : Type 0} (order : X → X → Ordering) (row : X) (rows : List X) → length (put order row rows) ≤ length rows + 1
put_longer order row [] = omega arith
put_longer {X} order row (other ∷ rows) =
    elim (order row other) as (λ o. length (match_ordering o (row ∷ other ∷ rows) (row ∷ rows) (other ∷ put order row rows)) ≤ length (other ∷ rows) + 1) [
      | Less ↦ omega arith
      | Equal ↦ omega arith
      | Greater ↦ omega (arith, put_longer order row rows)
    ]

pub put_some : {X : Type 0} (order : X → X → Ordering) (row : X) (rows : List X) → 1 ≤ length (put order row rows)
put_some order row [] = omega arith
put_some {X} order row (other ∷ rows) =
    elim (order row other) as (λ o. 1 ≤ length (match_ordering o (row ∷ other ∷ rows) (row ∷ rows) (other ∷ put order row rows))) [
      | Less ↦ omega arith
      | Equal ↦ omega arith
      | Greater ↦ omega arith
    ]

-- a row that is in a place of its own makes them longer
pub put_apart : {X : Type 0} (order : X → X → Ordering) (row : X) (rows : List X) → All (λ other. is_eq (order row other) ≡ false) rows → length (put order row rows) ≡ length rows + 1
put_apart order row [] apart = omega arith
put_apart {X} order row (other ∷ rows) apart =
    elim (order row other) as (λ o. order row other ≡ o → length (match_ordering o (row ∷ other ∷ rows) (row ∷ rows) (other ∷ put order row rows)) ≡ length (other ∷ rows) + 1) [
      | Less ↦ λ is. omega arith
      | Equal ↦ λ is. absurd (both_ways (is_eq (order row other)) (All-head (λ (z : X). is_eq (order row z) ≡ false) other rows apart) (ap is_eq is))
      | Greater ↦ λ is. omega (arith, put_apart order row rows (All-tail (λ (z : X). is_eq (order row z) ≡ false) other rows apart))
    ] refl

-- among rows in order a row that makes them longer is in a place of its own
longer_apart : {X : Type 0} (order : X → X → Ordering) → IsTotalOrder order → (row : X) (rows : List X) → IsInOrder order rows → length (put order row rows) ≡ length rows + 1 → All (λ other. is_eq (order row other) ≡ false) rows
longer_apart {X} order total row [] ordered = λ longer. All-nil (λ (z : X). is_eq (order row z) ≡ false)
longer_apart {X} order total row (other ∷ rows) ordered =
    elim (order row other) as (λ o. order row other ≡ o → length (match_ordering o (row ∷ other ∷ rows) (row ∷ rows) (other ∷ put order row rows)) ≡ length (other ∷ rows) + 1 → All (λ (z : X). is_eq (order row z) ≡ false) (other ∷ rows)) [
      | Less ↦ λ is longer. All-cons (λ (z : X). is_eq (order row z) ≡ false) other rows (ap is_eq is)
          (All-weaker (λ (z : X). order other z ≡ Less) (λ (z : X). is_eq (order row z) ≡ false) (λ z less. ap is_eq (total.trans row other z is less)) rows ordered.0)
      | Equal ↦ λ is longer. absurd (omega (arith, longer))
      | Greater ↦ λ is longer. All-cons (λ (z : X). is_eq (order row z) ≡ false) other rows (ap is_eq is) (longer_apart order total row rows ordered.1 (omega (arith, longer)))
    ] refl

placed_shorter : {X : Type 0} (order : X → X → Ordering) (rows : List X) → length (placed order rows) ≤ length rows
placed_shorter order [] = omega arith
placed_shorter order (first ∷ rows) = omega (arith, put_longer order first (placed order rows), placed_shorter order rows)

apart_counted : {X : Type 0} (order : X → X → Ordering) (rows : List X) → AreApartBy order rows → length (placed order rows) ≡ length rows
apart_counted order [] apart = refl
apart_counted {X} order (first ∷ rows) apart =
    omega (arith, put_apart order first (placed order rows) (All-placed (λ (z : X). is_eq (order first z) ≡ false) order rows apart.0), apart_counted order rows apart.1)

counted_apart : {X : Type 0} (order : X → X → Ordering) → IsTotalOrder order → (rows : List X) → length (placed order rows) ≡ length rows → AreApartBy order rows
counted_apart order total [] counted = tt
counted_apart {X} order total (first ∷ rows) counted =
    let rest : AreApartBy order rows = counted_apart order total rows (omega (arith, counted, put_longer order first (placed order rows), placed_shorter order rows)) in
    let behind : All (λ (z : X). is_eq (order first z) ≡ false) (placed order rows) =
    longer_apart order total first (placed order rows) (placed-IsInOrder order total rows) (omega (arith, counted, apart_counted order rows rest)) in
    (All-weaker (Contains rows) (λ (z : X). is_eq (order first z) ≡ false) (λ z there. All-contains (λ (w : X). is_eq (order first w) ≡ false) (placed order rows) z behind (placed_has order rows z rest there)) rows (All-contains_itself rows), rest)

pub all_counted : {X : Type 0} (order : X → X → Ordering) → IsTotalOrder order → (rows : List X) → (length (placed order rows) ≡ length rows) ↔ AreApartBy order rows
all_counted order total rows = (counted_apart order total rows, apart_counted order rows)
