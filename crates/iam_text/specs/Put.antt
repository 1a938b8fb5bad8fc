-- Rows in order, at most one in each place.
use Rattle.std.specs.Prelude.{◌≡◌, List, [], ◌∷◌, All}
use Rattle.std.specs.declared.cmp.Ordering.{Ordering}
use Rattle.std.specs.declared.cmp.Ordering.TheVariants.{Less}
use Rattle.std.specs.Ordering.{match_ordering}

-- before the first row that stands behind it, or over the row that has its place
abbrev pub put : {X : Type 0} → (X → X → Ordering) → X → List X → List X
put order row [] = row ∷ []
put order row (other ∷ rows) = match_ordering (order row other) (row ∷ other ∷ rows) (row ∷ rows) (other ∷ put order row rows)

-- the rows in their order; of several in one place the first stays
abbrev pub placed : {X : Type 0} → (X → X → Ordering) → List X → List X
placed order [] = []
placed order (row ∷ rows) = put order row (placed order rows)

-- each row stands before all that follow it
abbrev pub IsInOrder : {X : Type 0} → (X → X → Ordering) → List X → Type 0
IsInOrder order [] = Unit {0}
IsInOrder order (row ∷ rows) = All (λ other. order row other ≡ Less) rows × IsInOrder order rows
