-- One kind of facts: how a row is a fact, and how it is found again.
use Rattle.std.specs.Prelude.{◌≡◌, ℕ, false, List, [], ◌∷◌, All, flat_map}
use Rattle.std.specs.declared.option.Option.{Option}
use Rattle.std.specs.declared.cmp.Ordering.{Ordering}
use Rattle.std.specs.Ordering.{nat_cmp, is_eq}
use Rattle.std.specs.Option.{option_map_or}
use Rattle.std.specs.Cmp.Lexicographic.{slice_cmp}
use Rattle.iam_text.specs.Put.{placed}
use Rattle.iam_types.specs.declared.fact.Fact.{Fact}

-- Facts of one part have its name. Of its rows at most one has a key, and they stand by their keys.
pub record Part (A : Type 0) : Type 0 where
  pub name : List ℕ
  pub wrap : A → Fact
  pub out : Fact → Option A
  pub key : A → List ℕ

-- the only order of the part's rows
abbrev pub order_in : {A : Type 0} → Part A → A → A → Ordering
order_in part a b = slice_cmp nat_cmp (part.key a) (part.key b)

-- the row of a fact, alone, or none where the fact is of another part
abbrev pub found : {A : Type 0} → Part A → Fact → List A
found part fact = option_map_or (λ row. row ∷ []) (part.out fact) []

-- the rows of the part among facts
abbrev pub rows_in : {A : Type 0} → Part A → List Fact → List A
rows_in part facts = flat_map (found part) facts

-- the rows of the part among facts, in their order
abbrev pub table_of : {A : Type 0} → Part A → List Fact → List A
table_of part facts = placed (order_in part) (rows_in part facts)

-- no two rows are in one place
abbrev pub AreApartBy : {X : Type 0} → (X → X → Ordering) → List X → Type 0
AreApartBy order [] = Unit {0}
AreApartBy order (row ∷ rows) = All (λ other. is_eq (order row other) ≡ false) rows × AreApartBy order rows
