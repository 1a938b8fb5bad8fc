-- The rows of many facts, and the writes that keep changes of facts.
use Rattle.std.specs.Prelude.{◌≡◌, ℕ, List, [], ◌∷◌, ◌++◌, length, IfSome}
use Rattle.std.specs.declared.option.Option.{Option}
use Rattle.iam_types.specs.declared.fact.Fact.{Fact}
use Rattle.iam_types.specs.declared.fact.FactChange.{FactChange}
use Rattle.iam_types.specs.declared.fact.FactChange.TheVariants as change
use Rattle.iam_types.specs.declared.tables.Tables.{Tables}
use Rattle.iam_model.specs.Facts.{facts_of}
use Rattle.iam_model.specs.Parts.{part_of, key_of}
use Rattle.iam_outer.specs.declared.keeper.Row.{Row}
use Rattle.iam_outer.specs.declared.keeper.RowWrite.{RowWrite}
use Rattle.iam_outer.specs.declared.keeper.RowWrite.TheVariants as write
use Rattle.iam_rows.specs.Finding.{IsFactOf}
use Rattle.iam_rows.specs.Rows.{HasRow}

-- each fact has the row in its place
abbrev pub AreRows : List Fact → List Row → Type 0
AreRows [] [] = Unit {0}
AreRows (fact ∷ facts) (row ∷ rows) = HasRow fact row × AreRows facts rows
AreRows [] (row ∷ rows) = ⊥
AreRows (fact ∷ facts) [] = ⊥

-- known rows are those of the tables' facts, in their order
abbrev pub KeepsTables : Option (List Row) → Tables → Type 0
KeepsTables rows tables = IfSome rows (AreRows (facts_of tables))

-- a fact that is put is written as its row, and one that is cut is cut in its place
abbrev pub IsWrite : FactChange → RowWrite → Type 0
IsWrite (change.Put fact) (write.Put row) = HasRow fact row
IsWrite (change.Cut fact) (write.Cut part name) = (part ≡ part_of fact) × (name ≡ key_of fact)
IsWrite (change.Put fact) (write.Cut part name) = ⊥
IsWrite (change.Cut fact) (write.Put row) = ⊥

-- a write for each change
abbrev pub AreWrites : List FactChange → List RowWrite → Type 0
AreWrites [] [] = Unit {0}
AreWrites (change ∷ changes) (write ∷ writes) = IsWrite change write × AreWrites changes writes
AreWrites [] (write ∷ writes) = ⊥
AreWrites (change ∷ changes) [] = ⊥

-- each row has a well formed fact, which is the one in its place
abbrev pub AreFactsOf : List Row → List Fact → Type 0
AreFactsOf [] [] = Unit {0}
AreFactsOf (row ∷ rows) (fact ∷ facts) = IsFactOf row fact × AreFactsOf rows facts
AreFactsOf [] (fact ∷ facts) = ⊥
AreFactsOf (row ∷ rows) [] = ⊥

-- the first row that no well formed fact has, by its place from 0
abbrev pub IsFirstBadRow : List Row → ℕ → Type 0
IsFirstBadRow rows index = (good : List Row) × (bad : Row) × (rest : List Row) × (facts : List Fact)
    × (rows ≡ good ++ bad ∷ rest) × (length good ≡ index) × AreFactsOf good facts × ((fact : Fact) → ¬ IsFactOf bad fact)
