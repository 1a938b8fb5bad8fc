-- What a keeper's rows are opened as.
use Rattle.std.specs.Prelude.{◌≡◌, ◌⊎◌, List, [], ◌∷◌, Some, None, IsSomeAnd}
use Rattle.std.specs.declared.option.Option.{Option}
use Rattle.iam_types.specs.declared.fact.Fact.{Fact}
use Rattle.iam_types.specs.declared.tables.Opening.{Opening}
use Rattle.iam_types.specs.declared.tables.Tables.{Tables}
use Rattle.iam_model.specs.Broken.{IsFirstBroken}
use Rattle.iam_model.specs.Facts.{facts_of}
use Rattle.iam_model.specs.Opening.{opening_tables}
use Rattle.iam_law.specs.Good.{Good}
use Rattle.iam_outer.specs.declared.keeper.Row.{Row}
use Rattle.iam_rows.specs.Kept.{AreRows, AreFactsOf, IsFirstBadRow}
use Rattle.iam_keeping.specs.declared.stop.LoadFault.{LoadFault}
use Rattle.iam_keeping.specs.declared.stop.LoadFault.TheVariants.{Empty, BadRow, Inconsistent}

-- The tables that are opened: those of the rows, or the opening's where there are none. Where rows are there, an opening is passed over.
abbrev pub IsOpenedFrom : Option Opening → List Row → Tables → Type 0
IsOpenedFrom opening (row ∷ rows) tables = Good tables × AreRows (facts_of tables) (row ∷ rows)
IsOpenedFrom (Some opening) [] tables = tables ≡ opening_tables opening
IsOpenedFrom None [] tables = ⊥

-- why no tables are opened: there are no rows and no opening, a row is bad, or the facts of the rows break a rule
abbrev pub IsLoadFault : Option Opening → List Row → LoadFault → Type 0
IsLoadFault opening rows Empty = (rows ≡ []) × (opening ≡ None)
IsLoadFault opening rows (BadRow index) = IsFirstBadRow rows index
IsLoadFault opening rows (Inconsistent rule) = (facts : List Fact) × AreFactsOf rows facts × IsFirstBroken facts rule

-- what a keeper has once tables are opened: its rows as before, or the opening's, where it had none
abbrev pub IsLeft : Option Opening → Option (List Row) → Option (List Row) → Type 0
IsLeft opening before now =
    (now ≡ before)
    ⊎ ((before ≡ Some []) × IsSomeAnd opening (λ first. IsSomeAnd now (AreRows (facts_of (opening_tables first)))))
