-- What a keeper has once tables are opened.
use Rattle.std.proofs.Common.{◌≡◌, ◌∙◌, List, [], ◌∷◌, map, Option, Some, None, inl, inr, ap, refl, sym, subst}
use Rattle.std.specs.Prelude.{◌↔◌, Contains, IfSome, IsSomeAnd}
use Rattle.iam_text.specs.Put.{placed, IsInOrder}
use Rattle.iam_types.specs.declared.fact.Fact.{Fact}
use Rattle.iam_types.specs.declared.tables.Opening.{Opening}
use Rattle.iam_types.specs.declared.tables.Tables.{Tables}
use Rattle.iam_types.specs.declared.fact.FactChange.{FactChange}
use Rattle.iam_types.specs.declared.fact.FactChange.TheVariants.{Put}
use Rattle.iam_model.specs.Broken.{GiveTables}
use Rattle.iam_model.specs.Consistent.{Consistent}
use Rattle.iam_model.specs.Facts.{AreApart, fact_order, facts_of, with_changes}
use Rattle.iam_model.specs.Opening.{opening_tables}
use Rattle.iam_model.specs.Part.{rows_in}
use Rattle.iam_model.specs.Parts.{org_part}
use Rattle.iam_law.specs.Good.{Good}
use Rattle.iam_outer.specs.declared.keeper.Row.{Row}
use Rattle.iam_outer.specs.declared.keeper.RowWrite.{RowWrite}
use Rattle.iam_outer.specs.Rows.{after_writes, Written}
use Rattle.iam_rows.specs.Kept.{AreRows, AreWrites}
use Rattle.iam_keeping.specs.Opened.{IsLeft, IsOpenedFrom}

-- what follows of the law that writes lead from rows to rows
abbrev pub Follow : Type 0
Follow = (facts : List Fact) (rows : List Row) (changes : List FactChange) (writes : List RowWrite) → AreRows facts rows → AreWrites changes writes → AreRows (with_changes facts changes) (after_writes writes rows)

put_over_none : Follow → (facts : List Fact) (rows : List Row) (writes : List RowWrite) → with_changes [] (map Put facts) ≡ facts → AreWrites (map Put facts) writes → rows ≡ [] → AreRows facts (after_writes writes rows)
put_over_none law facts rows writes put are empty =
    subst (λ (fs : List Fact). AreRows fs (after_writes writes rows)) put (law [] rows (map Put facts) writes (subst (AreRows []) (sym empty) tt) are)

-- facts that are put where there are no rows are kept
pub kept_by : Follow → (facts : List Fact) (before now : Option (List Row)) (writes : List RowWrite) → with_changes [] (map Put facts) ≡ facts → AreWrites (map Put facts) writes
    → IfSome before (λ rows. rows ≡ []) → Written before now writes → IfSome now (AreRows facts)
kept_by law facts None now writes put are empty written = subst (λ (o : Option (List Row)). IfSome o (AreRows facts)) (sym written) tt
kept_by law facts (Some rows) now writes put are empty written = subst (λ (o : Option (List Row)). IfSome o (AreRows facts)) (sym written) (put_over_none law facts rows writes put are empty)

-- the opening's rows were kept where there were none
pub left_by : Follow → (opening : Opening) (before now : Option (List Row)) (writes : List RowWrite) → with_changes [] (map Put (facts_of (opening_tables opening))) ≡ facts_of (opening_tables opening)
    → AreWrites (map Put (facts_of (opening_tables opening))) writes → IfSome before (λ rows. rows ≡ []) → Written before now writes → IsLeft (Some opening) before now
left_by law opening None now writes put are empty written = inl written
left_by law opening (Some rows) now writes put are empty written =
    inr (ap Some empty, subst (λ (o : Option (List Row)). IsSomeAnd o (AreRows (facts_of (opening_tables opening)))) (sym written) (put_over_none law (facts_of (opening_tables opening)) rows writes put are empty))

-- what is known of facts in order, and of consistent tables
abbrev pub Placed : Type 0
Placed = (facts : List Fact) → IsInOrder fact_order facts → (placed fact_order facts ≡ facts) × AreApart facts

abbrev pub Given : Type 0
Given = (facts : List Fact) (tables : Tables) → Consistent tables → AreApart facts → ((fact : Fact) → Contains facts fact ↔ Contains (facts_of tables) fact) → GiveTables facts tables

no_facts : (facts : List Fact) → AreRows facts [] → facts ≡ []
no_facts [] are = refl
no_facts (fact ∷ facts) are = absurd are

-- tables have the fact of their organisation, so they have a row
some_row : Placed → Given → (tables : Tables) → Consistent tables → AreRows (facts_of tables) [] → ⊥
some_row ordered given tables consistent are =
    let facts : List Fact = facts_of tables in
    let gives : GiveTables facts tables = given facts tables consistent (ordered facts consistent.ordered).1 (λ fact. (λ there. there, λ there. there)) in
    let none : [] ≡ tables.org ∷ [] = ap (rows_in org_part) (sym (no_facts facts are)) ∙ gives.org in
    cc none

pub opened_once : Placed → Given → ((a b : Tables) (rows : List Row) → Consistent a → Consistent b → AreRows (facts_of a) rows → AreRows (facts_of b) rows → a ≡ b)
    → (opening : Option Opening) (rows : List Row) (kept opened : Tables) → Good kept → AreRows (facts_of kept) rows → IsOpenedFrom opening rows opened → opened ≡ kept
opened_once ordered given law opening [] kept opened good are from = absurd (some_row ordered given kept good.0 are)
opened_once ordered given law opening (row ∷ rows) kept opened good are from = law opened kept (row ∷ rows) from.0.0 good.0 from.1 are
