-- Which rules facts break that are to be tables.
use Rattle.std.specs.Prelude.{◌≡◌, ℕ, List, [], ◌∷◌}
use Rattle.iam_types.specs.declared.fact.Fact.{Fact}
use Rattle.iam_types.specs.declared.node.Org.{Org}
use Rattle.iam_types.specs.declared.tables.Tables.{Tables}
use Rattle.iam_model.specs.Consistent.{FoldersFit, HierarchyStands, Keeps, NumbersFit, ParentsAreActive, ParentsLead, PoliciesStand, SetByChanges, WithinLimits}
use Rattle.iam_model.specs.Facts.{AreApart, tables_with}
use Rattle.iam_model.specs.Part.{rows_in}
use Rattle.iam_model.specs.Parts.{org_part}

-- the one organisation of the facts
abbrev pub IsOnlyOrg : List Fact → Org → Type 0
IsOnlyOrg facts org = rows_in org_part facts ≡ org ∷ []

-- there is exactly one organisation
abbrev pub HasOneOrg : List Fact → Type 0
HasOneOrg facts = (org : Org) × IsOnlyOrg facts org

-- the facts give these tables, which keep all rules
pub record GiveTables (facts : List Fact) (tables : Tables) : Type 0 where
  pub org : IsOnlyOrg facts tables.org
  pub apart : AreApart facts
  pub lists : tables ≡ tables_with tables.org facts
  pub keeps : Keeps tables

-- the first rule that tables break, by its number
pub data IsFirstBrokenBy (tables : Tables) : ℕ → Type 0 where
  parents : ¬ ParentsLead tables → IsFirstBrokenBy tables 3
  folders : ParentsLead tables → ¬ FoldersFit tables → IsFirstBrokenBy tables 4
  active : ParentsLead tables → FoldersFit tables → ¬ ParentsAreActive tables → IsFirstBrokenBy tables 5
  numbers : HierarchyStands tables → ¬ NumbersFit tables → IsFirstBrokenBy tables 6
  policies : HierarchyStands tables → NumbersFit tables → ¬ PoliciesStand tables → IsFirstBrokenBy tables 10
  limits : HierarchyStands tables → NumbersFit tables → PoliciesStand tables → ¬ WithinLimits tables → IsFirstBrokenBy tables 13
  sets : HierarchyStands tables → NumbersFit tables → PoliciesStand tables → WithinLimits tables → ¬ SetByChanges tables → IsFirstBrokenBy tables 14

-- the first rule that facts break, by its number
pub data IsFirstBroken (facts : List Fact) : ℕ → Type 0 where
  one_org : ¬ HasOneOrg facts → IsFirstBroken facts 1
  apart : HasOneOrg facts → ¬ AreApart facts → IsFirstBroken facts 2
  tables : {org : Org} {rule : ℕ} → IsOnlyOrg facts org → AreApart facts → IsFirstBrokenBy (tables_with org facts) rule → IsFirstBroken facts rule
