-- What the changes of an accepted entry lead to.
use Rattle.std.specs.Prelude.{◌≡◌, List}
use Rattle.iam_types.specs.declared.command.Entry.{Entry}
use Rattle.iam_types.specs.declared.fact.FactChange.{FactChange}
use Rattle.iam_types.specs.declared.tables.Tables.{Tables}
use Rattle.iam_model.specs.Commands.{after}
use Rattle.iam_model.specs.Facts.{facts_of, with_changes}

-- the changes lead from the facts before the entry to those after it
abbrev pub LeadTo : Tables → Entry → List FactChange → Type 0
LeadTo tables entry changes = with_changes (facts_of tables) changes ≡ facts_of (after tables entry)
