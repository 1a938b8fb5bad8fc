-- Whether facts gave tables back.
use Rattle.std.specs.Prelude.{◌≡◌, Result, Ok, Err}
use Rattle.iam_types.specs.declared.tables.Tables.{Tables}
use Rattle.iam_tables.specs.declared.stop.TablesStop.{TablesStop}
use Rattle.iam_tables.specs.declared.stop.TablesStop.TheVariants.{Inconsistent, OutOfMemory}

-- these tables, unless memory was refused
abbrev pub GivesBack : Tables → Result Tables TablesStop → Type 0
GivesBack tables (Ok given) = given ≡ tables
GivesBack tables (Err (Inconsistent rule)) = ⊥
GivesBack tables (Err OutOfMemory) = Unit {0}
