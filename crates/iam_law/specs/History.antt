-- Histories of accepted entries.
use Rattle.std.specs.Prelude.{◌≡◌, List, [], ◌∷◌, None}
use Rattle.iam_types.specs.declared.command.Entry.{Entry}
use Rattle.iam_types.specs.declared.tables.Tables.{Tables}
use Rattle.iam_model.specs.Commands.{IsEntry, after}
use Rattle.iam_law.specs.Admit.{admission}
use Rattle.iam_law.specs.Good.{Good}

-- the tables after the entries
abbrev pub state : Tables → List Entry → Tables
state tables [] = tables
state tables (entry ∷ entries) = state (after tables entry) entries

-- each entry is well formed, and is accepted in the state after those before it
abbrev pub AllAccepted : Tables → List Entry → Type 0
AllAccepted tables [] = Unit {0}
AllAccepted tables (entry ∷ entries) = IsEntry entry × (admission tables entry ≡ None) × AllAccepted (after tables entry) entries

abbrev pub Legal : Tables → List Entry → Type 0
Legal tables entries = Good tables × AllAccepted tables entries
