-- What is known of legal histories.
use Rattle.std.specs.Prelude.{◌≡◌, ◌+◌, List, [], ◌∷◌, ◌++◌, None, length}
use Rattle.iam_types.specs.declared.command.Entry.{Entry}
use Rattle.iam_types.specs.declared.tables.Tables.{Tables}
use Rattle.iam_law.specs.Admit.{admission}
use Rattle.iam_model.specs.Commands.{IsEntry, after}
use Rattle.iam_law.specs.Good.{Good}
use Rattle.iam_law.specs.History.{state, Legal}

-- they grow by accepted entries, are counted, and keep the tables good
pub record Histories : Type 0 where
  pub legal : (tables : Tables) (entries : List Entry) (entry : Entry) → Legal tables entries → IsEntry entry → admission (state tables entries) entry ≡ None → Legal tables (entries ++ entry ∷ [])
  pub grown : (tables : Tables) (entries : List Entry) (entry : Entry) → state tables (entries ++ entry ∷ []) ≡ after (state tables entries) entry
  pub counted : (tables : Tables) (entries : List Entry) → Legal tables entries → (state tables entries).org.changes ≡ tables.org.changes + length entries
  pub good : (tables : Tables) (entries : List Entry) → Legal tables entries → Good (state tables entries)
