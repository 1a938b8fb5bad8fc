-- What a conversation over an office of its own tells: a function of the first tables, the messages and the steps.
use Rattle.std.specs.Prelude.{List}
use Rattle.std.specs.declared.option.Option.{Option}
use Rattle.iam_outer.specs.declared.keeper.Row.{Row}
use Rattle.iam_types.specs.declared.command.Entry.{Entry}
use Rattle.iam_types.specs.declared.tables.Tables.{Tables}
use Rattle.iam_law.specs.History.{state, Legal}
use Rattle.iam_rows.specs.Kept.{KeepsTables}
use Rattle.iam_office.specs.Replied.{InTurn}
use Rattle.iam_office.specs.Turns.{Turn}

-- From these tables on the turns lead along one legal history, and known rows are those of its last state, with the entries that were only stored.
abbrev pub RanFrom : Tables → Option (List Row) → List Turn → Type 0
RanFrom tables rows turns =
    (history : List Entry) × Legal tables history × InTurn tables turns history × KeepsTables rows (state tables history)
