-- What a row of the answer shows.
use Rattle.std.specs.Prelude.{List}
use Rattle.sqlite_value.specs.declared.value.Value.{Value}
use Rattle.sqlite_value.specs.declared.value.Value.TheVariants.{Text}
use Rattle.sqlite_value.specs.Order.{column}
use Rattle.iam_outer.specs.declared.keeper.Row.{Row}

-- the first three columns
abbrev pub columns_of : List Value → Value × Value × Value
columns_of found = (column found 0, column found 1, column found 2)

-- the columns of a row: its part, its name and its body, as texts
abbrev pub shown : Row → Value × Value × Value
shown row = (Text row.part, Text row.name, Text row.body)
