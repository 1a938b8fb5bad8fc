-- What a condition shows.
use Rattle.std.specs.Prelude.{Bool, true, false, Some, None}
use Rattle.std.specs.declared.option.Option.{Option}
use Rattle.iam_types.specs.declared.allow.Condition.{Condition}
use Rattle.iam_types.specs.declared.explanation.Shown.{Shown}
use Rattle.iam_types.specs.declared.explanation.Shown.TheVariants.{Absent, True, False, Error}
use Rattle.iam_types.specs.declared.query.Query.{Query}

-- One that is given has no meaning yet, so it is an error. None can be stored either.
abbrev pub shown : Query → Option Condition → Shown
shown query None = Absent
shown query (Some condition) = Error

-- a binding grants where its condition is absent or true
abbrev pub lets_grant : Shown → Bool
lets_grant Absent = true
lets_grant True = true
lets_grant False = false
lets_grant Error = false
