-- What holds of the tables at every moment.
use Rattle.std.specs.Prelude.{◌≡◌, Bool, true, is_none, All}
use Rattle.std.specs.declared.option.Option.{Option}
use Rattle.iam_types.specs.declared.allow.Condition.{Condition}
use Rattle.iam_types.specs.declared.tables.Tables.{Tables}
use Rattle.iam_model.specs.Consistent.{Consistent}

-- A condition may stand in the tables. None that is given may yet.
abbrev pub may_stand : Option Condition → Bool
may_stand condition = is_none condition

-- each condition of the tables may stand there
pub record ConditionsStand (tables : Tables) : Type 0 where
  pub allows : All (λ policy. All (λ binding. may_stand binding.condition ≡ true) policy.bindings) tables.allows
  pub denies : All (λ policy. All (λ rule. may_stand rule.condition ≡ true) policy.rules) tables.denies
  pub bounds : All (λ binding. may_stand binding.condition ≡ true) tables.bounds

abbrev pub Good : Tables → Type 0
Good tables = Consistent tables × ConditionsStand tables
