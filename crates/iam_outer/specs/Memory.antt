-- What the objects in memory hold, and what a call of them does.
use Rattle.std.specs.Prelude.{ℕ, List, Contains}
use Rattle.iam_text.specs.declared.moment.Moment.{Moment}
use Rattle.iam_outer.specs.declared.keeper.Row.{Row}
use Rattle.iam_outer.specs.Causes.{one_more}

-- which calls fail, counted from 1, how many calls were made, and how many failed
pub record Failing : Type 0 where
  pub numbers : List ℕ
  pub calls : ℕ
  pub faults : ℕ

-- before the first call
abbrev pub fresh : List ℕ → Failing
fresh numbers = record { numbers = numbers; calls = 0; faults = 0 }

-- the number of the next call is among those that fail
abbrev pub FailsNext : Failing → Type 0
FailsNext f = Contains f.numbers (one_more f.calls)

-- after a call that did not fail
abbrev pub passed : Failing → Failing
passed f = record f { calls = one_more f.calls }

-- after a call that failed
abbrev pub failed : Failing → Failing
failed f = record f { calls = one_more f.calls; faults = one_more f.faults }

pub record Reading : Type 0 where
  pub left : List ℕ
  pub failing : Failing

pub record Writing : Type 0 where
  pub room : ℕ
  pub taken : List ℕ
  pub failing : Failing

pub record Ticking : Type 0 where
  pub moments : List Moment
  pub given : ℕ
  pub failing : Failing

-- the rows as they came or were written last; they are told in their order
pub record Keeping : Type 0 where
  pub rows : List Row
  pub failing : Failing
