-- What an expression is evaluated in.
use Rattle.std.specs.Prelude.{ℕ, List, Option}
use Rattle.cel_value.specs.declared.context.Context.{Context}
use Rattle.cel_value.specs.declared.value.Value.{Value}

pub record Setting : Type 0 where
  -- what is known of the request
  pub context : Context
  -- the name that a form round the expression brings in, and its value. No form brings one in yet
  pub variable : Option (List ℕ × Value)
