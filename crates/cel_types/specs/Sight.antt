-- What a tree is looked at in.
use Rattle.std.specs.Prelude.{ℕ, List, Option, None}
use Rattle.cel_types.specs.declared.kind.Base.{Base}
use Rattle.cel_types.specs.declared.kind.Place.{Place}

pub record Sight : Type 0 where
  -- where the condition stands
  pub place : Place
  -- the name that a form round the tree brings in, and the base of its values. No form brings one in yet
  pub scope : Option (List ℕ × Base)

-- that of a whole condition
abbrev pub sight_of : Place → Sight
sight_of place = record { place = place; scope = None }
