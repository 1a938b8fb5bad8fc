-- The tag keys of a context, and what is answered of them.
use Rattle.std.specs.Prelude.{◌≡◌, ℕ, List, Option, Some, None, find, ◌==◌}
use Rattle.std.specs.Str.{bytes_eq}
use Rattle.cel_value.specs.declared.context.KeyFact.{KeyFact}
use Rattle.cel_value.specs.declared.context.ValueFact.{ValueFact}
use Rattle.cel_value.specs.declared.facts.KeyAnswer.{KeyAnswer}
use Rattle.cel_value.specs.declared.facts.KeyAnswer.TheVariants.{Unknown, Unbound, Bound}

-- the first key with the name
abbrev pub key_named : List ℕ → List KeyFact → Option KeyFact
key_named name keys = find (λ key. bytes_eq key.name name) keys

-- the first key with the number
abbrev pub key_numbered : ℕ → List KeyFact → Option KeyFact
key_numbered number keys = find (λ key. key.number == number) keys

abbrev pub IsValue : Option ValueFact → KeyAnswer → Type 0
IsValue None Unbound = Unit {0}
IsValue (Some value) (Bound number short) = (number ≡ value.number) × (short.now ≡ value.short)
IsValue _ _ = ⊥

-- what is answered of a key, or of none
abbrev pub IsAnswer : Option KeyFact → KeyAnswer → Type 0
IsAnswer None Unknown = Unit {0}
IsAnswer None _ = ⊥
IsAnswer (Some key) answer = IsValue key.value answer
