use Rattle.std.proofs.Common.{◌≡◌, drop}
use Rattle.cel_value.specs.Keys.{key_named}
use Rattle.cel_value.proofs.facts.first_named.Given as goal

abbrev pub invariant-loop-key : goal.invariant-loop-key
invariant-loop-key l = key_named l.name (drop l.key-index l.keys) ≡ key_named l.name l.keys
