use Rattle.std.proofs.Common.{◌≡◌, drop}
use Rattle.cel_value.specs.Keys.{key_numbered}
use Rattle.cel_value.proofs.facts.first_numbered.Given as goal

abbrev pub invariant-loop-key : goal.invariant-loop-key
invariant-loop-key l = key_numbered l.number (drop l.key-index l.keys) ≡ key_numbered l.number l.keys
