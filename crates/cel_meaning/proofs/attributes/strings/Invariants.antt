use Rattle.std.proofs.Common.{◌≡◌, List, ℕ, map, take}
use Rattle.cel_value.specs.declared.value.Value.TheVariants as value
use Rattle.cel_meaning.proofs.attributes.strings.Given as goal

abbrev pub invariant-loop-text : goal.invariant-loop-text
invariant-loop-text l = l.found ≡ map (λ (text : List ℕ). value.Str text) (take l.text-index l.texts)
