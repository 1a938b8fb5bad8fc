use Rattle.std.proofs.Common.{◌≡◌, ◌≤◌, drop, max}
use Rattle.cel_grammar.specs.Depth.{deepest}
use Rattle.cel_syntax.proofs.limits.depth.Given as goal

abbrev pub invariant-loop-token : goal.invariant-loop-token
invariant-loop-token l = (max l.most (deepest l.count (drop l.token-index l.tokens)) ≡ deepest 0 l.tokens) × (l.count ≤ l.token-index) × (l.count ≤ l.most)
