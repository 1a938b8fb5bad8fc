use Rattle.std.proofs.Common.{◌≡◌, ◌++◌, map, take}
use Rattle.iam_types.specs.declared.fact.Fact.TheVariants as fact
use Rattle.iam_tables.proofs.facts.push_nodes.Given as goal

abbrev pub invariant-loop-node : goal.invariant-loop-node
invariant-loop-node l = l.facts ≡ l.initial.facts ++ map (λ node. fact.Node node) (take l.node-index l.nodes)
