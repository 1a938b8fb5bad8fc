use Rattle.std.proofs.Common.{◌≡◌, ◌++◌, map, take}
use Rattle.iam_types.specs.declared.fact.Fact.TheVariants as fact
use Rattle.iam_tables.proofs.facts.push_policies.Given as goal

abbrev pub invariant-loop-policy : goal.invariant-loop-policy
invariant-loop-policy l = l.facts ≡ l.initial.facts ++ map (λ policy. fact.Allow policy) (take l.policy-index l.policies)
