use Rattle.std.proofs.Common.{◌≤◌, take}
use Rattle.std.specs.List.{All}
use Rattle.iam_types.specs.declared.refusal.LimitName.TheVariants.{PolicyGroups}
use Rattle.iam_model.specs.Limits.{limit_of}
use Rattle.iam_model.specs.Policies.{count_groups}
use Rattle.iam_tables.proofs.consistent.groups_within.Given as goal

abbrev pub invariant-loop-policy : goal.invariant-loop-policy
invariant-loop-policy l = All (λ policy. count_groups policy.bindings ≤ limit_of PolicyGroups) (take l.policy-index l.allows)
