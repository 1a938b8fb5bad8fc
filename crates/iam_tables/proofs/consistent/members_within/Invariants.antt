use Rattle.std.proofs.Common.{◌≤◌, take}
use Rattle.std.specs.List.{All}
use Rattle.iam_types.specs.declared.refusal.LimitName.TheVariants.{PolicyMembers}
use Rattle.iam_model.specs.Limits.{limit_of}
use Rattle.iam_model.specs.Policies.{count_members}
use Rattle.iam_tables.proofs.consistent.members_within.Given as goal

abbrev pub invariant-loop-policy : goal.invariant-loop-policy
invariant-loop-policy l = All (λ policy. count_members policy.bindings ≤ limit_of PolicyMembers) (take l.policy-index l.allows)
