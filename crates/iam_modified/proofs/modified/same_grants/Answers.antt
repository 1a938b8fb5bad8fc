use Rattle.std.proofs.Common.{◌≤◌, ℕ, length, subst, sym}
use Rattle.std.proofs.lemmas.List.Sums.{prefix_len-le-length}
use Rattle.iam_modified.specs.declared.modified.Given.{Given}
use Rattle.iam_modified.proofs.modified.same_grants.Goals as goal

pub split_at-requires : goal.split_at-requires
split_at-requires c = subst (λ (n : ℕ). n ≤ length c.args.run.now) (sym c.old_ones.ensures) (prefix_len-le-length (λ (given : Given). given.is_old) c.args.run.now)
