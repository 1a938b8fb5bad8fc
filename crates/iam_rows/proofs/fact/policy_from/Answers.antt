use Rattle.iam_rows.proofs.Back.{policy_refused, policy_guessed, policy_formed, policy_other}
use Rattle.iam_rows.proofs.fact.policy_from.Goals as goal

pub returns-then-all_have_members : goal.returns-then-all_have_members
returns-then-all_have_members c =
    let each = rw c.as_slice.ensures at (c.all_have_members.ensures.0 c.if-all_have_members.true) in
    rw c.policy_with.ensures.made
    (policy_formed c.args.text.now c.args.node c.in-Ok.body c.requires (rw c.policy_with.ensures.made at c.policy_with.ensures.small) c.in-Ok.ensures each, λ kept is. policy_guessed c.args.text.now c.args.node c.in-Ok.body c.in-Ok.ensures kept is)

pub returns-else-all_have_members : goal.returns-else-all_have_members
returns-else-all_have_members c =
    let all = rw c.as_slice.ensures at c.all_have_members.ensures in
    policy_other c.args.text.now c.args.node c.in-Ok.body c.in-Ok.ensures (λ each. let yes = all.1 each in cc (yes, c.if-all_have_members.false))

pub returns-in-Err : goal.returns-in-Err
returns-in-Err c = policy_refused c.args.text.now c.args.node c.in-Err.stop c.in-Err.ensures
