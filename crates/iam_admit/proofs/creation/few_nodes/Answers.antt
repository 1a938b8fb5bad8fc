use Rattle.std.proofs.Common.{◌+◌, ℕ, length, subst, ap, sym, ◌∙◌}
use Rattle.iam_types.specs.declared.node.Node.{Node}
use Rattle.iam_types.specs.declared.refusal.LimitName.TheVariants.{Nodes}
use Rattle.iam_model.specs.Creation.{added}
use Rattle.iam_model.specs.Limits.{beyond}
use Rattle.iam_admit.specs.Follows.{Follows}
use Rattle.iam_admit.proofs.creation.few_nodes.Goals as goal

pub returns : goal.returns
returns c =
    let tables = c.args.tables.now in
    let node = c.args._node.now in
    let law = c.new_nodes_are_counted.ensures.nodes tables node.id.kind node.parent node.display node.project c.requires.consistent in
    let with_node = ap (λ (new : Node). length (added new tables.nodes)) c.requires.is ∙ law in
    let counted = ap (λ (n : ℕ). n + 1) c.len.ensures ∙ sym with_node in
    subst (λ (n : ℕ). Follows c.within.result (beyond n Nodes)) counted c.within.ensures
