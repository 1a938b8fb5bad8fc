use Rattle.std.proofs.Common.{ℕ, subst, ap, sym, ◌∙◌}
use Rattle.std.specs.Prelude.{nat_lt}
use Rattle.iam_types.specs.declared.node.Node.{Node}
use Rattle.iam_types.specs.declared.refusal.Fault.TheVariants.{Depth}
use Rattle.iam_types.specs.declared.refusal.Refusal.TheVariants.{Hierarchy}
use Rattle.iam_model.specs.Creation.{added}
use Rattle.iam_model.specs.Hierarchy.{deepest}
use Rattle.iam_model.specs.Nodes.{depth_below}
use Rattle.iam_model.specs.Refusals.{refused_if}
use Rattle.iam_admit.specs.Follows.{Follows}
use Rattle.iam_admit.proofs.creation.is_shallow.Goals as goal

pub returns : goal.returns
returns c =
    let tables = c.args.tables.now in
    let node = c.args.node.now in
    let law = c.new_nodes_are_counted.ensures.depth tables node.parent node.display c.requires.consistent c.requires.there in
    let with_node = ap (λ (new : Node). depth_below (added new tables.nodes) node.parent) c.requires.is ∙ law in
    subst (λ (n : ℕ). Follows c.not_too_deep.result (refused_if (nat_lt deepest n) (Hierarchy n deepest Depth))) (c.depth_below.ensures ∙ sym with_node) c.not_too_deep.ensures
