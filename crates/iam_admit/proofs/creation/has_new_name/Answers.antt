use Rattle.std.proofs.Common.{Bool, not, subst, ap, sym, ◌∙◌}
use Rattle.iam_types.specs.declared.node.Node.{Node}
use Rattle.iam_types.specs.declared.refusal.Fault.TheVariants.{SiblingName}
use Rattle.iam_types.specs.declared.refusal.Refusal.TheVariants.{Hierarchy}
use Rattle.iam_model.specs.Creation.{added}
use Rattle.iam_model.specs.Hierarchy.{are_namesakes, is_alone}
use Rattle.iam_model.specs.Refusals.{refused_if}
use Rattle.iam_admit.specs.Follows.{Follows}
use Rattle.iam_admit.proofs.creation.has_new_name.Goals as goal

-- the name is as new among the rows with the folder as among those before
pub returns : goal.returns
returns c =
    let tables = c.args.tables.now in
    let node = c.args.node.now in
    let law = c.new_nodes_are_counted.ensures.names tables node.parent node.display c.requires.consistent in
    let as_before = ap (λ (new : Node). is_alone are_namesakes (added new tables.nodes) new) c.requires.is ∙ law ∙ ap (λ (new : Node). is_alone are_namesakes tables.nodes new) (sym c.requires.is) in
    subst (λ (own : Bool). Follows c.has_free_name.result (refused_if (not own) (Hierarchy 0 0 SiblingName))) (sym as_before) c.has_free_name.ensures
