use Rattle.std.proofs.Common.{◌+◌, ℕ, subst, ap, sym, ◌∙◌}
use Rattle.iam_types.specs.declared.node.Node.{Node}
use Rattle.iam_types.specs.declared.refusal.LimitName.TheVariants.{ChildFolders}
use Rattle.iam_model.specs.Creation.{added}
use Rattle.iam_model.specs.Hierarchy.{count_folders}
use Rattle.iam_model.specs.Limits.{beyond}
use Rattle.iam_admit.specs.Follows.{Follows}
use Rattle.iam_admit.proofs.creation.few_folders.Goals as goal

pub returns : goal.returns
returns c =
    let tables = c.args.tables.now in
    let node = c.args.node.now in
    let law = c.new_nodes_are_counted.ensures.folders tables node.parent node.display c.requires.consistent in
    let with_node = ap (λ (new : Node). count_folders (added new tables.nodes) node.parent) c.requires.is ∙ law in
    let counted = ap (λ (n : ℕ). n + 1) c.count_folders.ensures.count ∙ sym with_node in
    subst (λ (n : ℕ). Follows c.within.result (beyond n ChildFolders)) counted c.within.ensures
