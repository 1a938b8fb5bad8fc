use Rattle.std.proofs.Common.{◌&&◌, Bool, List, ap, subst, refl, ◌∙◌}
use Rattle.std.proofs.lemmas.Bool.{and_parts, both_ways}
use Rattle.std.specs.Prelude.{◌↔◌, IsTrue}
use Rattle.std.specs.List.{list_all}
use Rattle.iam_types.specs.declared.node.Node.{Node}
use Rattle.iam_model.specs.Consistent.{FoldersFit}
use Rattle.iam_model.specs.Hierarchy.{are_namesakes, is_alone}
use Rattle.iam_tables.proofs.Tested.{fit_shown}
use Rattle.iam_tables.proofs.hierarchy.folders_fit.Goals as goal

pub returns-then-all_shallow : goal.returns-then-all_shallow
returns-then-all_shallow c =
    let named = c.all_named.ensures ∙ ap (λ (nodes : List Node). list_all (is_alone are_namesakes nodes) nodes) c.as_slice.ensures in
    subst (λ (shallow : Bool). IsTrue (shallow && c.all_named.result) ↔ FoldersFit c.args.tables.now) c.if-all_shallow.true
    (fit_shown c.args.tables.now c.all_shallow.result c.all_named.result c.all_shallow.ensures named)

pub returns-else-all_shallow : goal.returns-else-all_shallow
returns-else-all_shallow c =
    let whole = fit_shown c.args.tables.now c.all_shallow.result _ c.all_shallow.ensures refl in
    (λ there. absurd (both_ways c.all_shallow.result c.if-all_shallow.false there), λ fit. (and_parts c.all_shallow.result _ (whole.1 fit)).0)
