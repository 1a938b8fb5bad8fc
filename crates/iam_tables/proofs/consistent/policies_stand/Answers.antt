use Rattle.std.proofs.Common.{◌&&◌, Bool, subst, refl}
use Rattle.std.proofs.lemmas.Bool.{and_parts, both_ways}
use Rattle.std.specs.Prelude.{◌↔◌, IsTrue}
use Rattle.iam_model.specs.Consistent.{PoliciesStand}
use Rattle.iam_tables.proofs.Tested.{stand_shown}
use Rattle.iam_tables.proofs.consistent.policies_stand.Goals as goal

pub returns-then-nodes_exist : goal.returns-then-nodes_exist
returns-then-nodes_exist c =
    subst (λ (nodes : Bool). IsTrue (nodes && c.roles_are_known.result) ↔ PoliciesStand c.args.tables.now) c.if-nodes_exist.true
    (stand_shown c.args.tables.now c.nodes_exist.result c.roles_are_known.result c.nodes_exist.ensures c.roles_are_known.ensures)

pub returns-else-nodes_exist : goal.returns-else-nodes_exist
returns-else-nodes_exist c =
    let whole = stand_shown c.args.tables.now c.nodes_exist.result _ c.nodes_exist.ensures refl in
    (λ there. absurd (both_ways c.nodes_exist.result c.if-nodes_exist.false there), λ stands. (and_parts c.nodes_exist.result _ (whole.1 stands)).0)
