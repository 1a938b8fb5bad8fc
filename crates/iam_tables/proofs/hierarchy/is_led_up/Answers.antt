use Rattle.std.proofs.Common.{◌-◌, sym, arith, ◌∙◌}
use Rattle.iam_model.specs.Nodes.{organization_of}
use Rattle.iam_tables.proofs.Climbing.{leads_nowhere, leads_on, leads_there}
use Rattle.iam_tables.proofs.hierarchy.is_led_up.Goals as goal

pub returns-then-same_node : goal.returns-then-same_node
returns-then-same_node c =
    let tables = c.args.tables.now in
    let here = rw c.organization_of-root.ensures at (sym c.same_node.ensures ∙ c.if-same_node.true) in
    sym (leads_there (c.args.steps - c.loop.counter) (organization_of tables) tables.nodes c.loop.at here) ∙ c.loop.invariant

pub returns-then-not-is_folder : goal.returns-then-not-is_folder
returns-then-not-is_folder c =
    let tables = c.args.tables.now in
    let below = rw c.organization_of-root.ensures at (sym c.same_node.ensures ∙ c.if-same_node.false) in
    let other = sym c.is_folder.ensures ∙ c.if-not-is_folder.true in
    sym (leads_nowhere (c.args.steps - c.loop.counter) (organization_of tables) tables.nodes c.loop.at below other) ∙ c.loop.invariant

pub loop-preserved : goal.loop-preserved
loop-preserved c =
    let tables = c.args.tables.now in
    let below = rw c.organization_of-root.ensures at (sym c.same_node.ensures ∙ c.if-same_node.false) in
    let folder = sym c.is_folder.ensures ∙ c.if-not-is_folder.false in
    sym (leads_on c.args.steps c.loop.counter (organization_of tables) tables.nodes c.loop.at c.in-Some.parent (omega arith) below folder (sym c.in-Some.ensures)) ∙ c.loop.invariant
