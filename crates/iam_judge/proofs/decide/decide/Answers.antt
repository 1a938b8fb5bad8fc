use Rattle.std.proofs.Common.{List, ap, ◌∙◌}
use Rattle.std.specs.Prelude.{unwrap_or}
use Rattle.iam_names.specs.declared.node.NodeId.{NodeId}
use Rattle.iam_types.specs.declared.query.Decision.{Decision}
use Rattle.iam_types.specs.declared.query.Decision.TheVariants.{NotGranted}
use Rattle.iam_types.specs.declared.query.Query.{Query}
use Rattle.iam_types.specs.declared.tables.Tables.{Tables}
use Rattle.iam_model.specs.Nodes.{way_up}
use Rattle.iam_judge.specs.Granting.{first_grant}
use Rattle.iam_judge.proofs.Deciding.{decided}
use Rattle.iam_judge.proofs.decide.decide.Goals as goal

abbrev granted : Tables → Query → List NodeId → Decision
granted tables query nodes = unwrap_or (first_grant tables query nodes) NotGranted

pub returns : goal.returns
returns c =
    let tables = c.args.tables.now in
    let query = c.args.query.now in
    c.in_ok-decision.ensures ∙ ap (granted tables query) (c.as_slice.ensures ∙ c.in_ok-way.ensures) ∙ decided tables query (way_up tables.nodes query.node)
