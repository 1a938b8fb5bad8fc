-- The first binding that grants, node by node.
use Rattle.std.specs.Prelude.{List, [], ◌∷◌, None}
use Rattle.std.specs.declared.option.Option.{Option}
use Rattle.std.specs.List.{find}
use Rattle.std.specs.Option.{option_map, option_or}
use Rattle.iam_names.specs.declared.node.NodeId.{NodeId}
use Rattle.iam_types.specs.declared.query.Decision.{Decision}
use Rattle.iam_types.specs.declared.query.Decision.TheVariants.{Allowed}
use Rattle.iam_types.specs.declared.query.Query.{Query}
use Rattle.iam_types.specs.declared.tables.Tables.{Tables}
use Rattle.iam_model.specs.Policies.{bindings_at}
use Rattle.iam_law.specs.Decide.{binding_grants, in_turn}

-- by the first binding in turn of the node's own policy that grants
abbrev pub grant_at : Tables → Query → NodeId → Option Decision
grant_at tables query node =
    option_map (λ place. Allowed node place)
    (option_map (λ turn. turn.0) (find (λ turn. binding_grants tables query turn.1) (in_turn (bindings_at tables node))))

-- by the first of these nodes whose policy grants
abbrev pub first_grant : Tables → Query → List NodeId → Option Decision
first_grant tables query [] = None
first_grant tables query (node ∷ nodes) = option_or (grant_at tables query node) (first_grant tables query nodes)
