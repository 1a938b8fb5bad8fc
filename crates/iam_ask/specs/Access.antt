-- What a question of access is answered.
use Rattle.std.specs.Prelude.{ℕ, List, [], ◌∷◌, ◌++◌, if◌then◌else◌, codes}
use Rattle.std.specs.Option.{option_map_or}
use Rattle.std.specs.Fmt.{decimal}
use Rattle.iam_text.specs.declared.moment.Moment.{Moment}
use Rattle.iam_names.specs.Node.{node_id_text}
use Rattle.iam_names.specs.declared.caller.Caller.{Caller}
use Rattle.iam_names.specs.declared.node.NodeId.{NodeId}
use Rattle.iam_names.specs.declared.node.NodeName.{NodeName}
use Rattle.iam_types.specs.declared.query.Decision.{Decision}
use Rattle.iam_types.specs.declared.query.Decision.TheVariants.{Allowed, DeniedBoundary, DeniedRule, NotGranted}
use Rattle.iam_types.specs.declared.tables.Tables.{Tables}
use Rattle.iam_model.specs.Catalogue.{is_permission}
use Rattle.iam_model.specs.Nodes.{resolve}
use Rattle.iam_law.specs.Asked.{query_on}
use Rattle.iam_law.specs.Decide.{decide}

-- the decision, and what decided: a binding of a node's policy by its place, a boundary binding, or a rule of a deny policy
abbrev pub words_of : Decision → List ℕ
words_of (Allowed node place) = codes "ALLOWED " ++ node_id_text node ++ codes " " ++ decimal place
words_of (DeniedBoundary binding) = codes "DENIED_BOUNDARY " ++ binding
words_of (DeniedRule policy rule) = codes "DENIED_RULE " ++ policy ++ codes " " ++ decimal rule
words_of NotGranted = codes "NOT_GRANTED"

-- on a node that is there
abbrev pub access_at : Tables → Caller → Moment → List ℕ → NodeId → List ℕ
access_at tables caller moment permission node =
    if is_permission permission then words_of (decide tables (query_on caller moment [] permission node))
    else codes "PERMISSION_UNKNOWN"

-- on the node of a name, whether it is there or not
abbrev pub access : Tables → Caller → Moment → NodeName → List ℕ → List ℕ
access tables caller moment name permission =
    option_map_or (access_at tables caller moment permission) (resolve tables name) (codes "NOT_FOUND")

-- with a line feed at its end
abbrev pub access_line : Tables → Caller → Moment → NodeName → List ℕ → List ℕ
access_line tables caller moment name permission = access tables caller moment name permission ++ 10 ∷ []
