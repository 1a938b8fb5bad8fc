-- Rules that several commands and reads share.
use Rattle.std.specs.Prelude.{ℕ, ◌+◌, Bool, not, ◌||◌, ◌==◌, List, [], Some, None, is_none}
use Rattle.std.specs.declared.option.Option.{Option}
use Rattle.std.specs.Option.{option_map_or}
use Rattle.iam_names.specs.Node.{node_text}
use Rattle.iam_names.specs.declared.node.NodeId.{NodeId}
use Rattle.iam_names.specs.declared.node.NodeName.{NodeName}
use Rattle.iam_types.specs.declared.node.Node.{Node}
use Rattle.iam_types.specs.declared.node.Org.{Org}
use Rattle.iam_types.specs.declared.refusal.LimitName.TheVariants.{Changes}
use Rattle.iam_types.specs.declared.refusal.Refusal.{Refusal}
use Rattle.iam_types.specs.declared.refusal.Refusal.TheVariants.{NotFound, NotActive, EtagMismatch}
use Rattle.iam_types.specs.declared.tables.Tables.{Tables}
use Rattle.iam_model.specs.Limits.{beyond}
use Rattle.iam_model.specs.Nodes.{is_active, resolve, row_named}
use Rattle.iam_model.specs.Refusals.{refused_if}

-- the node isn't there
abbrev pub missing : Tables → NodeName → Option Refusal
missing tables name = refused_if (is_none (resolve tables name)) (NotFound (node_text name))

-- the rules behind a node that must be there
abbrev pub with_node : Tables → NodeName → (NodeId → List (Option Refusal)) → List (Option Refusal)
with_node tables name rules = option_map_or rules (resolve tables name) []

-- the rules behind the row of a folder or a project that must be there
abbrev pub with_row : Tables → NodeName → (Node → List (Option Refusal)) → List (Option Refusal)
with_row tables name rules = option_map_or rules (row_named tables name) []

-- the node of this name isn't ACTIVE
abbrev pub inactive : Tables → NodeName → NodeId → Option Refusal
inactive tables name node = refused_if (not (is_active tables.nodes node)) (NotActive (node_text name))

-- another etag than the current one was given
abbrev pub other_etag : ℕ → Option ℕ → Option Refusal
other_etag current None = None
other_etag current (Some given) = refused_if (not (given == current)) (EtagMismatch current)

-- the versions of allow policies
abbrev pub is_version : ℕ → Bool
is_version version = (version == 0) || (version == 1) || (version == 3)

-- one more change
abbrev pub changed : Org → Org
changed org = record org { changes = org.changes + 1 }

-- it is one too many
abbrev pub many_changes : Tables → Option Refusal
many_changes tables = beyond (tables.org.changes + 1) Changes
