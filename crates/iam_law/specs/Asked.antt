-- What is asked of the decision, and what it refuses. Commands and reads share it.
use Rattle.std.specs.Prelude.{ℕ, List, ◌++◌, Some, None, codes}
use Rattle.std.specs.declared.option.Option.{Option}
use Rattle.iam_text.specs.declared.moment.Moment.{Moment}
use Rattle.iam_names.specs.declared.caller.Caller.{Caller}
use Rattle.iam_names.specs.declared.node.NodeKind.{NodeKind}
use Rattle.iam_names.specs.declared.node.NodeKind.TheVariants.{Organization, Folder, Project}
use Rattle.iam_names.specs.declared.node.NodeId.{NodeId}
use Rattle.iam_names.specs.declared.role.RoleName.{RoleName}
use Rattle.iam_types.specs.declared.query.Decision.{Decision}
use Rattle.iam_types.specs.declared.query.Decision.TheVariants.{Allowed, DeniedBoundary, DeniedRule, NotGranted as NothingGrants}
use Rattle.iam_types.specs.declared.query.Query.{Query}
use Rattle.iam_types.specs.declared.refusal.Refusal.{Refusal}
use Rattle.iam_types.specs.declared.refusal.Refusal.TheVariants.{DeniedBoundary as ByBoundary, DeniedRule as ByRule, NotGranted}
use Rattle.iam_types.specs.declared.tables.Tables.{Tables}
use Rattle.iam_law.specs.Decide.{decide}
use Rattle.iam_law.specs.ResourceFacts.{facts_of_node}

abbrev pub resource_of : NodeKind → List ℕ
resource_of Organization = codes "organizations"
resource_of Folder = codes "folders"
resource_of Project = codes "projects"

-- the permission for a verb on a node of the kind, as `resourcemanager.organizations.get`
abbrev pub permission_at : NodeKind → List ℕ → List ℕ
permission_at kind verb = codes "resourcemanager." ++ resource_of kind ++ codes "." ++ verb

-- what a decision refuses
abbrev pub unless_allowed : List ℕ → Decision → Option Refusal
unless_allowed permission (Allowed node place) = None
unless_allowed permission (DeniedBoundary binding) = Some (ByBoundary binding)
unless_allowed permission (DeniedRule policy rule) = Some (ByRule policy rule)
unless_allowed permission NothingGrants = Some (NotGranted permission)

-- whether the caller has the permission on a node, at a moment, where roles of its policy are to be modified
abbrev pub query_on : Caller → Moment → List RoleName → List ℕ → NodeId → Query
query_on caller moment modified permission node = record {
  caller = caller;
  node = node;
  permission = permission;
  resource = facts_of_node node;
  moment = moment;
  modified = modified;
}

-- the caller hasn't the permission there
abbrev pub forbidden : Tables → Query → Option Refusal
forbidden tables query = unless_allowed query.permission (decide tables query)
