-- What is shown of nodes.
use Rattle.std.specs.Prelude.{◌-◌, [], ◌∷◌, codes}
use Rattle.std.specs.declared.option.Option.{Option}
use Rattle.std.specs.declared.option.Option.TheVariants.{None, Some}
use Rattle.iam_text.specs.declared.moment.Moment.{Moment}
use Rattle.iam_names.specs.declared.caller.Caller.{Caller}
use Rattle.iam_names.specs.declared.node.NodeId.{NodeId}
use Rattle.iam_names.specs.declared.node.NodeKind.{NodeKind}
use Rattle.iam_names.specs.declared.node.NodeKind.TheVariants as kind
use Rattle.iam_types.specs.declared.answer.Answer.{Answer}
use Rattle.iam_types.specs.declared.answer.Answer.TheVariants as answer
use Rattle.iam_types.specs.declared.answer.Resource.{Resource}
use Rattle.iam_types.specs.declared.answer.Resource.TheVariants as resource
use Rattle.iam_types.specs.declared.node.Node.{Node}
use Rattle.iam_types.specs.declared.node.Org.{Org}
use Rattle.iam_types.specs.declared.tables.Tables.{Tables}
use Rattle.iam_model.specs.Nodes.{children_of, node_at}
use Rattle.iam_law.specs.Asked.{permission_at}
use Rattle.iam_answer.specs.Asking.{may_not, unless}

-- ---- a node

-- what is shown of an organisation
abbrev pub organization_shown : Org → Resource
organization_shown org = resource.Organization org.number org.domain org.customer

-- what is shown of a folder or a project
abbrev pub node_shown : Option Node → Resource
node_shown None = resource.Nothing
node_shown (Some node) = resource.Node node

abbrev pub shown_by_kind : Tables → NodeId → NodeKind → Resource
shown_by_kind tables node kind.Organization = organization_shown tables.org
shown_by_kind tables node kind.Folder = node_shown (node_at tables.nodes node)
shown_by_kind tables node kind.Project = node_shown (node_at tables.nodes node)

-- what is shown of a node that is there
abbrev pub resource_at : Tables → NodeId → Resource
resource_at tables node = shown_by_kind tables node node.kind

-- refused where the caller may not read the node
abbrev pub node_answer : Tables → NodeId → Caller → Moment → Answer
node_answer tables node caller moment =
    unless (may_not tables node caller moment (permission_at node.kind (codes "get")) ∷ []) (answer.Resource (resource_at tables node))

-- ---- what stands under a node

-- refused where the caller may not list the folders under it
abbrev pub folders_answer : Tables → NodeId → Caller → Moment → Answer
folders_answer tables parent caller moment =
    unless (may_not tables parent caller moment (permission_at kind.Folder (codes "list")) ∷ []) (answer.Folders (children_of tables.nodes kind.Folder parent))

-- refused where the caller may not list the projects under it
abbrev pub projects_answer : Tables → NodeId → Caller → Moment → Answer
projects_answer tables parent caller moment =
    unless (may_not tables parent caller moment (permission_at kind.Project (codes "list")) ∷ []) (answer.Projects (children_of tables.nodes kind.Project parent))

-- ---- what was made or changed

-- the node as it stands, and the operation that led there, which is the last change
abbrev pub change_shown : Tables → NodeId → Answer
change_shown tables node = answer.Operation tables.org.changes (resource_at tables node)

-- the node that was made last: its number stands just below the next one
abbrev pub made_last : NodeKind → Tables → NodeId
made_last kind tables = record { kind = kind; number = tables.org.next - 1 }

abbrev pub creation_shown : NodeKind → Tables → Answer
creation_shown kind tables = change_shown tables (made_last kind tables)
