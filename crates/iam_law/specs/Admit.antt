-- Which entries are refused, and why.
use Rattle.std.specs.Prelude.{ℕ, List, [], ◌∷◌, codes}
use Rattle.std.specs.declared.option.Option.{Option}
use Rattle.iam_text.specs.declared.moment.Moment.{Moment}
use Rattle.iam_names.specs.declared.caller.Caller.{Caller}
use Rattle.iam_names.specs.declared.node.NodeId.{NodeId}
use Rattle.iam_names.specs.declared.node.NodeKind.{NodeKind}
use Rattle.iam_names.specs.declared.node.NodeKind.TheVariants.{Folder, Project}
use Rattle.iam_names.specs.declared.node.NodeName.{NodeName}
use Rattle.iam_types.specs.declared.allow.Binding.{Binding}
use Rattle.iam_types.specs.declared.command.Command.{Command}
use Rattle.iam_types.specs.declared.command.Command.TheVariants.{SetAllow, CreateFolder, RenameFolder, CreateProject, Move, DeleteNode, UndeleteNode, CreateTagKey, DeleteTagKey, CreateTagValue, DeleteTagValue, BindTag, UnbindTag, CreateGroup, DeleteGroup, AddMember, RemoveMember, CreateRole, UpdateRole, DeleteRole, UndeleteRole, CreateDeny, UpdateDeny, DeleteDeny, CreateBoundary, UpdateBoundary, DeleteBoundary, CreateBound, DeleteBound}
use Rattle.iam_types.specs.declared.command.Entry.{Entry}
use Rattle.iam_types.specs.declared.node.Node.{Node}
use Rattle.iam_types.specs.declared.query.Query.{Query}
use Rattle.iam_types.specs.declared.refusal.Refusal.{Refusal}
use Rattle.iam_types.specs.declared.tables.Tables.{Tables}
use Rattle.iam_model.specs.Commands.{rules_of}
use Rattle.iam_model.specs.Nodes.{kind_named}
use Rattle.iam_model.specs.Policies.{bindings_at}
use Rattle.iam_model.specs.Refusals.{Asked, first_refusal, nothing_asked}
use Rattle.iam_model.specs.Shared.{with_node, with_row}
use Rattle.iam_law.specs.Asked.{forbidden, permission_at, query_on}
use Rattle.iam_law.specs.Modified.{modified_roles}

-- whether the caller may set the policy of a node
abbrev pub set_query : Tables → Caller → Moment → NodeId → List Binding → Query
set_query tables caller moment node bindings =
    query_on caller moment (modified_roles (bindings_at tables node) bindings) (permission_at node.kind (codes "setIamPolicy")) node

-- it may not
abbrev pub may_not_set : Tables → Caller → Moment → NodeId → List Binding → Option Refusal
may_not_set tables caller moment node bindings = forbidden tables (set_query tables caller moment node bindings)

-- (No condition can be given yet, so none is refused.)
abbrev pub asked_of_set_allow : Tables → Caller → Moment → NodeName → List Binding → Asked
asked_of_set_allow tables caller moment name bindings = record {
  permission = with_node tables name (λ node. may_not_set tables caller moment node bindings ∷ []);
  conditions = [];
  operators = [];
}

-- whether the caller may create a node of the kind below a node
abbrev pub create_query : Caller → Moment → NodeKind → NodeId → Query
create_query caller moment kind parent = query_on caller moment [] (permission_at kind (codes "create")) parent

abbrev pub asked_of_creation : Tables → Caller → Moment → NodeKind → NodeName → Asked
asked_of_creation tables caller moment kind name = record {
  permission = with_node tables name (λ parent. forbidden tables (create_query caller moment kind parent) ∷ []);
  conditions = [];
  operators = [];
}

-- whether the caller has the permission for a verb on a folder or a project, which is one of the name's collection
abbrev pub change_query : Caller → Moment → NodeName → List ℕ → Node → Query
change_query caller moment name verb node = query_on caller moment [] (permission_at (kind_named name) verb) node.id

abbrev pub asked_of_change : Tables → Caller → Moment → NodeName → List ℕ → Asked
asked_of_change tables caller moment name verb = record {
  permission = with_row tables name (λ node. forbidden tables (change_query caller moment name verb node) ∷ []);
  conditions = [];
  operators = [];
}

-- what the decision and the conditions refuse of a command
abbrev pub asked_by : Tables → Caller → Moment → Command → Asked
asked_by tables caller moment (SetAllow node version etag bindings) = asked_of_set_allow tables caller moment node bindings
asked_by tables caller moment (CreateFolder parent display) = asked_of_creation tables caller moment Folder parent
asked_by tables caller moment (RenameFolder node display) = asked_of_change tables caller moment node (codes "update")
asked_by tables caller moment (CreateProject project parent display) = asked_of_creation tables caller moment Project parent
asked_by tables caller moment (Move node to) = nothing_asked
asked_by tables caller moment (DeleteNode node) = asked_of_change tables caller moment node (codes "delete")
asked_by tables caller moment (UndeleteNode node) = asked_of_change tables caller moment node (codes "undelete")
asked_by tables caller moment (CreateTagKey parent short) = nothing_asked
asked_by tables caller moment (DeleteTagKey number) = nothing_asked
asked_by tables caller moment (CreateTagValue key short) = nothing_asked
asked_by tables caller moment (DeleteTagValue number) = nothing_asked
asked_by tables caller moment (BindTag node value) = nothing_asked
asked_by tables caller moment (UnbindTag node value) = nothing_asked
asked_by tables caller moment (CreateGroup email) = nothing_asked
asked_by tables caller moment (DeleteGroup email) = nothing_asked
asked_by tables caller moment (AddMember group member) = nothing_asked
asked_by tables caller moment (RemoveMember group member) = nothing_asked
asked_by tables caller moment (CreateRole owner id title stage permissions) = nothing_asked
asked_by tables caller moment (UpdateRole name etag title stage permissions) = nothing_asked
asked_by tables caller moment (DeleteRole name) = nothing_asked
asked_by tables caller moment (UndeleteRole name) = nothing_asked
asked_by tables caller moment (CreateDeny node id display rules) = nothing_asked
asked_by tables caller moment (UpdateDeny node id etag display rules) = nothing_asked
asked_by tables caller moment (DeleteDeny node id) = nothing_asked
asked_by tables caller moment (CreateBoundary parent id display version rules) = nothing_asked
asked_by tables caller moment (UpdateBoundary parent id etag display version rules) = nothing_asked
asked_by tables caller moment (DeleteBoundary parent id) = nothing_asked
asked_by tables caller moment (CreateBound node id target owner policy condition) = nothing_asked
asked_by tables caller moment (DeleteBound node id) = nothing_asked

abbrev pub asked_of : Tables → Entry → Asked
asked_of tables entry = asked_by tables entry.caller entry.moment entry.command

-- the first refusal, or none where the entry is accepted
abbrev pub admission : Tables → Entry → Option Refusal
admission tables entry = first_refusal (rules_of tables entry) (asked_of tables entry)
