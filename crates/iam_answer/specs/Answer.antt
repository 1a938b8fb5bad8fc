-- What a read comes to in a state, and a change in the state after it.
use Rattle.std.specs.Prelude.{ℕ, not, List, [], ◌∷◌, length, codes}
use Rattle.std.specs.declared.option.Option.{Option}
use Rattle.std.specs.Option.{option_map, option_map_or}
use Rattle.iam_text.specs.declared.moment.Moment.{Moment}
use Rattle.iam_names.specs.Node.{node_text}
use Rattle.iam_names.specs.Permission.{permission_text}
use Rattle.iam_names.specs.declared.caller.Caller.{Caller}
use Rattle.iam_names.specs.declared.node.NodeId.{NodeId}
use Rattle.iam_names.specs.declared.node.NodeKind.TheVariants as kind
use Rattle.iam_names.specs.declared.node.NodeName.{NodeName}
use Rattle.iam_types.specs.declared.answer.Answer.{Answer}
use Rattle.iam_types.specs.declared.answer.Answer.TheVariants.{Refused, Permissions, Policy as APolicy, Resource as AResource}
use Rattle.iam_types.specs.declared.answer.Resource.TheVariants.{Nothing}
use Rattle.iam_types.specs.declared.ask.Ask.{Ask}
use Rattle.iam_types.specs.declared.ask.Ask.TheVariants.{Test, Policy, Node, Folders, Projects, TagKey, TagValue, Tags, Group, Role, Denies, Deny, Boundary, Bound, Troubleshoot}
use Rattle.iam_types.specs.declared.command.Command.{Command}
use Rattle.iam_types.specs.declared.command.Command.TheVariants.{SetAllow, CreateFolder, RenameFolder, CreateProject, Move, DeleteNode, UndeleteNode, CreateTagKey, DeleteTagKey, CreateTagValue, DeleteTagValue, BindTag, UnbindTag, CreateGroup, DeleteGroup, AddMember, RemoveMember, CreateRole, UpdateRole, DeleteRole, UndeleteRole, CreateDeny, UpdateDeny, DeleteDeny, CreateBoundary, UpdateBoundary, DeleteBoundary, CreateBound, DeleteBound}
use Rattle.iam_types.specs.declared.refusal.LimitName.TheVariants.{PermissionsAsked}
use Rattle.iam_types.specs.declared.refusal.Refusal.{Refusal}
use Rattle.iam_types.specs.declared.refusal.Refusal.TheVariants.{NotFound, Version, PermissionUnknown}
use Rattle.iam_types.specs.declared.tables.Tables.{Tables}
use Rattle.iam_model.specs.Limits.{beyond}
use Rattle.iam_model.specs.Nodes.{resolve}
use Rattle.iam_model.specs.Policies.{bindings_at, etag_of}
use Rattle.iam_model.specs.Refusals.{refused_if}
use Rattle.iam_model.specs.Shared.{is_version}
use Rattle.iam_law.specs.Asked.{permission_at}
use Rattle.iam_answer.specs.Asking.{allowed_of, first_unknown, may_not, unless}
use Rattle.iam_answer.specs.NodeAnswers.{change_shown, creation_shown, folders_answer, node_answer, projects_answer}

-- the answer at the node of the name, else that there is none
abbrev pub at_node : Tables → NodeName → (NodeId → Answer) → Answer
at_node tables name answer = option_map_or answer (resolve tables name) (Refused (NotFound (node_text name)))

-- ---- a test of permissions

-- refused where a permission is unknown, or where there are too many
abbrev pub test_answer : Tables → NodeId → List (List ℕ) → Caller → Moment → Answer
test_answer tables node permissions caller moment =
    unless (
    option_map (λ permission. PermissionUnknown (permission_text permission)) (first_unknown permissions) ∷ beyond (length permissions) PermissionsAsked ∷ []
    ) (Permissions (allowed_of tables node caller moment permissions))

-- ---- the reading of a policy

-- the caller may not read the policy there
abbrev pub may_not_get : Tables → NodeId → Caller → Moment → Option Refusal
may_not_get tables node caller moment = may_not tables node caller moment (permission_at node.kind (codes "getIamPolicy"))

-- the policy as it is shown: no conditions can be stored yet, so its version is 1 whichever was asked for
abbrev pub policy_shown : Tables → NodeId → Answer
policy_shown tables node = APolicy (bindings_at tables node) (etag_of tables node) 1

-- refused where the caller may not read it, or where there is no such version
abbrev pub policy_answer : Tables → NodeId → ℕ → Caller → Moment → Answer
policy_answer tables node version caller moment =
    unless (may_not_get tables node caller moment ∷ refused_if (not (is_version version)) (Version version) ∷ []) (policy_shown tables node)

-- what is shown of what can't be asked or given yet
abbrev pub nothing_shown : Answer
nothing_shown = AResource Nothing

-- ---- all reads

-- what is answered, in these tables at this moment
unfoldable pub answer_of : Tables → Ask → Caller → Moment → Answer
answer_of tables (Test name permissions) caller moment = at_node tables name (λ node. test_answer tables node permissions caller moment)
answer_of tables (Policy name version) caller moment = at_node tables name (λ node. policy_answer tables node version caller moment)
answer_of tables (Node name) caller moment = at_node tables name (λ node. node_answer tables node caller moment)
answer_of tables (Folders name) caller moment = at_node tables name (λ parent. folders_answer tables parent caller moment)
answer_of tables (Projects name) caller moment = at_node tables name (λ parent. projects_answer tables parent caller moment)
answer_of tables (TagKey number) caller moment = nothing_shown
answer_of tables (TagValue number) caller moment = nothing_shown
answer_of tables (Tags node) caller moment = nothing_shown
answer_of tables (Group email) caller moment = nothing_shown
answer_of tables (Role name) caller moment = nothing_shown
answer_of tables (Denies node) caller moment = nothing_shown
answer_of tables (Deny node id) caller moment = nothing_shown
answer_of tables (Boundary parent id) caller moment = nothing_shown
answer_of tables (Bound node id) caller moment = nothing_shown
answer_of tables (Troubleshoot asker node permission resource at) caller moment = nothing_shown

-- ---- all changes

-- the policy of the node as it is shown, where the node is there
abbrev pub policy_written : Tables → NodeName → Answer
policy_written tables name = option_map_or (policy_shown tables) (resolve tables name) nothing_shown

-- the change of the node, where the node is there
abbrev pub node_written : Tables → NodeName → Answer
node_written tables name = option_map_or (change_shown tables) (resolve tables name) nothing_shown

-- What an accepted change is answered, from the tables before it and those after it: what it makes or changes is shown as it stands after it, a
-- deleted node too, and what it takes away as it stood before.
unfoldable pub written_answer : Tables → Tables → Command → Answer
written_answer before later (SetAllow name version etag bindings) = policy_written later name
written_answer before later (CreateFolder parent display) = creation_shown kind.Folder later
written_answer before later (RenameFolder node display) = node_written later node
written_answer before later (CreateProject project parent display) = creation_shown kind.Project later
written_answer before later (Move node to) = nothing_shown
written_answer before later (DeleteNode node) = node_written later node
written_answer before later (UndeleteNode node) = node_written later node
written_answer before later (CreateTagKey parent short) = nothing_shown
written_answer before later (DeleteTagKey number) = nothing_shown
written_answer before later (CreateTagValue key short) = nothing_shown
written_answer before later (DeleteTagValue number) = nothing_shown
written_answer before later (BindTag node value) = nothing_shown
written_answer before later (UnbindTag node value) = nothing_shown
written_answer before later (CreateGroup email) = nothing_shown
written_answer before later (DeleteGroup email) = nothing_shown
written_answer before later (AddMember group member) = nothing_shown
written_answer before later (RemoveMember group member) = nothing_shown
written_answer before later (CreateRole owner id title stage permissions) = nothing_shown
written_answer before later (UpdateRole name etag title stage permissions) = nothing_shown
written_answer before later (DeleteRole name) = nothing_shown
written_answer before later (UndeleteRole name) = nothing_shown
written_answer before later (CreateDeny node id display rules) = nothing_shown
written_answer before later (UpdateDeny node id etag display rules) = nothing_shown
written_answer before later (DeleteDeny node id) = nothing_shown
written_answer before later (CreateBoundary parent id display version rules) = nothing_shown
written_answer before later (UpdateBoundary parent id etag display version rules) = nothing_shown
written_answer before later (DeleteBoundary parent id) = nothing_shown
written_answer before later (CreateBound node id target owner policy condition) = nothing_shown
written_answer before later (DeleteBound node id) = nothing_shown

-- an answer that isn't a refusal, counted
abbrev pub accepts : Answer → ℕ
accepts (Refused refusal) = 0
accepts answer = 1
