-- What each command means: one line a command.
use Rattle.std.specs.declared.option.Option.{Option}
use Rattle.iam_types.specs.declared.command.Command.{Command}
use Rattle.iam_types.specs.declared.command.Command.TheVariants.{SetAllow, CreateFolder, RenameFolder, CreateProject, Move, DeleteNode, UndeleteNode, CreateTagKey, DeleteTagKey, CreateTagValue, DeleteTagValue, BindTag, UnbindTag, CreateGroup, DeleteGroup, AddMember, RemoveMember, CreateRole, UpdateRole, DeleteRole, UndeleteRole, CreateDeny, UpdateDeny, DeleteDeny, CreateBoundary, UpdateBoundary, DeleteBoundary, CreateBound, DeleteBound}
use Rattle.iam_types.specs.declared.command.Entry.{Entry}
use Rattle.iam_types.specs.declared.fact.FactChange.{FactChange}
use Rattle.iam_types.specs.declared.refusal.Refusal.{Refusal}
use Rattle.iam_types.specs.declared.tables.Tables.{Tables}
use Rattle.iam_text.specs.Moments.{IsMoment}
use Rattle.iam_names.specs.Caller.{IsCaller}
use Rattle.std.specs.Prelude.{List}
use Rattle.iam_model.specs.Allow.{set_allow}
use Rattle.iam_model.specs.Creation.{create_folder, create_project}
use Rattle.iam_model.specs.Meaning.{Meaning, not_yet}
use Rattle.iam_model.specs.NodeChanges.{rename_folder, delete_node, undelete_node}
use Rattle.iam_model.specs.Refusals.{Rules, first_refusal, nothing_asked}

abbrev pub meaning_of : Command → Meaning
meaning_of (SetAllow node version etag bindings) = set_allow node version etag bindings
meaning_of (CreateFolder parent display) = create_folder parent display
meaning_of (RenameFolder node display) = rename_folder node display
meaning_of (CreateProject project parent display) = create_project project parent display
meaning_of (Move node to) = not_yet
meaning_of (DeleteNode node) = delete_node node
meaning_of (UndeleteNode node) = undelete_node node
meaning_of (CreateTagKey parent short) = not_yet
meaning_of (DeleteTagKey number) = not_yet
meaning_of (CreateTagValue key short) = not_yet
meaning_of (DeleteTagValue number) = not_yet
meaning_of (BindTag node value) = not_yet
meaning_of (UnbindTag node value) = not_yet
meaning_of (CreateGroup email) = not_yet
meaning_of (DeleteGroup email) = not_yet
meaning_of (AddMember group member) = not_yet
meaning_of (RemoveMember group member) = not_yet
meaning_of (CreateRole owner id title stage permissions) = not_yet
meaning_of (UpdateRole name etag title stage permissions) = not_yet
meaning_of (DeleteRole name) = not_yet
meaning_of (UndeleteRole name) = not_yet
meaning_of (CreateDeny node id display rules) = not_yet
meaning_of (UpdateDeny node id etag display rules) = not_yet
meaning_of (DeleteDeny node id) = not_yet
meaning_of (CreateBoundary parent id display version rules) = not_yet
meaning_of (UpdateBoundary parent id etag display version rules) = not_yet
meaning_of (DeleteBoundary parent id) = not_yet
meaning_of (CreateBound node id target owner policy condition) = not_yet
meaning_of (DeleteBound node id) = not_yet

-- ---- what an entry means

abbrev pub IsCommand : Command → Type 0
IsCommand command = (meaning_of command).given

pub record IsEntry (entry : Entry) : Type 0 where
  pub caller : IsCaller entry.caller
  pub moment : IsMoment entry.moment
  pub command : IsCommand entry.command

-- what the tables refuse of it
abbrev pub rules_of : Tables → Entry → Rules
rules_of tables entry = (meaning_of entry.command).rules entry.moment tables

-- the first refusal by the tables alone, without the decision and the conditions; none where it fits
abbrev pub fits : Tables → Entry → Option Refusal
fits tables entry = first_refusal (rules_of tables entry) nothing_asked

-- the tables after it
abbrev pub after : Tables → Entry → Tables
after tables entry = (meaning_of entry.command).after entry.moment tables

-- the changes of facts that lead there
abbrev pub changes_of : Tables → Entry → List FactChange
changes_of tables entry = (meaning_of entry.command).changes entry.moment tables
