-- What each command owes that fits the tables: one line a command.
use Rattle.std.proofs.Common.{◌≡◌, None}
use Rattle.iam_types.specs.declared.command.Command.{Command}
use Rattle.iam_types.specs.declared.command.Command.TheVariants.{SetAllow, CreateFolder, RenameFolder, CreateProject, Move, DeleteNode, UndeleteNode, CreateTagKey, DeleteTagKey, CreateTagValue, DeleteTagValue, BindTag, UnbindTag, CreateGroup, DeleteGroup, AddMember, RemoveMember, CreateRole, UpdateRole, DeleteRole, UndeleteRole, CreateDeny, UpdateDeny, DeleteDeny, CreateBoundary, UpdateBoundary, DeleteBoundary, CreateBound, DeleteBound}
use Rattle.iam_types.specs.declared.command.Entry.{Entry}
use Rattle.iam_types.specs.declared.tables.Tables.{Tables}
use Rattle.iam_text.specs.declared.moment.Moment.{Moment}
use Rattle.iam_model.specs.Commands.{IsCommand, IsEntry, after, changes_of, fits, meaning_of}
use Rattle.iam_model.specs.Consistent.{Consistent}
use Rattle.iam_model.specs.Refusals.{first_refusal, nothing_asked}
use Rattle.iam_model.proofs.Fitting.{Leads}
use Rattle.iam_model.proofs.KeepAllow.{set_fits}
use Rattle.iam_model.proofs.KeepCreation.{create_folder_fits, create_project_fits}
use Rattle.iam_model.proofs.KeepNodeChanges.{delete_node_fits, rename_folder_fits, undelete_node_fits}

command_leads : (tables : Tables) (moment : Moment) (command : Command) → Consistent tables → IsCommand command → first_refusal ((meaning_of command).rules moment tables) nothing_asked ≡ None
    → Leads tables ((meaning_of command).changes moment tables) ((meaning_of command).after moment tables)
command_leads tables moment (SetAllow name version etag bindings) consistent given fitting = set_fits tables moment name version etag bindings consistent given.1 fitting
command_leads tables moment (CreateFolder name display) consistent given fitting = create_folder_fits tables moment name display consistent given.1 fitting
command_leads tables moment (CreateProject project name display) consistent given fitting = create_project_fits tables moment project name display consistent given.0 given.2 fitting
command_leads tables moment (RenameFolder name display) consistent given fitting = rename_folder_fits tables moment name display consistent given.1 given.2 fitting
command_leads tables moment (DeleteNode name) consistent given fitting = delete_node_fits tables moment name consistent given.1 fitting
command_leads tables moment (UndeleteNode name) consistent given fitting = undelete_node_fits tables moment name consistent given.1 fitting
command_leads tables moment (Move node to) consistent given fitting = absurd given
command_leads tables moment (CreateTagKey parent short) consistent given fitting = absurd given
command_leads tables moment (DeleteTagKey number) consistent given fitting = absurd given
command_leads tables moment (CreateTagValue key short) consistent given fitting = absurd given
command_leads tables moment (DeleteTagValue number) consistent given fitting = absurd given
command_leads tables moment (BindTag node value) consistent given fitting = absurd given
command_leads tables moment (UnbindTag node value) consistent given fitting = absurd given
command_leads tables moment (CreateGroup email) consistent given fitting = absurd given
command_leads tables moment (DeleteGroup email) consistent given fitting = absurd given
command_leads tables moment (AddMember group member) consistent given fitting = absurd given
command_leads tables moment (RemoveMember group member) consistent given fitting = absurd given
command_leads tables moment (CreateRole owner id title stage permissions) consistent given fitting = absurd given
command_leads tables moment (UpdateRole name etag title stage permissions) consistent given fitting = absurd given
command_leads tables moment (DeleteRole name) consistent given fitting = absurd given
command_leads tables moment (UndeleteRole name) consistent given fitting = absurd given
command_leads tables moment (CreateDeny node id display rules) consistent given fitting = absurd given
command_leads tables moment (UpdateDeny node id etag display rules) consistent given fitting = absurd given
command_leads tables moment (DeleteDeny node id) consistent given fitting = absurd given
command_leads tables moment (CreateBoundary parent id display version rules) consistent given fitting = absurd given
command_leads tables moment (UpdateBoundary parent id etag display version rules) consistent given fitting = absurd given
command_leads tables moment (DeleteBoundary parent id) consistent given fitting = absurd given
command_leads tables moment (CreateBound node id target owner policy condition) consistent given fitting = absurd given
command_leads tables moment (DeleteBound node id) consistent given fitting = absurd given

pub entry_leads : (tables : Tables) (entry : Entry) → Consistent tables → IsEntry entry → fits tables entry ≡ None → Leads tables (changes_of tables entry) (after tables entry)
entry_leads tables entry consistent formed fitting = command_leads tables entry.moment entry.command consistent formed.command fitting
