-- What a body gives to be written is well formed.
use Rattle.std.proofs.Common.{◌≡◌, ◌≢◌, ℕ, true, List, [], ◌∷◌, All, ap, subst, sym, refl, arith}
use Rattle.std.specs.Prelude.{Option, Result, Ok, codes}
use Rattle.std.specs.List.{list_all}
use Rattle.std.proofs.lemmas.Bool.{and_parts, and_from}
use Rattle.std.proofs.lemmas.Bool.Decides.{nat_tests}
use Rattle.serde_json.specs.Data.{Data}
use Rattle.serde_json.specs.Find.{as_object}
use Rattle.iam_names.specs.Bytes.{is_label_byte, is_project_display_byte}
use Rattle.iam_names.specs.Display.{IsFolderDisplay, IsProjectDisplay}
use Rattle.iam_names.specs.Node.{IsNodeName, IsProjectId, node_text}
use Rattle.iam_names.specs.declared.node.NodeKind.TheVariants as kind
use Rattle.iam_names.specs.declared.node.NodeName.{NodeName}
use Rattle.iam_names.specs.declared.node.NodeName.TheVariants as name
use Rattle.iam_types.specs.declared.allow.Binding.{Binding}
use Rattle.iam_types.specs.declared.ask.Ask.{Ask}
use Rattle.iam_types.specs.declared.ask.Ask.TheVariants.{Test, Policy, Node, Folders, Projects}
use Rattle.iam_types.specs.declared.command.Command.{Command}
use Rattle.iam_types.specs.declared.command.Command.TheVariants.{SetAllow, RenameFolder}
use Rattle.iam_model.specs.Allow.{IsGiven}
use Rattle.iam_model.specs.Commands.{IsCommand}
use Rattle.iam_model.specs.Nodes.{kind_named}
use Rattle.iam_json_data.specs.Reading.{ReadsText, ReadsMember, present}
use Rattle.iam_json_data.specs.Readers.{ReadsBinding}
use Rattle.iam_json_data.proofs.Given.{binding_is, maybe_is, member_is, object_is, required_is}
use Rattle.iam_json.specs.Bodies.{Made, ReadsTest, ReadsReading, ReadsBindings, ReadsPolicy, ReadsSetting}
use Rattle.iam_json.specs.Calls.{ReadsLine}
use Rattle.iam_json.specs.NodeBodies.{ReadsNothing, ReadsFolderDisplay, ReadsProjectDisplay, ReadsProjectId, ReadsNewFolder, ReadsRename, ReadsNewProject, display_or}
use Rattle.iam_json.specs.declared.call.Call.TheVariants.{Write, Read}
use Rattle.iam_json.specs.declared.route.Line.{Line}
use Rattle.iam_json.specs.declared.route.Line.TheVariants as line
use Rattle.iam_json.specs.declared.node.FolderDisplay.{FolderDisplay}
use Rattle.iam_json.specs.declared.node.NewFolder.{NewFolder}
use Rattle.iam_json.specs.declared.node.NewProject.{NewProject}
use Rattle.iam_json.specs.declared.node.ProjectDisplay.{ProjectDisplay}
use Rattle.iam_json.specs.declared.policy.GivenPolicy.{GivenPolicy}

-- ---- bindings

given_is : (d : Data) (binding : Binding) → ReadsBinding d (Ok binding) → IsGiven binding
given_is d binding is = let formed = binding_is d binding is in record { role = formed.0; members = formed.1; unconditional = formed.2 }

bindings_are : (d : Data) (bindings : List Binding) → ReadsBindings d (Ok bindings) → All IsGiven bindings
bindings_are d bindings is =
    let given = member_is ReadsBinding IsGiven given_is (codes "bindings") (present (codes "bindings") d) is.0 is.1 in
    subst (All IsGiven) (sym is.2.2) given

policy_is : (d : Data) (policy : GivenPolicy) → ReadsPolicy d (Ok policy) → All IsGiven policy.bindings
policy_is d policy is =
    let inside = object_is _ (as_object d) policy is in
    let made = inside.2.2 in
    subst (λ (p : GivenPolicy). All IsGiven p.bindings) (sym made.2) (bindings_are d made.0 made.1)

setting_is : (d : Data) (policy : GivenPolicy) → ReadsSetting d (Ok policy) → All IsGiven policy.bindings
setting_is d policy is =
    let inside = required_is ReadsPolicy (codes "policy") (present (codes "policy") d) policy (object_is _ (as_object d) policy is) in
    policy_is inside.0 policy inside.1

-- ---- nodes that are to be made

abbrev IsNewFolder : NewFolder → Type 0
IsNewFolder folder = IsNodeName folder.parent × IsFolderDisplay folder.display

new_folder_is : (d : Data) (folder : NewFolder) → ReadsNewFolder d (Ok folder) → IsNewFolder folder
new_folder_is d folder is =
    let inside = object_is _ (as_object d) folder is in
    let parent = required_is (ReadsText IsNodeName node_text) (codes "parent") (present (codes "parent") d) inside.0 inside.1 in
    let made = inside.2 in
    let display = required_is ReadsFolderDisplay (codes "displayName") (present (codes "displayName") d) made.0 made.1 in
    subst IsNewFolder (sym made.2) (parent.1.0, display.1.0)

rename_is : (d : Data) (display : FolderDisplay) → ReadsRename d (Ok display) → IsFolderDisplay display.text
rename_is d display is =
    let shown = required_is ReadsFolderDisplay (codes "displayName") (present (codes "displayName") d) display (object_is _ (as_object d) display is) in
    shown.1.0

-- what isn't named as the organisation is named as something else
child_is : (node : NodeName) → ((number : ℕ) → node ≢ name.Organization number) → kind_named node ≢ kind.Organization
child_is (name.Organization number) other same = other number refl
child_is (name.Folder number) other same = cc same
child_is (name.ProjectNumber number) other same = cc same
child_is (name.ProjectId id) other same = cc same

-- an id is a display name
id_byte_displays : (byte : ℕ) → is_label_byte byte ≡ true → is_project_display_byte byte ≡ true
id_byte_displays byte may = grind (arith, nat_tests)

id_bytes_display : (text : List ℕ) → list_all is_label_byte text ≡ true → list_all is_project_display_byte text ≡ true
id_bytes_display [] all = refl
id_bytes_display (byte ∷ text) all =
    let parts = and_parts (is_label_byte byte) (list_all is_label_byte text) all in
    and_from (is_project_display_byte byte) (list_all is_project_display_byte text) (id_byte_displays byte parts.0) (id_bytes_display text parts.1)

id_displays : (text : List ℕ) → IsProjectId text → IsProjectDisplay text
id_displays text is =
    let least = is.0.0 in
    (omega arith, is.0.1, id_bytes_display text is.0.2)

display_is : (id name : List ℕ) (there : Option Data) (display : Option ProjectDisplay) → IsProjectId id → ReadsMember ReadsProjectDisplay name there (Ok display) → IsProjectDisplay (display_or id display)
display_is id name there display formed =
    maybe_is ReadsProjectDisplay (λ (given : Option ProjectDisplay). IsProjectDisplay (display_or id given)) (id_displays id formed) (λ d shown is. is.0) name there display

abbrev IsNewProject : NewProject → Type 0
IsNewProject new = IsProjectId new.project × IsNodeName new.parent × IsProjectDisplay new.display

new_project_is : (d : Data) (new : NewProject) → ReadsNewProject d (Ok new) → IsNewProject new
new_project_is d new is =
    let inside = object_is _ (as_object d) new is in
    let id = required_is ReadsProjectId (codes "projectId") (present (codes "projectId") d) inside.0 inside.1 in
    let parent = required_is (ReadsText IsNodeName node_text) (codes "parent") (present (codes "parent") d) inside.2.0 inside.2.1 in
    let made = inside.2.2 in
    subst IsNewProject (sym made.2) (id.1.0, parent.1.0, display_is inside.0.text (codes "displayName") (present (codes "displayName") d) made.0 id.1.0 made.1)

-- ---- calls

not_read : (command : Command) (ask : Ask) → Write command ≡ Read ask → ⊥
not_read command ask is = cc is

-- what is made of a call to read is no call to write
never_made : {A : Type 0} (make : A → Ask) (reads : Result A (List ℕ) → Type 0) (command : Command) → Made (λ value. Read (make value)) reads (Ok (Write command)) → ⊥
never_made make reads command made = not_read command (make made.0) made.2

same_command : (a b : Command) → Write a ≡ Write b → a ≡ b
same_command a b is = cc is

pub command_is : (line : Line) (parts : List (List ℕ)) (pairs : List (List ℕ × List ℕ)) (d : Data) (command : Command) → ReadsLine line parts pairs d (Ok (Write command)) → IsCommand command
command_is line.TestPermissions parts pairs d command reads = absurd (never_made (λ permissions. Test reads.0 permissions) (ReadsTest d) command reads.2)
command_is line.ReadPolicy parts pairs d command reads = absurd (never_made (λ version. Policy reads.0 version) (ReadsReading d) command reads.2)
command_is line.SetPolicy parts pairs d command reads =
    let made : Made (λ (policy : GivenPolicy). Write (SetAllow reads.0 policy.version policy.etag policy.bindings)) (ReadsSetting d) (Ok (Write command)) = reads.2 in
    subst IsCommand (sym (same_command command _ made.2)) (reads.1.0, setting_is d made.0 made.1)
command_is line.ReadNode parts pairs d command reads = absurd (never_made (λ _. Node reads.0) (ReadsNothing d) command reads.2)
command_is line.ListFolders parts pairs d command reads = absurd (never_made (λ _. Folders reads.0) (ReadsNothing d) command reads.2)
command_is line.ListProjects parts pairs d command reads = absurd (never_made (λ _. Projects reads.0) (ReadsNothing d) command reads.2)
command_is line.CreateFolder parts pairs d command reads =
    let formed = new_folder_is d reads.0 reads.1 in subst IsCommand (sym (same_command command _ reads.2)) formed
command_is line.CreateProject parts pairs d command reads =
    let formed = new_project_is d reads.0 reads.1 in subst IsCommand (sym (same_command command _ reads.2)) formed
command_is line.RenameFolder parts pairs d command reads =
    let made : Made (λ (display : FolderDisplay). Write (RenameFolder reads.0 display.text)) (ReadsRename d) (Ok (Write command)) = reads.2 in
    subst IsCommand (sym (same_command command _ made.2)) (reads.1.0.0, ap kind_named reads.1.1.1, rename_is d made.0 made.1)
command_is line.DeleteNode parts pairs d command reads =
    subst IsCommand (sym (same_command command _ reads.2.2)) (reads.1.0.0, child_is reads.0 reads.1.1)
command_is line.UndeleteNode parts pairs d command reads =
    subst IsCommand (sym (same_command command _ reads.2.2)) (reads.1.0.0, child_is reads.0 reads.1.1)
