-- Each body has one answer.
use Rattle.std.proofs.Common.{◌≡◌, ℕ, List, Option, Some, None, Result, Ok, Err, refl, sym, ap, ◌∙◌, subst, codes, option_map}
use Rattle.serde_json.specs.Data.{Data}
use Rattle.iam_names.specs.Permission.{IsPermission, permission_text}
use Rattle.iam_names.specs.Display.{IsFolderDisplay, IsProjectDisplay}
use Rattle.iam_names.specs.Node.{IsNodeName, IsProjectId, node_text}
use Rattle.iam_names.specs.declared.node.NodeName.{NodeName}
use Rattle.iam_names.proofs.Told.{node_told, permission_told}
use Rattle.iam_types.specs.declared.allow.Binding.{Binding}
use Rattle.iam_types.specs.declared.ask.Ask.TheVariants.{Test, Policy, Node, Folders, Projects}
use Rattle.iam_types.specs.declared.command.Command.TheVariants.{SetAllow, CreateFolder, RenameFolder, CreateProject, DeleteNode, UndeleteNode}
use Rattle.iam_json_data.specs.Etag.{etag_text_of}
use Rattle.iam_json_data.specs.Reading.{Then, ReadsNumber, ReadsMember, ReadsRequired, present}
use Rattle.iam_json_data.specs.Readers.{ReadsBinding}
use Rattle.iam_json_data.proofs.Etags.{etag_told}
use Rattle.iam_json_data.proofs.One.{IsOne, then_one, text_one, number_one, list_one, member_one, required_one, object_one, binding_one}
use Rattle.iam_json.specs.Bodies.{Made, ReadsEtag, ReadsNoItems, ReadsVersion, ReadsTest, ReadsOptions, version_of, ReadsReading, ReadsBindings, ReadsPolicy, ReadsSetting}
use Rattle.iam_json.specs.Calls.{NamesNode, NamesFolder, NamesChild, AtMostOneCall}
use Rattle.iam_json.specs.NodeBodies.{ReadsNothing, ReadsFolderDisplay, ReadsFolderName, ReadsProjectDisplay, ReadsProjectId, ReadsParent, ReadsNewFolder, ReadsRename, display_or, ReadsNewProject}
use Rattle.iam_json.specs.Query.{parameter_at, NamesNodeIn, ReadsNodeAt}
use Rattle.iam_json.specs.declared.call.Call.{Call}
use Rattle.iam_json.specs.declared.call.Call.TheVariants.{Write, Read}
use Rattle.iam_json.specs.declared.route.Line.TheVariants as line
use Rattle.iam_json.specs.declared.node.FolderDisplay.{FolderDisplay}
use Rattle.iam_json.specs.declared.node.ProjectDisplay.{ProjectDisplay}
use Rattle.iam_json.specs.declared.node.GivenId.{GivenId}
use Rattle.iam_json.specs.declared.node.NewFolder.{NewFolder}
use Rattle.iam_json.specs.declared.node.NewProject.{NewProject}
use Rattle.iam_json.specs.declared.policy.Etag.{Etag}
use Rattle.iam_json.specs.declared.policy.GivenOptions.{GivenOptions}
use Rattle.iam_json.specs.declared.policy.GivenPolicy.{GivenPolicy}

made_one : {A B : Type 0} (make : A → B) (reads : Result A (List ℕ) → Type 0) → IsOne reads → IsOne (Made make reads)
made_one make reads one (Ok v) (Ok w) h g =
    let e = one (Ok h.0) (Ok g.0) h.1 g.1 in
    let same : h.0 ≡ g.0 = cc e in
    ap Ok (h.2 ∙ ap make same ∙ sym g.2)
made_one make reads one (Ok v) (Err q) h g = let e = one (Ok h.0) (Err q) h.1 g in absurd (cc e)
made_one make reads one (Err p) (Ok w) h g = let e = one (Err p) (Ok g.0) h g.1 in absurd (cc e)
made_one make reads one (Err p) (Err q) h g = let e = one (Err p) (Err q) h g in let same : p ≡ q = cc e in ap Err same

etag_one : (d : Data) → IsOne (ReadsEtag d)
etag_one d (Ok a) (Ok b) h g =
    let both = sym h.1 ∙ g.1 in
    let text : etag_text_of a.number ≡ etag_text_of b.number = cc both in
    ap (λ (n : ℕ). Ok (record { number = n })) (etag_told a.number b.number h.0 g.0 text)
etag_one d (Ok a) (Err q) h g = absurd (g.1 a.number h.0 h.1)
etag_one d (Err p) (Ok b) h g = absurd (h.1 b.number g.0 g.1)
etag_one d (Err p) (Err q) h g = ap Err (h.0 ∙ sym g.0)

no_items_one : (d : Data) → IsOne (ReadsNoItems d)
no_items_one d (Ok a) (Ok b) h g = refl
no_items_one d (Ok a) (Err q) h g = absurd (g.1 h)
no_items_one d (Err p) (Ok b) h g = absurd (h.1 g)
no_items_one d (Err p) (Err q) h g = ap Err (h.0 ∙ sym g.0)

version_one : (name : List ℕ) (d : Data) → IsOne (ReadsVersion name d)
version_one name d = made_one _ _ (member_one ReadsNumber number_one name (present name d))

-- ---- the bodies of the lines

test_one : (d : Data) → IsOne (ReadsTest d)
test_one d = object_one _ (λ e. required_one _ (list_one _ (text_one IsPermission permission_text permission_told)) (codes "permissions") (present (codes "permissions") e)) d

abbrev options_of : ℕ → GivenOptions
options_of version = record { version = version }

options_one : (d : Data) → IsOne (ReadsOptions d)
options_one d = object_one _ (λ e. made_one options_of _ (version_one (codes "requestedPolicyVersion") e)) d

reading_one : (d : Data) → IsOne (ReadsReading d)
reading_one d = object_one _ (λ e. made_one version_of _ (member_one ReadsOptions options_one (codes "options") (present (codes "options") e))) d

bindings_one : (d : Data) → IsOne (ReadsBindings d)
bindings_one d =
    then_one _ _ (member_one _ (list_one ReadsBinding binding_one) (codes "bindings") (present (codes "bindings") d)) (λ bindings.
    made_one _ _ (member_one ReadsNoItems no_items_one (codes "auditConfigs") (present (codes "auditConfigs") d)))

abbrev policy_of : ℕ → Option Etag → List Binding → GivenPolicy
policy_of version etag bindings = record { version = version; etag = option_map (λ e. e.number) etag; bindings = bindings }

abbrev after_etag : Data → ℕ → Option Etag → Result GivenPolicy (List ℕ) → Type 0
after_etag d version etag = Made (policy_of version etag) (ReadsBindings d)

abbrev after_version : Data → ℕ → Result GivenPolicy (List ℕ) → Type 0
after_version d version = Then (ReadsMember ReadsEtag (codes "etag") (present (codes "etag") d)) (after_etag d version)

abbrev policy_members : Data → Result GivenPolicy (List ℕ) → Type 0
policy_members d = Then (ReadsVersion (codes "version") d) (after_version d)

policy_members_one : (d : Data) → IsOne (policy_members d)
policy_members_one d =
    then_one _ (after_version d) (version_one (codes "version") d) (λ version.
    then_one _ (after_etag d version) (member_one ReadsEtag etag_one (codes "etag") (present (codes "etag") d)) (λ etag.
    made_one (policy_of version etag) _ (bindings_one d)))

policy_one : (d : Data) → IsOne (ReadsPolicy d)
policy_one d = object_one policy_members policy_members_one d

setting_one : (d : Data) → IsOne (ReadsSetting d)
setting_one d = object_one _ (λ e. required_one ReadsPolicy policy_one (codes "policy") (present (codes "policy") e)) d

-- ---- the bodies that make nodes and rename them

nothing_one : (d : Data) → IsOne (ReadsNothing d)
nothing_one d = object_one (λ e said. said ≡ Ok tt) (λ e said other h g. h ∙ sym g) d

folder_display_one : (d : Data) → IsOne (ReadsFolderDisplay d)
folder_display_one d = text_one (λ (display : FolderDisplay). IsFolderDisplay display.text) (λ display. display.text) (λ a b f g same. ap (λ (t : List ℕ). record { text = t }) same) d

project_display_one : (d : Data) → IsOne (ReadsProjectDisplay d)
project_display_one d = text_one (λ (display : ProjectDisplay). IsProjectDisplay display.text) (λ display. display.text) (λ a b f g same. ap (λ (t : List ℕ). record { text = t }) same) d

id_one : (d : Data) → IsOne (ReadsProjectId d)
id_one d = text_one (λ (id : GivenId). IsProjectId id.text) (λ id. id.text) (λ a b f g same. ap (λ (t : List ℕ). record { text = t }) same) d

folder_name_one : (d : Data) → IsOne (ReadsFolderName d)
folder_name_one d = required_one ReadsFolderDisplay folder_display_one (codes "displayName") (present (codes "displayName") d)

rename_one : (d : Data) → IsOne (ReadsRename d)
rename_one d = object_one ReadsFolderName folder_name_one d

parent_one : (d : Data) → IsOne (ReadsParent d)
parent_one d = required_one _ (text_one IsNodeName node_text node_told) (codes "parent") (present (codes "parent") d)

abbrev folder_of : NodeName → FolderDisplay → NewFolder
folder_of parent display = record { parent = parent; display = display.text }

abbrev after_parent : Data → NodeName → Result NewFolder (List ℕ) → Type 0
after_parent d parent = Made (folder_of parent) (ReadsFolderName d)

abbrev folder_members : Data → Result NewFolder (List ℕ) → Type 0
folder_members d = Then (ReadsParent d) (after_parent d)

folder_members_one : (d : Data) → IsOne (folder_members d)
folder_members_one d =
    then_one _ (after_parent d) (parent_one d) (λ parent. made_one (folder_of parent) _ (folder_name_one d))

new_folder_one : (d : Data) → IsOne (ReadsNewFolder d)
new_folder_one d = object_one folder_members folder_members_one d

abbrev project_of : GivenId → NodeName → Option ProjectDisplay → NewProject
project_of id parent display = record { project = id.text; parent = parent; display = display_or id.text display }

abbrev after_project_parent : Data → GivenId → NodeName → Result NewProject (List ℕ) → Type 0
after_project_parent d id parent = Made (project_of id parent) (ReadsMember ReadsProjectDisplay (codes "displayName") (present (codes "displayName") d))

abbrev after_id : Data → GivenId → Result NewProject (List ℕ) → Type 0
after_id d id = Then (ReadsParent d) (after_project_parent d id)

abbrev project_members : Data → Result NewProject (List ℕ) → Type 0
project_members d = Then (ReadsRequired ReadsProjectId (codes "projectId") (present (codes "projectId") d)) (after_id d)

project_members_one : (d : Data) → IsOne (project_members d)
project_members_one d =
    then_one _ (after_id d) (required_one ReadsProjectId id_one (codes "projectId") (present (codes "projectId") d)) (λ id.
    then_one _ (after_project_parent d id) (parent_one d) (λ parent.
    made_one (project_of id parent) _ (member_one ReadsProjectDisplay project_display_one (codes "displayName") (present (codes "displayName") d))))

new_project_one : (d : Data) → IsOne (ReadsNewProject d)
new_project_one d = object_one project_members project_members_one d

-- ---- the parameters of a query

named_in_one : (name : List ℕ) (given : Option (List ℕ × List ℕ)) → IsOne (NamesNodeIn name given)
named_in_one name None said other h g = h ∙ sym g
named_in_one name (Some pair) (Ok a) (Ok b) h g = ap Ok (node_told a b h.0 g.0 (sym h.1 ∙ g.1))
named_in_one name (Some pair) (Ok a) (Err q) h g = absurd (g.1 a h.0 h.1)
named_in_one name (Some pair) (Err p) (Ok b) h g = absurd (h.1 b g.0 g.1)
named_in_one name (Some pair) (Err p) (Err q) h g = ap Err (h.0 ∙ sym g.0)

node_at_one : (name : List ℕ) (pairs : List (List ℕ × List ℕ)) → IsOne (ReadsNodeAt name pairs)
node_at_one name pairs = named_in_one name (parameter_at name pairs)

-- ---- the calls

abbrev set_call : NodeName → GivenPolicy → Call
set_call node policy = Write (SetAllow node policy.version policy.etag policy.bindings)

-- parameters name one node
same_node : (parts : List (List ℕ)) (node other : NodeName) → NamesNode parts node → NamesNode parts other → node ≡ other
same_node parts node other named also =
    let both = sym named.1 ∙ also.1 in
    let texts : node_text node ≡ node_text other = cc both in
    node_told node other named.0 also.0 texts

-- a call on a node of a kind is one where it is one for each node
on_one : (parts : List (List ℕ)) (names : NodeName → Type 0) (reads : NodeName → Result Call (List ℕ) → Type 0) → ((node : NodeName) → names node → NamesNode parts node) → ((node : NodeName) → IsOne (reads node)) → IsOne (λ said. (node : NodeName) × names node × reads node said)
on_one parts names reads named one said other h g =
    one g.0 said other (subst (λ (n : NodeName). reads n said) (same_node parts h.0 g.0 (named h.0 h.1) (named g.0 g.1)) h.2) g.2

on_node_one : (parts : List (List ℕ)) (reads : NodeName → Result Call (List ℕ) → Type 0) → ((node : NodeName) → IsOne (reads node)) → IsOne (λ said. (node : NodeName) × NamesNode parts node × reads node said)
on_node_one parts reads = on_one parts (NamesNode parts) reads (λ node named. named)

abbrev folder_call : NewFolder → Call
folder_call folder = Write (CreateFolder folder.parent folder.display)

abbrev rename_call : NodeName → FolderDisplay → Call
rename_call node display = Write (RenameFolder node display.text)

abbrev project_call : NewProject → Call
project_call new = Write (CreateProject new.project new.parent new.display)

-- a listing under the parent of the query
abbrev listing : (NodeName → Call) → Data → NodeName → Result Call (List ℕ) → Type 0
listing call d parent = Made (λ _. call parent) (ReadsNothing d)

listing_one : (call : NodeName → Call) (pairs : List (List ℕ × List ℕ)) (d : Data) → IsOne (Then (ReadsNodeAt (codes "parent") pairs) (listing call d))
listing_one call pairs d =
    then_one (ReadsNodeAt (codes "parent") pairs) (listing call d) (node_at_one (codes "parent") pairs) (λ parent. made_one (λ _. call parent) (ReadsNothing d) (nothing_one d))

pub line_one : AtMostOneCall
line_one line.TestPermissions parts pairs d =
    on_node_one parts (λ node. Made (λ permissions. Read (Test node permissions)) (ReadsTest d)) (λ node. made_one (λ permissions. Read (Test node permissions)) (ReadsTest d) (test_one d))
line_one line.ReadPolicy parts pairs d =
    on_node_one parts (λ node. Made (λ version. Read (Policy node version)) (ReadsReading d)) (λ node. made_one (λ version. Read (Policy node version)) (ReadsReading d) (reading_one d))
line_one line.SetPolicy parts pairs d =
    on_node_one parts (λ node. Made (set_call node) (ReadsSetting d)) (λ node. made_one (set_call node) (ReadsSetting d) (setting_one d))
line_one line.ReadNode parts pairs d =
    on_node_one parts (λ node. Made (λ _. Read (Node node)) (ReadsNothing d)) (λ node. made_one (λ _. Read (Node node)) (ReadsNothing d) (nothing_one d))
line_one line.ListFolders parts pairs d = listing_one (λ parent. Read (Folders parent)) pairs d
line_one line.ListProjects parts pairs d = listing_one (λ parent. Read (Projects parent)) pairs d
line_one line.CreateFolder parts pairs d = made_one folder_call (ReadsNewFolder d) (new_folder_one d)
line_one line.CreateProject parts pairs d = made_one project_call (ReadsNewProject d) (new_project_one d)
line_one line.RenameFolder parts pairs d =
    on_one parts (NamesFolder parts) (λ node. Made (rename_call node) (ReadsRename d)) (λ node named. named.0) (λ node. made_one (rename_call node) (ReadsRename d) (rename_one d))
line_one line.DeleteNode parts pairs d =
    on_one parts (NamesChild parts) (λ node. Made (λ _. Write (DeleteNode node)) (ReadsNothing d)) (λ node named. named.0) (λ node. made_one (λ _. Write (DeleteNode node)) (ReadsNothing d) (nothing_one d))
line_one line.UndeleteNode parts pairs d =
    on_one parts (NamesChild parts) (λ node. Made (λ _. Write (UndeleteNode node)) (ReadsNothing d)) (λ node named. named.0) (λ node. made_one (λ _. Write (UndeleteNode node)) (ReadsNothing d) (nothing_one d))
