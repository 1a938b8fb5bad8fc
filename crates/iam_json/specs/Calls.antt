-- The call of a route and a body.
use Rattle.std.specs.Prelude.{◌≡◌, ◌≢◌, ℕ, List, [], ◌∷◌, Result, codes}
use Rattle.serde_json.specs.Data.{Data}
use Rattle.iam_names.specs.Node.{IsNodeName, node_text}
use Rattle.iam_names.specs.declared.node.NodeName.{NodeName}
use Rattle.iam_names.specs.declared.node.NodeName.TheVariants as name
use Rattle.iam_types.specs.declared.ask.Ask.TheVariants.{Test, Policy, Node, Folders, Projects}
use Rattle.iam_types.specs.declared.command.Command.TheVariants.{SetAllow, CreateFolder, RenameFolder, CreateProject, DeleteNode, UndeleteNode}
use Rattle.iam_json_data.specs.Reading.{Then}
use Rattle.iam_json.specs.Bodies.{Made, ReadsTest, ReadsReading, ReadsSetting}
use Rattle.iam_json.specs.NodeBodies.{ReadsNothing, ReadsNewFolder, ReadsRename, ReadsNewProject}
use Rattle.iam_json.specs.Query.{ReadsNodeAt}
use Rattle.iam_json.specs.declared.call.Call.{Call}
use Rattle.iam_json.specs.declared.call.Call.TheVariants.{Write, Read}
use Rattle.iam_json.specs.declared.route.Line.{Line}
use Rattle.iam_json.specs.declared.route.Line.TheVariants as line
use Rattle.iam_json.specs.declared.route.Route.{Route}

-- the node of a path
abbrev pub NamesNode : List (List ℕ) → NodeName → Type 0
NamesNode parts node = IsNodeName node × (parts ≡ node_text node ∷ [])

-- the folder of a path, which is named by its number
abbrev pub NamesFolder : List (List ℕ) → NodeName → Type 0
NamesFolder parts node = NamesNode parts node × ((number : ℕ) × (node ≡ name.Folder number))

-- the folder or project of a path
abbrev pub NamesChild : List (List ℕ) → NodeName → Type 0
NamesChild parts node = NamesNode parts node × ((number : ℕ) → node ≢ name.Organization number)

-- the parameters are those of the line's path
abbrev pub HasParts : Line → List (List ℕ) → Type 0
HasParts line.TestPermissions parts = (node : NodeName) × NamesNode parts node
HasParts line.ReadPolicy parts = (node : NodeName) × NamesNode parts node
HasParts line.SetPolicy parts = (node : NodeName) × NamesNode parts node
HasParts line.ReadNode parts = (node : NodeName) × NamesNode parts node
HasParts line.ListFolders parts = parts ≡ []
HasParts line.ListProjects parts = parts ≡ []
HasParts line.CreateFolder parts = parts ≡ []
HasParts line.CreateProject parts = parts ≡ []
HasParts line.RenameFolder parts = (node : NodeName) × NamesFolder parts node
HasParts line.DeleteNode parts = (node : NodeName) × NamesChild parts node
HasParts line.UndeleteNode parts = (node : NodeName) × NamesChild parts node

abbrev pub IsRoute : Route → Type 0
IsRoute route = HasParts route.line route.parts

-- a test of permissions on the node
abbrev pub ReadsPermissionsTest : List (List ℕ) → Data → Result Call (List ℕ) → Type 0
ReadsPermissionsTest parts d said =
    (node : NodeName) × NamesNode parts node × Made (λ permissions. Read (Test node permissions)) (ReadsTest d) said

-- a reading of its policy
abbrev pub ReadsPolicyReading : List (List ℕ) → Data → Result Call (List ℕ) → Type 0
ReadsPolicyReading parts d said =
    (node : NodeName) × NamesNode parts node × Made (λ version. Read (Policy node version)) (ReadsReading d) said

-- a setting of its policy
abbrev pub ReadsPolicySetting : List (List ℕ) → Data → Result Call (List ℕ) → Type 0
ReadsPolicySetting parts d said =
    (node : NodeName) × NamesNode parts node
    × Made (λ policy. Write (SetAllow node policy.version policy.etag policy.bindings)) (ReadsSetting d) said

-- a reading of the node itself
abbrev pub ReadsNodeReading : List (List ℕ) → Data → Result Call (List ℕ) → Type 0
ReadsNodeReading parts d said =
    (node : NodeName) × NamesNode parts node × Made (λ _. Read (Node node)) (ReadsNothing d) said

-- a listing of the folders under the parent of the query, and of the projects
abbrev pub ReadsFolderListing : List (List ℕ × List ℕ) → Data → Result Call (List ℕ) → Type 0
ReadsFolderListing pairs d = Then (ReadsNodeAt (codes "parent") pairs) (λ parent. Made (λ _. Read (Folders parent)) (ReadsNothing d))

abbrev pub ReadsProjectListing : List (List ℕ × List ℕ) → Data → Result Call (List ℕ) → Type 0
ReadsProjectListing pairs d = Then (ReadsNodeAt (codes "parent") pairs) (λ parent. Made (λ _. Read (Projects parent)) (ReadsNothing d))

-- a creation of a folder, and of a project
abbrev pub ReadsFolderCreation : Data → Result Call (List ℕ) → Type 0
ReadsFolderCreation d = Made (λ folder. Write (CreateFolder folder.parent folder.display)) (ReadsNewFolder d)

abbrev pub ReadsProjectCreation : Data → Result Call (List ℕ) → Type 0
ReadsProjectCreation d = Made (λ new. Write (CreateProject new.project new.parent new.display)) (ReadsNewProject d)

-- a renaming of the folder
abbrev pub ReadsFolderRenaming : List (List ℕ) → Data → Result Call (List ℕ) → Type 0
ReadsFolderRenaming parts d said =
    (node : NodeName) × NamesFolder parts node × Made (λ display. Write (RenameFolder node display.text)) (ReadsRename d) said

-- a deletion of the folder or project, and an undeletion
abbrev pub ReadsNodeDeletion : List (List ℕ) → Data → Result Call (List ℕ) → Type 0
ReadsNodeDeletion parts d said =
    (node : NodeName) × NamesChild parts node × Made (λ _. Write (DeleteNode node)) (ReadsNothing d) said

abbrev pub ReadsNodeUndeletion : List (List ℕ) → Data → Result Call (List ℕ) → Type 0
ReadsNodeUndeletion parts d said =
    (node : NodeName) × NamesChild parts node × Made (λ _. Write (UndeleteNode node)) (ReadsNothing d) said

-- what a line reads of the parameters of its path, of its query and of its body
abbrev pub ReadsLine : Line → List (List ℕ) → List (List ℕ × List ℕ) → Data → Result Call (List ℕ) → Type 0
ReadsLine line.TestPermissions parts pairs d said = ReadsPermissionsTest parts d said
ReadsLine line.ReadPolicy parts pairs d said = ReadsPolicyReading parts d said
ReadsLine line.SetPolicy parts pairs d said = ReadsPolicySetting parts d said
ReadsLine line.ReadNode parts pairs d said = ReadsNodeReading parts d said
ReadsLine line.ListFolders parts pairs d said = ReadsFolderListing pairs d said
ReadsLine line.ListProjects parts pairs d said = ReadsProjectListing pairs d said
ReadsLine line.CreateFolder parts pairs d said = ReadsFolderCreation d said
ReadsLine line.CreateProject parts pairs d said = ReadsProjectCreation d said
ReadsLine line.RenameFolder parts pairs d said = ReadsFolderRenaming parts d said
ReadsLine line.DeleteNode parts pairs d said = ReadsNodeDeletion parts d said
ReadsLine line.UndeleteNode parts pairs d said = ReadsNodeUndeletion parts d said

abbrev pub ReadsCall : Route → Data → Result Call (List ℕ) → Type 0
ReadsCall route d said = ReadsLine route.line route.parts route.pairs d said

-- the data gives at most one call on a line with its parameters, or one path of a bad member
abbrev pub AtMostOneCall : Type 0
AtMostOneCall =
    (line : Line) (parts : List (List ℕ)) (pairs : List (List ℕ × List ℕ)) (d : Data) (said other : Result Call (List ℕ)) → ReadsLine line parts pairs d said
    → ReadsLine line parts pairs d other → said ≡ other
