-- The bodies that make folders and projects and rename folders, and those of which nothing is read.
use Rattle.std.specs.Prelude.{◌≡◌, ⊤, ℕ, List, Option, Some, None, Result, Ok, codes}
use Rattle.serde_json.specs.Data.{Data}
use Rattle.iam_names.specs.Display.{IsFolderDisplay, IsProjectDisplay}
use Rattle.iam_names.specs.Node.{IsNodeName, IsProjectId, node_text}
use Rattle.iam_names.specs.declared.node.NodeName.{NodeName}
use Rattle.iam_json_data.specs.Reading.{Then, ReadsText, ReadsMember, ReadsRequired, present}
use Rattle.iam_json_data.specs.Readers.{ReadsObject}
use Rattle.iam_json.specs.Bodies.{Made}
use Rattle.iam_json.specs.declared.node.FolderDisplay.{FolderDisplay}
use Rattle.iam_json.specs.declared.node.ProjectDisplay.{ProjectDisplay}
use Rattle.iam_json.specs.declared.node.GivenId.{GivenId}
use Rattle.iam_json.specs.declared.node.NewFolder.{NewFolder}
use Rattle.iam_json.specs.declared.node.NewProject.{NewProject}

-- an object, of which nothing is read
abbrev pub ReadsNothing : Data → Result ⊤ (List ℕ) → Type 0
ReadsNothing = ReadsObject (λ d said. said ≡ Ok tt)

-- ---- members

abbrev pub ReadsFolderDisplay : Data → Result FolderDisplay (List ℕ) → Type 0
ReadsFolderDisplay = ReadsText (λ display. IsFolderDisplay display.text) (λ display. display.text)

-- the display name of a folder, which has to be there
abbrev pub ReadsFolderName : Data → Result FolderDisplay (List ℕ) → Type 0
ReadsFolderName d = ReadsRequired ReadsFolderDisplay (codes "displayName") (present (codes "displayName") d)

abbrev pub ReadsProjectDisplay : Data → Result ProjectDisplay (List ℕ) → Type 0
ReadsProjectDisplay = ReadsText (λ display. IsProjectDisplay display.text) (λ display. display.text)

abbrev pub ReadsProjectId : Data → Result GivenId (List ℕ) → Type 0
ReadsProjectId = ReadsText (λ id. IsProjectId id.text) (λ id. id.text)

-- the node under which something is made
abbrev pub ReadsParent : Data → Result NodeName (List ℕ) → Type 0
ReadsParent d = ReadsRequired (ReadsText IsNodeName node_text) (codes "parent") (present (codes "parent") d)

-- ---- bodies

-- the parent, then the display name
abbrev pub ReadsNewFolder : Data → Result NewFolder (List ℕ) → Type 0
ReadsNewFolder = ReadsObject (λ d.
    Then (ReadsParent d) (λ parent.
    Made (λ display. record { parent = parent; display = display.text }) (ReadsFolderName d)))

-- the new display name
abbrev pub ReadsRename : Data → Result FolderDisplay (List ℕ) → Type 0
ReadsRename = ReadsObject ReadsFolderName

-- a project without a display name is shown by its id
abbrev pub display_or : List ℕ → Option ProjectDisplay → List ℕ
display_or id None = id
display_or id (Some display) = display.text

-- the id, then the parent, then the display name, if there is one
abbrev pub ReadsNewProject : Data → Result NewProject (List ℕ) → Type 0
ReadsNewProject = ReadsObject (λ d.
    Then (ReadsRequired ReadsProjectId (codes "projectId") (present (codes "projectId") d)) (λ id.
    Then (ReadsParent d) (λ parent.
    Made (λ display. record { project = id.text; parent = parent; display = display_or id.text display })
    (ReadsMember ReadsProjectDisplay (codes "displayName") (present (codes "displayName") d)))))
