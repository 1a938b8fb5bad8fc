-- Which lines read, and which write.
use Rattle.std.proofs.Common.{◌≡◌, ℕ, Bool, true, false, List, refl}
use Rattle.std.specs.Prelude.{Result, Ok}
use Rattle.serde_json.specs.Data.{Data}
use Rattle.iam_types.specs.declared.ask.Ask.{Ask}
use Rattle.iam_types.specs.declared.ask.Ask.TheVariants.{Test, Policy, Node, Folders, Projects}
use Rattle.iam_types.specs.declared.command.Command.{Command}
use Rattle.iam_types.specs.declared.command.Command.TheVariants.{SetAllow, CreateFolder, RenameFolder, CreateProject, DeleteNode, UndeleteNode}
use Rattle.iam_json.specs.Bodies.{Made, ReadsTest, ReadsReading, ReadsSetting}
use Rattle.iam_json.specs.Calls.{ReadsLine}
use Rattle.iam_json.specs.NodeBodies.{ReadsNothing, ReadsNewFolder, ReadsRename, ReadsNewProject}
use Rattle.iam_json.specs.declared.call.Call.TheVariants.{Write, Read}
use Rattle.iam_json.specs.declared.node.FolderDisplay.{FolderDisplay}
use Rattle.iam_json.specs.declared.node.NewFolder.{NewFolder}
use Rattle.iam_json.specs.declared.node.NewProject.{NewProject}
use Rattle.iam_json.specs.declared.policy.GivenPolicy.{GivenPolicy}
use Rattle.iam_json.specs.declared.route.Line.{Line}
use Rattle.iam_json.specs.declared.route.Line.TheVariants as line

abbrev pub reads_at : Line → Bool
reads_at line.TestPermissions = true
reads_at line.ReadPolicy = true
reads_at line.SetPolicy = false
reads_at line.ReadNode = true
reads_at line.ListFolders = true
reads_at line.ListProjects = true
reads_at line.CreateFolder = false
reads_at line.CreateProject = false
reads_at line.RenameFolder = false
reads_at line.DeleteNode = false
reads_at line.UndeleteNode = false

not_read : (command : Command) (ask : Ask) → Write command ≡ Read ask → ⊥
not_read command ask is = cc is

not_written : (command : Command) (ask : Ask) → Read ask ≡ Write command → ⊥
not_written command ask is = cc is

-- what is made of another kind of call is none of these
never_write : {A : Type 0} (make : A → Command) (reads : Result A (List ℕ) → Type 0) (ask : Ask) → Made (λ value. Write (make value)) reads (Ok (Read ask)) → ⊥
never_write make reads ask made = not_written (make made.0) ask made.2

never_read : {A : Type 0} (make : A → Ask) (reads : Result A (List ℕ) → Type 0) (command : Command) → Made (λ value. Read (make value)) reads (Ok (Write command)) → ⊥
never_read make reads command made = not_read command (make made.0) made.2

-- a line whose body gives a read, or a write
pub read_line : (line : Line) (parts : List (List ℕ)) (pairs : List (List ℕ × List ℕ)) (d : Data) (ask : Ask) → ReadsLine line parts pairs d (Ok (Read ask)) → reads_at line ≡ true
read_line line.TestPermissions parts pairs d ask reads = refl
read_line line.ReadPolicy parts pairs d ask reads = refl
read_line line.SetPolicy parts pairs d ask reads =
    absurd (never_write (λ (policy : GivenPolicy). SetAllow reads.0 policy.version policy.etag policy.bindings) (ReadsSetting d) ask reads.2)
read_line line.ReadNode parts pairs d ask reads = refl
read_line line.ListFolders parts pairs d ask reads = refl
read_line line.ListProjects parts pairs d ask reads = refl
read_line line.CreateFolder parts pairs d ask reads = absurd (never_write (λ (folder : NewFolder). CreateFolder folder.parent folder.display) (ReadsNewFolder d) ask reads)
read_line line.CreateProject parts pairs d ask reads = absurd (never_write (λ (new : NewProject). CreateProject new.project new.parent new.display) (ReadsNewProject d) ask reads)
read_line line.RenameFolder parts pairs d ask reads = absurd (never_write (λ (display : FolderDisplay). RenameFolder reads.0 display.text) (ReadsRename d) ask reads.2)
read_line line.DeleteNode parts pairs d ask reads = absurd (never_write (λ _. DeleteNode reads.0) (ReadsNothing d) ask reads.2)
read_line line.UndeleteNode parts pairs d ask reads = absurd (never_write (λ _. UndeleteNode reads.0) (ReadsNothing d) ask reads.2)

pub write_line : (line : Line) (parts : List (List ℕ)) (pairs : List (List ℕ × List ℕ)) (d : Data) (command : Command) → ReadsLine line parts pairs d (Ok (Write command)) → reads_at line ≡ false
write_line line.TestPermissions parts pairs d command reads = absurd (never_read (λ permissions. Test reads.0 permissions) (ReadsTest d) command reads.2)
write_line line.ReadPolicy parts pairs d command reads = absurd (never_read (λ version. Policy reads.0 version) (ReadsReading d) command reads.2)
write_line line.SetPolicy parts pairs d command reads = refl
write_line line.ReadNode parts pairs d command reads = absurd (never_read (λ _. Node reads.0) (ReadsNothing d) command reads.2)
write_line line.ListFolders parts pairs d command reads = absurd (never_read (λ _. Folders reads.0) (ReadsNothing d) command reads.2)
write_line line.ListProjects parts pairs d command reads = absurd (never_read (λ _. Projects reads.0) (ReadsNothing d) command reads.2)
write_line line.CreateFolder parts pairs d command reads = refl
write_line line.CreateProject parts pairs d command reads = refl
write_line line.RenameFolder parts pairs d command reads = refl
write_line line.DeleteNode parts pairs d command reads = refl
write_line line.UndeleteNode parts pairs d command reads = refl
