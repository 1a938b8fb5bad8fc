-- The predefined roles.
use Rattle.std.specs.Prelude.{ℕ, Bool, true, false, ◌&&◌, List, [], ◌∷◌, ◌++◌, map, filter, Some, None, codes}
use Rattle.std.specs.declared.option.Option.{Option}
use Rattle.std.specs.List.{flat_map, list_any}
use Rattle.std.specs.Option.{option_map_or}
use Rattle.std.specs.Str.{bytes_eq}
use Rattle.iam_names.specs.declared.role.RoleName.{RoleName}
use Rattle.iam_names.specs.declared.role.RoleName.TheVariants.{Predefined}
use Rattle.iam_types.specs.declared.catalogue.Level.{Level}
use Rattle.iam_types.specs.declared.catalogue.Level.TheVariants.{Organization, Folder, Project}
use Rattle.iam_types.specs.declared.catalogue.Preset.{Preset}
use Rattle.iam_model.specs.Catalogue.{Line, words, lines, permission_of}
use Rattle.iam_model.specs.Same.{same_role}

-- Permissions of the catalogue by their service, resource, verb and level. What isn't given stands for all.
pub record Pattern : Type 0 where
  pub service : Option (List ℕ)
  pub resource : Option (List ℕ)
  pub verbs : List (List ℕ)
  pub level : Option Level

abbrev pub same_level : Level → Level → Bool
same_level Organization Organization = true
same_level Folder Folder = true
same_level Project Project = true
same_level a b = false

abbrev pub is_absent_or : Option (List ℕ) → List ℕ → Bool
is_absent_or given text = option_map_or (λ only. bytes_eq only text) given true

abbrev pub is_empty_or_has : List (List ℕ) → List ℕ → Bool
is_empty_or_has [] verb = true
is_empty_or_has (first ∷ more) verb = list_any (λ only. bytes_eq only verb) (first ∷ more)

abbrev pub fits : Line → List ℕ → Pattern → Bool
fits line verb pattern =
    is_absent_or pattern.service line.service
    && is_absent_or pattern.resource line.resource
    && is_empty_or_has pattern.verbs verb
    && option_map_or (λ only. same_level only line.level) pattern.level true

-- all of a service
abbrev pub all_of : List ℕ → Pattern
all_of service = record { service = Some service; resource = None; verbs = []; level = None }

-- these verbs of a service
abbrev pub verbs_of : List ℕ → List ℕ → Pattern
verbs_of service verbs = record { service = Some service; resource = None; verbs = words verbs; level = None }

-- this verb, of whatever it is
abbrev pub every : List ℕ → Pattern
every verb = record { service = None; resource = None; verbs = verb ∷ []; level = None }

-- all of a resource
abbrev pub all_at : List ℕ → List ℕ → Pattern
all_at service resource = record { service = Some service; resource = Some resource; verbs = []; level = None }

-- these verbs of a resource
abbrev pub verbs_at : List ℕ → List ℕ → List ℕ → Pattern
verbs_at service resource verbs = record { service = Some service; resource = Some resource; verbs = words verbs; level = None }

-- what speaks of a project, of a resource
abbrev pub project_level_at : List ℕ → List ℕ → Pattern
project_level_at service resource = record { service = Some service; resource = Some resource; verbs = []; level = Some Project }

abbrev pub viewing : List Pattern
viewing =
    verbs_at (codes "resourcemanager") (codes "projects") (codes "get list")
    ∷ verbs_of (codes "storage") (codes "get list")
    ∷ verbs_of (codes "compute") (codes "get list")
    ∷ []

abbrev pub editing : List Pattern
editing = viewing ++ all_of (codes "storage") ∷ all_of (codes "compute") ∷ []

abbrev pub owning : List Pattern
owning = editing ++ project_level_at (codes "resourcemanager") (codes "projects") ∷ all_at (codes "iam") (codes "roles") ∷ []

-- A predefined role, by what stands behind `roles/`, and its permissions.
pub record PresetLine : Type 0 where
  pub id : List ℕ
  pub patterns : List Pattern

abbrev pub preset : List ℕ → List Pattern → PresetLine
preset id patterns = record { id = id; patterns = patterns }

unfoldable pub preset_lines : List PresetLine
preset_lines =
    preset (codes "viewer") viewing
    ∷ preset (codes "editor") editing
    ∷ preset (codes "owner") owning
    ∷ preset (codes "resourcemanager.organizationAdmin") (
    all_of (codes "resourcemanager")
    ∷ all_of (codes "iam")
    ∷ all_of (codes "directory")
    ∷ [])
    ∷ preset (codes "resourcemanager.folderAdmin") (
    all_at (codes "resourcemanager") (codes "folders")
    ∷ verbs_at (codes "resourcemanager") (codes "projects") (codes "create get list move")
    ∷ [])
    ∷ preset (codes "resourcemanager.projectIamAdmin") (
    verbs_at (codes "resourcemanager") (codes "projects") (codes "get getIamPolicy setIamPolicy")
    ∷ [])
    ∷ preset (codes "resourcemanager.tagUser") (
    all_at (codes "resourcemanager") (codes "hierarchyNodes")
    ∷ verbs_at (codes "resourcemanager") (codes "tagKeys") (codes "get")
    ∷ verbs_at (codes "resourcemanager") (codes "tagValues") (codes "get")
    ∷ [])
    ∷ preset (codes "iam.securityReviewer") (
    every (codes "getIamPolicy")
    ∷ verbs_of (codes "iam") (codes "get list")
    ∷ [])
    ∷ preset (codes "iam.denyAdmin") (
    all_at (codes "iam") (codes "denypolicies")
    ∷ [])
    ∷ preset (codes "storage.objectViewer") (
    verbs_at (codes "storage") (codes "objects") (codes "get list")
    ∷ [])
    ∷ []

-- the permissions of a line that some pattern fits
abbrev pub listed_of : List Pattern → Line → List (List ℕ)
listed_of patterns line = map (permission_of line) (filter (λ verb. list_any (fits line verb) patterns) line.verbs)

-- a role has its permissions in the order of the lines
abbrev pub preset_at : List Line → PresetLine → Preset
preset_at lines preset = record { role = Predefined preset.id; permissions = flat_map (listed_of preset.patterns) lines }

unfoldable pub presets : List Preset
presets = map (preset_at lines) preset_lines

-- the role is a predefined one
abbrev pub is_preset : RoleName → Bool
is_preset role = list_any (λ preset. same_role (Predefined preset.id) role) preset_lines
