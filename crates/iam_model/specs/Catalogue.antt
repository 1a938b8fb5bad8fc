-- The catalogue of permissions.
use Rattle.std.specs.Prelude.{ℕ, Bool, true, false, ◌==◌, List, [], ◌∷◌, ◌++◌, map, codes}
use Rattle.std.specs.List.{flat_map, list_any, slice_split}
use Rattle.std.specs.Str.{bytes_eq}
use Rattle.iam_types.specs.declared.catalogue.Level.{Level}
use Rattle.iam_types.specs.declared.catalogue.Level.TheVariants.{Organization, Folder, Project}
use Rattle.iam_types.specs.declared.catalogue.Permit.{Permit}

-- The permissions of one resource of a service. The host stands for the service in deny rules, the level is the lowest kind of node
-- that they speak of, and `least` is the least version of a boundary policy that blocks them, 0 where none does.
pub record Line : Type 0 where
  pub service : List ℕ
  pub host : List ℕ
  pub resource : List ℕ
  pub verbs : List (List ℕ)
  pub level : Level
  pub deniable : Bool
  pub least : ℕ

-- the words of a text, with a space between them
abbrev pub words : List ℕ → List (List ℕ)
words text = slice_split (λ byte. byte == 32) text

abbrev pub line : List ℕ → List ℕ → List ℕ → List ℕ → Level → Bool → ℕ → Line
line service host resource verbs level deniable least =
    record { service = service; host = host; resource = resource; verbs = words verbs; level = level; deniable = deniable; least = least }

abbrev pub of_resource_manager : List ℕ → List ℕ → Level → Bool → ℕ → Line
of_resource_manager resource = line (codes "resourcemanager") (codes "cloudresourcemanager.googleapis.com") resource

abbrev pub of_iam : List ℕ → List ℕ → Level → Bool → ℕ → Line
of_iam resource = line (codes "iam") (codes "iam.googleapis.com") resource

abbrev pub of_directory : List ℕ → List ℕ → Level → Bool → ℕ → Line
of_directory resource = line (codes "directory") (codes "directory.iamd.internal") resource

abbrev pub of_storage : List ℕ → List ℕ → Level → Bool → ℕ → Line
of_storage resource = line (codes "storage") (codes "storage.googleapis.com") resource

abbrev pub of_compute : List ℕ → List ℕ → Level → Bool → ℕ → Line
of_compute resource = line (codes "compute") (codes "compute.googleapis.com") resource

-- resource, verbs, level, deniable, least
unfoldable pub lines : List Line
lines =
    of_resource_manager (codes "organizations") (codes "get") Organization false 1
    ∷ of_resource_manager (codes "organizations") (codes "getIamPolicy setIamPolicy") Organization true 1
    ∷ of_resource_manager (codes "folders") (codes "create get list update move delete undelete getIamPolicy setIamPolicy") Folder true 1
    ∷ of_resource_manager (codes "projects") (codes "create") Folder true 1
    ∷ of_resource_manager (codes "projects") (codes "get list move delete undelete getIamPolicy setIamPolicy") Project true 1
    ∷ of_resource_manager (codes "tagKeys") (codes "create get delete") Organization true 2
    ∷ of_resource_manager (codes "tagValues") (codes "create get delete") Organization true 2
    ∷ of_resource_manager (codes "hierarchyNodes") (codes "createTagBinding deleteTagBinding listTagBindings") Project true 2
    ∷ of_iam (codes "roles") (codes "create get update delete undelete") Project true 2
    ∷ of_iam (codes "denypolicies") (codes "create get list update delete") Project true 2
    ∷ of_iam (codes "boundarypolicies") (codes "create get update delete") Organization true 2
    ∷ of_iam (codes "policybindings") (codes "create get delete") Project true 2
    ∷ of_directory (codes "groups") (codes "create get update delete") Organization false 0
    ∷ of_storage (codes "buckets") (codes "get list create") Project true 1
    ∷ of_storage (codes "objects") (codes "get list create delete") Project true 1
    ∷ of_compute (codes "instances") (codes "get list start stop delete") Project true 3
    ∷ []

-- `service.resource.verb`
abbrev pub permission_of : Line → List ℕ → List ℕ
permission_of line verb = line.service ++ codes "." ++ line.resource ++ codes "." ++ verb

abbrev pub permit_of : Line → List ℕ → Permit
permit_of line verb = record {
  name = permission_of line verb;
  host = line.host;
  level = line.level;
  deniable = line.deniable;
  least = line.least;
}

abbrev pub permits_of : Line → List Permit
permits_of line = map (permit_of line) line.verbs

-- each verb of each line
unfoldable pub permits : List Permit
permits = flat_map permits_of lines

-- the permission is in the catalogue
abbrev pub is_permission : List ℕ → Bool
is_permission name = list_any (λ permit. bytes_eq permit.name name) permits
