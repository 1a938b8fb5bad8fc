-- The route table, as far as it is answered, and the paths of its lines.
use Rattle.std.specs.Prelude.{◌≡◌, ◌≢◌, ℕ, ◌==◌, List, [], ◌∷◌, ◌++◌, Contains, IsTrue, codes}
use Rattle.std.specs.Char.{is_ascii_alphabetic}
use Rattle.std.specs.List.{before_first, list_all}
use Rattle.std.specs.declared.option.Option.{Option}
use Rattle.std.specs.declared.option.Option.TheVariants.{None, Some}
use Rattle.percent_encoding.specs.Percent.{percent_decode}
use Rattle.iam_names.specs.Node.{collection_of, IsNodeName, node_text}
use Rattle.iam_names.specs.declared.node.NodeKind.{NodeKind}
use Rattle.iam_names.specs.declared.node.NodeKind.TheVariants.{Organization, Folder, Project}
use Rattle.iam_names.specs.declared.node.NodeName.{NodeName}
use Rattle.iam_json.specs.declared.route.Line.{Line}
use Rattle.iam_json.specs.declared.route.Line.TheVariants.{TestPermissions, ReadPolicy, SetPolicy, ReadNode, ListFolders, ListProjects, CreateFolder, CreateProject, RenameFolder, DeleteNode, UndeleteNode}

-- ---- the table

-- a segment of a line's path: one that stands as it is, or a parameter, which is percent-decoded: what follows a collection in the name of a node
pub data Piece : Type 0 where
  fixed : List ℕ → Piece
  node_in : NodeKind → Piece

-- a line of the table: its method, its path, and the verb behind it, if it has one
pub record RouteLine : Type 0 where
  pub line : Line
  pub method : List ℕ
  pub path : List Piece
  pub verb : Option (List ℕ)

abbrev pub route_line : Line → List ℕ → List Piece → Option (List ℕ) → RouteLine
route_line line method path verb = record { line = line; method = method; path = path; verb = verb }

-- how a collection is called
abbrev pub collection : NodeKind → List ℕ
collection Organization = codes "organizations"
collection Folder = codes "folders"
collection Project = codes "projects"

-- `/v3/folders`, and the like
abbrev pub collection_path : NodeKind → List Piece
collection_path kind = fixed (codes "v3") ∷ fixed (collection kind) ∷ []

-- `/v3/{node}`, for the nodes of a kind: `/v3/organizations/N`, `/v3/folders/N`, `/v3/projects/N` or `/v3/projects/PID`
abbrev pub node_path : NodeKind → List Piece
node_path kind = fixed (codes "v3") ∷ fixed (collection kind) ∷ node_in kind ∷ []

-- the lines of a node
abbrev pub node_lines : NodeKind → List RouteLine
node_lines kind =
    route_line TestPermissions (codes "POST") (node_path kind) (Some (codes "testIamPermissions"))
    ∷ route_line ReadPolicy (codes "POST") (node_path kind) (Some (codes "getIamPolicy"))
    ∷ route_line SetPolicy (codes "POST") (node_path kind) (Some (codes "setIamPolicy"))
    ∷ route_line ReadNode (codes "GET") (node_path kind) None
    ∷ []

-- the lines of a folder or project alone: the organisation isn't deleted
abbrev pub child_lines : NodeKind → List RouteLine
child_lines kind =
    route_line DeleteNode (codes "DELETE") (node_path kind) None
    ∷ route_line UndeleteNode (codes "POST") (node_path kind) (Some (codes "undelete"))
    ∷ []

-- the line of a folder alone
abbrev pub rename_line : RouteLine
rename_line = route_line RenameFolder (codes "PATCH") (node_path Folder) None

abbrev pub folder_lines : List RouteLine
folder_lines = node_lines Folder ++ rename_line ∷ child_lines Folder

abbrev pub project_lines : List RouteLine
project_lines = node_lines Project ++ child_lines Project

-- the lines of a collection, of which one lists it, and one makes what is in it
abbrev pub collection_lines : NodeKind → Line → Line → List RouteLine
collection_lines kind lists makes =
    route_line lists (codes "GET") (collection_path kind) None ∷ route_line makes (codes "POST") (collection_path kind) None ∷ []

unfoldable pub lines : List RouteLine
lines =
    node_lines Organization
    ++ (folder_lines
    ++ (project_lines
    ++ (collection_lines Folder ListFolders CreateFolder
    ++ collection_lines Project ListProjects CreateProject)))

-- ---- the path of a target

abbrev pub question_mark : ℕ
question_mark = 63

abbrev pub slash : ℕ
slash = 47

abbrev pub colon : ℕ
colon = 58

-- the path of a target: what stands before its query
abbrev pub path_of : List ℕ → List ℕ
path_of target = before_first (λ byte. byte == question_mark) target

-- a verb is letters alone
abbrev pub IsVerb : List ℕ → Type 0
IsVerb text = (text ≢ []) × IsTrue (list_all is_ascii_alphabetic text)

-- A path is a place and its verb: it is cut at the last `:`, if letters alone follow. So no part of a segment before the last is one.
abbrev pub IsCut : List ℕ → List ℕ → Option (List ℕ) → Type 0
IsCut path place (Some verb) = IsVerb verb × (path ≡ place ++ colon ∷ verb)
IsCut path place None = (path ≡ place) × ((front verb : List ℕ) → IsVerb verb → path ≢ front ++ colon ∷ verb)

-- the byte isn't in the text
abbrev pub Lacks : ℕ → List ℕ → Type 0
Lacks byte text = (front back : List ℕ) → text ≢ front ++ byte ∷ back

-- a segment is percent-decoded behind a collection, and this is the name of a node
abbrev pub Names : NodeKind → List ℕ → List ℕ → Type 0
Names kind segment part =
    (node : NodeName) × IsNodeName node × (part ≡ node_text node) × (part ≡ collection_of kind ++ percent_decode segment)

-- what a piece gives of a segment: nothing where it stands as it is, and its part where it is a parameter
abbrev pub Gives : Piece → List ℕ → List (List ℕ) → Type 0
Gives (fixed text) segment given = (segment ≡ text) × (given ≡ [])
Gives (node_in kind) segment given = (part : List ℕ) × Names kind segment part × (given ≡ part ∷ [])

-- the place begins with a `/` and a segment for the piece
pub record BeginsWith (piece : Piece) (place rest : List ℕ) (given : List (List ℕ)) : Type 0 where
  pub segment : List ℕ
  pub whole : place ≡ slash ∷ segment ++ rest
  pub plain : Lacks slash segment
  pub gives : Gives piece segment given

-- the place is a segment for each piece, each behind a `/`, and these give the parts
abbrev pub IsPath : List Piece → List ℕ → List (List ℕ) → Type 0
IsPath [] place parts = (place ≡ []) × (parts ≡ [])
IsPath (piece ∷ pieces) place parts =
    (rest : List ℕ) × (given : List (List ℕ)) × (more : List (List ℕ)) × BeginsWith piece place rest given × (parts ≡ given ++ more)
    × IsPath pieces rest more

-- ---- the lines of a target

-- the path of the target is that of the line, with its verb, and its parameters give these parts
abbrev pub HasPath : RouteLine → List ℕ → List (List ℕ) → Type 0
HasPath line target parts = (place : List ℕ) × IsCut (path_of target) place line.verb × IsPath line.path place parts

-- a line of the table has the path
abbrev pub IsOnTable : List ℕ → Type 0
IsOnTable target = (line : RouteLine) × Contains lines line × ((parts : List (List ℕ)) × HasPath line target parts)

-- that line has the method and the path, whose parameters give these parts
pub record Reaches (method target : List ℕ) (line : RouteLine) (parts : List (List ℕ)) : Type 0 where
  pub on_table : Contains lines line
  pub method_is : line.method ≡ method
  pub path : HasPath line target parts
