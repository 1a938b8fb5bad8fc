-- The lines of the definition and the code's table, and what a line of the table has.
use Rattle.std.proofs.Common.{◌≡◌, ◌≢◌, ℕ, zero, suc, ◌<◌, Bool, true, not, ◌&&◌, ◌||◌, List, [], ◌∷◌, ◌++◌, map, length, get_or, codes, Some, None, inl, inr, ◌⊎◌, ⊎_elim, refl, sym, ap, ◌∙◌, subst, arith}
use Rattle.std.specs.List.{All, Contains, list_all, flat_map}
use Rattle.std.specs.Bool.{◌==◌}
use Rattle.std.specs.Cmp.Lexicographic.{pointwise}
use Rattle.std.proofs.lemmas.Bool.{and_parts}
use Rattle.std.proofs.lemmas.List.Concat.{flat_map-cons}
use Rattle.std.proofs.lemmas.List.Elements.{All-append, All-cons, All-nil, All-contains, Contains-append_cases, Contains-append_left, Contains-append_right}
use Rattle.std.proofs.lemmas.List.Sums.{AllPass-from_list_all}
use Rattle.iam_names.specs.Node.{collection_of, node_text}
use Rattle.iam_names.specs.declared.node.NodeKind.{NodeKind}
use Rattle.iam_names.specs.declared.node.NodeKind.TheVariants.{Organization, Folder, Project}
use Rattle.iam_names.specs.declared.node.NodeName.{NodeName}
use Rattle.iam_json.specs.Calls.{HasParts, NamesNode, NamesFolder, NamesChild}
use Rattle.iam_routes.specs.Matched.{IsTable}
use Rattle.iam_routes.specs.Routed.{pieces_of, same_verb, seen_line, seen_path}
use Rattle.iam_json.specs.declared.route.Line.TheVariants.{TestPermissions, ReadPolicy, SetPolicy, ReadNode, ListFolders, ListProjects, CreateFolder, CreateProject, DeleteNode, UndeleteNode}
use Rattle.iam_routes.specs.Routes.{Piece, RouteLine, route_line, lines, child_lines, collection_lines, collection_path, folder_lines, node_lines, node_path, project_lines, rename_line, IsPath}
use Rattle.iam_routes.specs.declared.table.PathLine.{PathLine}
use Rattle.iam_routes.specs.declared.table.TablePath.{TablePath}
use Rattle.iam_routes.proofs.Names.{folder_in, no_organization_in}
use Rattle.iam_routes.proofs.Segments.{paths_apart}

-- ---- elements of lists

in_front : {A : Type 0} (x y : A) (xs : List A) → x ≡ y → Contains (x ∷ xs) y
in_front x y xs same = (0, omega arith, same)

in_rest : {A : Type 0} (x y : A) (xs : List A) → Contains xs y → Contains (x ∷ xs) y
in_rest x y xs there = let within : there.0 < length xs = there.1 in (suc there.0, omega arith, there.2)

nothing_in : {A B : Type 0} (y : A) → Contains [] y → B
nothing_in y there = let within : there.0 < 0 = there.1 in absurd (omega arith)

at_place : {A : Type 0} (x y : A) (xs : List A) (k : ℕ) → k < length (x ∷ xs) → get_or (x ∷ xs) k y ≡ y → (x ≡ y) ⊎ Contains xs y
at_place x y xs zero within is = inl is
at_place x y xs (suc k) within is = inr (k, omega arith, is)

first_or_rest : {A : Type 0} (x y : A) (xs : List A) → Contains (x ∷ xs) y → (x ≡ y) ⊎ Contains xs y
first_or_rest x y xs there = at_place x y xs there.0 there.1 there.2

flat_there : {A B : Type 0} (f : A → List B) (xs : List A) (y : B) → Contains (flat_map f xs) y → (x : A) × Contains xs x × Contains (f x) y
flat_there f [] y there = nothing_in y there
flat_there f (x ∷ xs) y there =
    ⊎_elim
    (λ (here : Contains (f x) y). (x, in_front x x xs refl, here))
    (λ (more : Contains (flat_map f xs) y). let found = flat_there f xs y more in (found.0, in_rest x found.0 xs found.1, found.2))
    (Contains-append_cases (f x) (flat_map f xs) y (subst (λ l. Contains l y) (flat_map-cons f x xs) there))

flat_from : {A B : Type 0} (f : A → List B) (xs : List A) (x : A) (y : B) → Contains xs x → Contains (f x) y → Contains (flat_map f xs) y
flat_from f [] x y there here = nothing_in x there
flat_from f (z ∷ xs) x y there here =
    subst (λ l. Contains l y) (sym (flat_map-cons f z xs))
    (⊎_elim
    (λ (same : z ≡ x). Contains-append_left (f z) (flat_map f xs) y (subst (λ w. Contains (f w) y) (sym same) here))
    (λ (more : Contains xs x). Contains-append_right (f z) (flat_map f xs) y (flat_from f xs x y more here))
    (first_or_rest z x xs there))

-- ---- the code's table

pub on_path : (pieces : List Piece) (ls : List PathLine) (line : RouteLine) → Contains (map (seen_line pieces) ls) line → line.path ≡ pieces
on_path pieces [] line there = nothing_in line there
on_path pieces (l ∷ ls) line there =
    ⊎_elim
    (λ (same : seen_line pieces l ≡ line). sym (ap (λ (x : RouteLine). x.path) same))
    (λ (more : Contains (map (seen_line pieces) ls) line). on_path pieces ls line more)
    (first_or_rest (seen_line pieces l) line (map (seen_line pieces) ls) there)

-- a line of the definition stands on a path of the code's table
pub line_listed : (paths : List TablePath) (line : RouteLine) → IsTable paths → Contains lines line → (path : TablePath) × Contains paths path × Contains (seen_path path) line × (line.path ≡ pieces_of path)
line_listed paths line table there =
    let found = flat_there seen_path paths line (subst (λ l. Contains l line) (sym table.lines_are) there) in
    (found.0, found.1, found.2, on_path (pieces_of found.0) found.0.lines.now line found.2)

pub listed_line : (paths : List TablePath) (path : TablePath) (line : RouteLine) → IsTable paths → Contains paths path → Contains (seen_path path) line → Contains lines line
listed_line paths path line table there here = subst (λ l. Contains l line) table.lines_are (flat_from seen_path paths path line there here)

-- ---- the parts of a line

-- the node, and that it stands in its collection
named_parts : (kind : NodeKind) (place : List ℕ) (parts : List (List ℕ)) → IsPath (node_path kind) place parts
    → (node : NodeName) × NamesNode parts node × ((behind : List ℕ) × (node_text node ≡ collection_of kind ++ behind))
named_parts kind place parts first =
    let second = first.5 in
    let third = second.5 in
    let named = third.3.gives in
    let last = third.5 in
    let all : parts ≡ named.0 ∷ [] =
    first.4 ∙ ap (λ g. g ++ first.2) first.3.gives.1 ∙ second.4 ∙ ap (λ g. g ++ second.2) second.3.gives.1 ∙ third.4
    ∙ ap (λ g. g ++ third.2) named.2 ∙ ap (λ m. named.0 ∷ m) last.1
    in
    (named.1.0, (named.1.1, all ∙ ap (λ p. p ∷ []) named.1.2), (_, sym named.1.2 ∙ named.1.3))

node_parts : (kind : NodeKind) (place : List ℕ) (parts : List (List ℕ)) → IsPath (node_path kind) place parts → (node : NodeName) × NamesNode parts node
node_parts kind place parts path = let named = named_parts kind place parts path in (named.0, named.1)

folder_parts : (place : List ℕ) (parts : List (List ℕ)) → IsPath (node_path Folder) place parts → (node : NodeName) × NamesFolder parts node
folder_parts place parts path =
    let named = named_parts Folder place parts path in (named.0, (named.1, folder_in named.0 named.2.0 named.2.1))

child_parts : (kind : NodeKind) → kind ≢ Organization → (place : List ℕ) (parts : List (List ℕ)) → IsPath (node_path kind) place parts → (node : NodeName) × NamesChild parts node
child_parts kind other place parts path =
    let named = named_parts kind place parts path in (named.0, (named.1, no_organization_in kind other named.0 named.2.0 named.2.1))

collection_parts : (kind : NodeKind) (place : List ℕ) (parts : List (List ℕ)) → IsPath (collection_path kind) place parts → parts ≡ []
collection_parts kind place parts first =
    let second = first.5 in
    first.4 ∙ ap (λ g. g ++ first.2) first.3.gives.1 ∙ second.4 ∙ ap (λ g. g ++ second.2) second.3.gives.1 ∙ second.5.1

abbrev GivesParts : RouteLine → Type 0
GivesParts line = (place : List ℕ) (parts : List (List ℕ)) → IsPath line.path place parts → HasParts line.line parts

node_lines_give : (kind : NodeKind) → All GivesParts (node_lines kind)
node_lines_give kind =
    let test : RouteLine = route_line TestPermissions (codes "POST") (node_path kind) (Some (codes "testIamPermissions")) in
    let policy : RouteLine = route_line ReadPolicy (codes "POST") (node_path kind) (Some (codes "getIamPolicy")) in
    let set : RouteLine = route_line SetPolicy (codes "POST") (node_path kind) (Some (codes "setIamPolicy")) in
    let read : RouteLine = route_line ReadNode (codes "GET") (node_path kind) None in
    All-cons GivesParts test (policy ∷ set ∷ read ∷ []) (node_parts kind)
    (All-cons GivesParts policy (set ∷ read ∷ []) (node_parts kind)
    (All-cons GivesParts set (read ∷ []) (node_parts kind)
    (All-cons GivesParts read [] (node_parts kind) (All-nil GivesParts))))

-- two lines of a collection
two_lines_give : (first second : RouteLine) → GivesParts first → GivesParts second → All GivesParts (first ∷ second ∷ [])
two_lines_give first second one two = All-cons GivesParts first (second ∷ []) one (All-cons GivesParts second [] two (All-nil GivesParts))

child_lines_give : (kind : NodeKind) → kind ≢ Organization → All GivesParts (child_lines kind)
child_lines_give kind other =
    two_lines_give (route_line DeleteNode (codes "DELETE") (node_path kind) None) (route_line UndeleteNode (codes "POST") (node_path kind) (Some (codes "undelete")))
    (child_parts kind other) (child_parts kind other)

folder_lines_give : All GivesParts folder_lines
folder_lines_give =
    All-append GivesParts (node_lines Folder) (rename_line ∷ child_lines Folder) (node_lines_give Folder)
    (All-cons GivesParts rename_line (child_lines Folder) folder_parts (child_lines_give Folder (λ e. cc e)))

project_lines_give : All GivesParts project_lines
project_lines_give = All-append GivesParts (node_lines Project) (child_lines Project) (node_lines_give Project) (child_lines_give Project (λ e. cc e))

folders_give : All GivesParts (collection_lines Folder ListFolders CreateFolder)
folders_give =
    two_lines_give (route_line ListFolders (codes "GET") (collection_path Folder) None) (route_line CreateFolder (codes "POST") (collection_path Folder) None)
    (collection_parts Folder) (collection_parts Folder)

projects_give : All GivesParts (collection_lines Project ListProjects CreateProject)
projects_give =
    two_lines_give (route_line ListProjects (codes "GET") (collection_path Project) None) (route_line CreateProject (codes "POST") (collection_path Project) None)
    (collection_parts Project) (collection_parts Project)

abbrev collections : List RouteLine
collections = collection_lines Folder ListFolders CreateFolder ++ collection_lines Project ListProjects CreateProject

all_give : All GivesParts lines
unfolding lines
all_give =
    All-append GivesParts (node_lines Organization) (folder_lines ++ (project_lines ++ collections)) (node_lines_give Organization)
    (All-append GivesParts folder_lines (project_lines ++ collections) folder_lines_give
    (All-append GivesParts project_lines collections project_lines_give
    (All-append GivesParts (collection_lines Folder ListFolders CreateFolder) (collection_lines Project ListProjects CreateProject) folders_give projects_give)))

pub has_parts : (line : RouteLine) → Contains lines line → GivesParts line
has_parts line there = All-contains GivesParts lines line all_give there

-- ---- two lines are told apart

abbrev pub lines_apart : RouteLine → RouteLine → Bool
lines_apart a b = (not (same_verb a.verb b.verb) || not (pointwise ◌==◌ a.method b.method)) || paths_apart a.path b.path

abbrev pairs_apart : List RouteLine → Bool
pairs_apart [] = true
pairs_apart (l ∷ ls) = list_all (lines_apart l) ls && pairs_apart ls

each : (p : RouteLine → Bool) (ls : List RouteLine) (line : RouteLine) → list_all p ls ≡ true → Contains ls line → p line ≡ true
each p ls line t there = All-contains (λ l. p l ≡ true) ls line (AllPass-from_list_all p ls t) there

one_of_two : (ls : List RouteLine) (a b : RouteLine) → pairs_apart ls ≡ true → Contains ls a → Contains ls b → (a ≡ b) ⊎ ((lines_apart a b ≡ true) ⊎ (lines_apart b a ≡ true))
one_of_two [] a b t here there = nothing_in a here
one_of_two (l ∷ ls) a b t here there =
    let parts = and_parts (list_all (lines_apart l) ls) (pairs_apart ls) t in
    ⊎_elim
    (λ (first : l ≡ a).
    ⊎_elim
    (λ (second : l ≡ b). inl (sym first ∙ second))
    (λ (more : Contains ls b). inr (inl (subst (λ x. lines_apart x b ≡ true) first (each (lines_apart l) ls b parts.0 more))))
    (first_or_rest l b ls there))
    (λ (rest : Contains ls a).
    ⊎_elim
    (λ (second : l ≡ b). inr (inr (subst (λ x. lines_apart x a ≡ true) second (each (lines_apart l) ls a parts.0 rest))))
    (λ (more : Contains ls b). one_of_two ls a b parts.1 rest more)
    (first_or_rest l b ls there))
    (first_or_rest l a ls here)

pub lines_told : (a b : RouteLine) → Contains lines a → Contains lines b → (a ≡ b) ⊎ ((lines_apart a b ≡ true) ⊎ (lines_apart b a ≡ true))
unfolding lines
lines_told a b = one_of_two lines a b refl
