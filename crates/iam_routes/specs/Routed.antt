-- The code's table, and the route of a message.
use Rattle.std.specs.Prelude.{◌≡◌, ◌≢◌, ℕ, ◌<◌, ◌≤◌, Bool, true, false, List, map, length, get_or, Contains}
use Rattle.std.specs.Borrow.{Bor}
use Rattle.std.specs.Option.{option_map}
use Rattle.std.specs.Str.{bytes_eq}
use Rattle.std.specs.declared.option.Option.{Option}
use Rattle.std.specs.declared.option.Option.TheVariants.{None, Some}
use Rattle.iam_names.specs.declared.caller.Caller.{Caller}
use Rattle.iam_wire.specs.declared.message.Field.{Field}
use Rattle.iam_routes.specs.Asked.{NamesCaller, NamesFloor}
use Rattle.iam_routes.specs.Places.{seen_piece}
use Rattle.iam_routes.specs.Query.{pairs_of}
use Rattle.iam_routes.specs.Routes.{Piece, RouteLine, route_line, lines, IsPath, IsOnTable, Reaches}
use Rattle.iam_routes.specs.declared.line.Found.{Found}
use Rattle.iam_routes.specs.declared.line.Found.TheVariants.{NoVerb, NoMethod, At}
use Rattle.iam_routes.specs.declared.route.Routed.{Routed}
use Rattle.iam_routes.specs.declared.route.Routed.TheVariants.{NoRoute, BadMethod, To}
use Rattle.iam_routes.specs.declared.table.PathLine.{PathLine}
use Rattle.iam_routes.specs.declared.table.TablePath.{TablePath}

-- ---- the code's table

abbrev pub pieces_of : TablePath → List Piece
pieces_of path = map seen_piece path.pieces.now

-- a line on a path
abbrev pub seen_line : List Piece → PathLine → RouteLine
seen_line pieces line = route_line line.line line.method.now pieces (option_map (λ verb. verb.now) line.verb)

-- the lines of a path
abbrev pub seen_path : TablePath → List RouteLine
seen_path path = map (seen_line (pieces_of path)) path.lines.now

-- ---- what is found in it

-- the path at an index, if there is one
abbrev pub IsPathIn : List TablePath → ℕ → Option (Bor TablePath) → Type 0
IsPathIn paths place None = length paths ≤ place
IsPathIn paths place (Some path) = (place < length paths) × (get_or paths place path.now ≡ path.now)

-- the only path of the table that a place can have: its lines are lines of the table, and so are all whose path the place has among them
abbrev pub IsPathAt : List ℕ → Option (Bor TablePath) → Type 0
IsPathAt place None = (line : RouteLine) (parts : List (List ℕ)) → Contains lines line → ¬ (IsPath line.path place parts)
IsPathAt place (Some path) =
    ((line : RouteLine) → Contains (seen_path path.now) line → Contains lines line)
    × ((line : RouteLine) (parts : List (List ℕ)) → Contains lines line → IsPath line.path place parts → Contains (seen_path path.now) line)

abbrev pub same_verb : Option (List ℕ) → Option (List ℕ) → Bool
same_verb None None = true
same_verb None (Some b) = false
same_verb (Some a) None = false
same_verb (Some a) (Some b) = bytes_eq a b

-- what lines have for a verb and a method
abbrev pub IsFound : List RouteLine → List ℕ → Option (List ℕ) → Found → Type 0
IsFound lines method verb NoVerb = (line : RouteLine) → Contains lines line → line.verb ≢ verb
IsFound lines method verb NoMethod =
    ((line : RouteLine) × Contains lines line × (line.verb ≡ verb))
    × ((line : RouteLine) → Contains lines line → line.verb ≡ verb → line.method ≢ method)
IsFound lines method verb (At which) =
    (line : RouteLine) × Contains lines line × (line.verb ≡ verb) × (line.method ≡ method) × (line.line ≡ which)

-- the route of a method and a target, or the refusal
abbrev pub IsRouted : List ℕ → List ℕ → Routed → Type 0
IsRouted method target NoRoute = ¬ (IsOnTable target)
IsRouted method target BadMethod = IsOnTable target × ((line : RouteLine) (parts : List (List ℕ)) → ¬ (Reaches method target line parts))
IsRouted method target (To route) =
    (line : RouteLine) × Reaches method target line route.parts × (line.line ≡ route.line) × (route.pairs ≡ pairs_of target)

-- the caller that the header names
abbrev pub IsCallerOf : Field → Option Caller → Type 0
IsCallerOf field None = (caller : Caller) → ¬ (NamesCaller field caller)
IsCallerOf field (Some caller) = NamesCaller field caller

-- the revision that the header asks for
abbrev pub IsFloorOf : Field → Option (Option ℕ) → Type 0
IsFloorOf field None = (floor : Option ℕ) → ¬ (NamesFloor field floor)
IsFloorOf field (Some floor) = NamesFloor field floor
