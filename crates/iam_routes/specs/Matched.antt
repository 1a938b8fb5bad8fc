-- The paths of the table in a router of `matchit`.
use Rattle.std.specs.Prelude.{◌≡◌, ℕ, ◌+◌, ◌==◌, ltb, Bool, true, false, not, cond, is_some, ◌&&◌, ◌||◌, List, [], ◌∷◌, ◌++◌, map, Result, Ok, Err, codes}
use Rattle.std.specs.List.{flat_map}
use Rattle.matchit.specs.Rows.{RowsOf, param_token}
use Rattle.matchit.specs.Order.{placed}
use Rattle.matchit.specs.Route.{Scan, parse_route}
use Rattle.matchit.specs.Router.{RouteOf, route_from, nearest}
use Rattle.matchit.specs.Seek.{same_text}
use Rattle.matchit.specs.declared.error.InsertError.{InsertError}
use Rattle.iam_routes.specs.Routed.{pieces_of, seen_path}
use Rattle.iam_routes.specs.Routes.{Piece, fixed, node_in, lines, slash}
use Rattle.iam_routes.specs.declared.table.TablePath.{TablePath}

-- ---- a path as `matchit` reads it

abbrev pub piece_text : Piece → List ℕ
piece_text (fixed text) = text
piece_text (node_in kind) = codes "{part}"

abbrev pub route_text : List Piece → List ℕ
route_text [] = []
route_text (piece ∷ pieces) = slash ∷ piece_text piece ++ route_text pieces

-- ---- the rows of a router, whose values are places in the table

abbrev pub Rows : Type 0
Rows = RowsOf (RouteOf ℕ)

-- the rows with one more route, where its text reads well
abbrev pub with_scan : Result Scan InsertError → ℕ → Rows → Rows
with_scan (Ok scan) place rows = placed (scan.pattern, route_from scan place) rows
with_scan (Err stop) place rows = rows

abbrev pub with_route : List ℕ → ℕ → Rows → Rows
with_route text place rows = with_scan (parse_route text) place rows

-- the text reads well, and its route conflicts with no row
abbrev pub scan_is_free : Result Scan InsertError → Rows → Bool
scan_is_free (Ok scan) rows = not (is_some (nearest scan.pattern rows))
scan_is_free (Err stop) rows = false

abbrev pub is_free : List ℕ → Rows → Bool
is_free text rows = scan_is_free (parse_route text) rows

-- the rows with these paths, from this place on, and that each is free in its turn
abbrev pub with_paths : List (List Piece) → ℕ → Rows → Rows
with_paths [] place rows = rows
with_paths (pieces ∷ paths) place rows = with_paths paths (place + 1) (with_route (route_text pieces) place rows)

abbrev pub are_free : List (List Piece) → ℕ → Rows → Bool
are_free [] place rows = true
are_free (pieces ∷ paths) place rows = is_free (route_text pieces) rows && are_free paths (place + 1) (with_route (route_text pieces) place rows)

-- the rows of a router of the paths
abbrev pub rows_of : List TablePath → Rows
rows_of paths = with_paths (map pieces_of paths) 0 []

-- ---- that the router leads to a path of the table where a place has it

abbrev pub piece_tokens : Piece → List ℕ
piece_tokens (fixed text) = text
piece_tokens (node_in kind) = param_token ∷ []

-- a path as tokens
abbrev pub tokens_of : List Piece → List ℕ
tokens_of [] = []
tokens_of (piece ∷ pieces) = slash ∷ piece_tokens piece ++ tokens_of pieces

-- the tokens end here, or go on behind a `/`
abbrev pub ends_here : List ℕ → Bool
ends_here [] = true
ends_here (x ∷ t) = x == slash

-- each parameter is a whole segment
abbrev pub whole : List ℕ → Bool
whole [] = true
whole (x ∷ t) = (not (x == param_token) || ends_here t) && whole t

-- no place fits both: they part at two bytes, or one ends first
abbrev pub apart : List ℕ → List ℕ → Bool
apart [] [] = false
apart [] (y ∷ u) = true
apart (x ∷ t) [] = true
apart (x ∷ t) (y ∷ u) = cond (x == y) (apart t u) (ltb x param_token && ltb y param_token)

abbrev pub has_row : List ℕ → Rows → Bool
has_row t [] = false
has_row t ((u, route) ∷ rest) = same_text u t || has_row t rest

abbrev pub is_clear : ℕ → List ℕ → Rows → Bool
is_clear place t [] = true
is_clear place t ((u, route) ∷ rest) = ((same_text u t && (route.value == place)) || apart t u) && is_clear place t rest

abbrev pub all_whole : Rows → Bool
all_whole [] = true
all_whole ((u, route) ∷ rest) = whole u && all_whole rest

-- the tokens have a row of this place, and no other row stands in their way
abbrev pub is_led_to : Rows → ℕ → List ℕ → Bool
is_led_to rows place t = has_row t rows && is_clear place t rows && whole t

abbrev pub are_led_to : Rows → ℕ → List (List Piece) → Bool
are_led_to rows place [] = true
are_led_to rows place (pieces ∷ paths) = is_led_to rows place (tokens_of pieces) && are_led_to rows (place + 1) paths

-- the code's table: its lines are those of the definition, and a router of its paths leads to each of them
pub record IsTable (paths : List TablePath) : Type 0 where
  pub lines_are : flat_map seen_path paths ≡ lines
  pub free : are_free (map pieces_of paths) 0 [] ≡ true
  pub all_whole : all_whole (rows_of paths) ≡ true
  pub led_to : are_led_to (rows_of paths) 0 (map pieces_of paths) ≡ true
