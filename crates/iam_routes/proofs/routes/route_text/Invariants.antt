use Rattle.std.proofs.Common.{◌≡◌, ◌++◌, map, drop, string_bytes}
use Rattle.iam_routes.specs.Matched.{route_text}
use Rattle.iam_routes.specs.Places.{seen_piece}
use Rattle.iam_routes.proofs.routes.route_text.Given as goal

abbrev pub invariant-loop-piece : goal.invariant-loop-piece
invariant-loop-piece l = string_bytes l.text ++ route_text (map seen_piece (drop l.piece-index l.pieces)) ≡ route_text (map seen_piece l.pieces)
