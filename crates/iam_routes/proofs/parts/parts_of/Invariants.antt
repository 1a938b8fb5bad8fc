use Rattle.std.proofs.Common.{map, drop}
use denote.Text.{Utf8}
use denote.Shadow.{shadow}
use Rattle.iam_routes.specs.Places.{seen_piece}
use Rattle.iam_routes.proofs.Segments.{Follows}
use Rattle.iam_routes.proofs.parts.parts_of.Given as goal

abbrev pub invariant-loop-piece : goal.invariant-loop-piece
invariant-loop-piece l = shadow (Utf8 l.rest) × Follows (map seen_piece l.pieces) (map seen_piece (drop l.piece-index l.pieces)) l.place l.rest l.parts
