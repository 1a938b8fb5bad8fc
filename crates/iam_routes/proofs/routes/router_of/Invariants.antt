use Rattle.std.proofs.Common.{◌≡◌, true, map, drop, []}
use Rattle.iam_routes.specs.Matched.{with_paths, are_free}
use Rattle.iam_routes.specs.Routed.{pieces_of}
use Rattle.iam_routes.proofs.routes.router_of.Given as goal

abbrev pub invariant-loop-place : goal.invariant-loop-place
invariant-loop-place l = record {
  rest_free : are_free (map pieces_of (drop l.place l.paths)) l.place l.router ≡ true;
  rest_gives : with_paths (map pieces_of (drop l.place l.paths)) l.place l.router ≡ with_paths (map pieces_of l.paths) 0 [];
}
