use Rattle.std.proofs.Common.{◌≡◌, ◌++◌, map}
use Rattle.form_urlencoded.specs.Parse.{raw_pairs_left}
use Rattle.iam_routes.specs.Query.{form_pair, pairs_of}
use Rattle.iam_routes.proofs.query.pairs_of.Given as goal

abbrev pub invariant-loop-key : goal.invariant-loop-key
invariant-loop-key l =
    (goal.iterator-loop-key).can_next l.key-iterator
    × (goal.iterator-loop-key).is_finite l.key-iterator
    × (l.pairs ++ map form_pair (raw_pairs_left l.key-iterator) ≡ pairs_of l.target)
