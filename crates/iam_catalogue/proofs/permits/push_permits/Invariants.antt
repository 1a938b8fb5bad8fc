use Rattle.std.proofs.Common.{◌≡◌, ◌++◌, map, take}
use Rattle.iam_model.specs.Catalogue.{permit_of}
use Rattle.iam_catalogue.specs.Lines.{line_of}
use Rattle.iam_catalogue.proofs.permits.push_permits.Given as goal

abbrev pub invariant-loop-verb : goal.invariant-loop-verb
invariant-loop-verb l = l.permits ≡ l.initial.permits ++ map (λ verb. permit_of (line_of l.line) verb.now) (take l.verb-index l.line.verbs.now)
