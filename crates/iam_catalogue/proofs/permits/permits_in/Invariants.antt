use Rattle.std.proofs.Common.{◌≡◌, take}
use Rattle.std.specs.List.{flat_map}
use Rattle.iam_model.specs.Catalogue.{permits_of}
use Rattle.iam_catalogue.specs.Lines.{line_of}
use Rattle.iam_catalogue.proofs.permits.permits_in.Given as goal

abbrev pub invariant-loop-line : goal.invariant-loop-line
invariant-loop-line l = l.permits ≡ flat_map (λ line. permits_of (line_of line)) (take l.line-index l.lines)
