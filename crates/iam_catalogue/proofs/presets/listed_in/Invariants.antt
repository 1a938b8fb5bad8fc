use Rattle.std.proofs.Common.{◌≡◌, map, take}
use Rattle.std.specs.List.{flat_map}
use Rattle.iam_model.specs.Presets.{listed_of}
use Rattle.iam_catalogue.specs.Lines.{line_of, pattern_of}
use Rattle.iam_catalogue.proofs.presets.listed_in.Given as goal

abbrev pub invariant-loop-line : goal.invariant-loop-line
invariant-loop-line l = l.permissions ≡ flat_map (λ line. listed_of (map pattern_of l.patterns) (line_of line)) (take l.line-index l.lines)
