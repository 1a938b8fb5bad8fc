use Rattle.std.proofs.Common.{◌≡◌, ◌++◌, map, take}
use Rattle.std.specs.List.{flat_map}
use Rattle.iam_catalogue.specs.Lines.{line_of, listed_at, pattern_of}
use Rattle.iam_catalogue.proofs.presets.push_listed.Given as goal

abbrev pub invariant-loop-verb : goal.invariant-loop-verb
invariant-loop-verb l =
    l.permissions ≡ l.initial.permissions ++ flat_map (λ verb. listed_at (map pattern_of l.patterns) (line_of l.line) verb.now) (take l.verb-index l.line.verbs.now)
