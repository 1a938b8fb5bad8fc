use Rattle.std.specs.Option.{option_map}
use Rattle.iam_routes.proofs.Lines.{IsOpenOn}
use Rattle.iam_routes.proofs.line.line_of.Given as goal

abbrev pub invariant-loop-line : goal.invariant-loop-line
invariant-loop-line l = IsOpenOn l.lines l.line-index l.method (option_map (λ text. text.now) l.verb) l.found
