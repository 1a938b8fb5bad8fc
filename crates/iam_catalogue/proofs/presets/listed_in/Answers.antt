use Rattle.std.proofs.Common.{map, ◌∙◌, arith}
use Rattle.iam_model.specs.Presets.{listed_of}
use Rattle.iam_catalogue.specs.Lines.{line_of, pattern_of, IsNamed}
use Rattle.iam_catalogue.proofs.Fitting.{All-mapped, flat_done}
use Rattle.iam_catalogue.proofs.presets.listed_in.Goals as goal

pub push_listed-requires : goal.push_listed-requires
push_listed-requires c = All-mapped IsNamed line_of c.args.lines.now c.requires c.loop-line.line-index _ (omega arith)

pub returns : goal.returns
returns c = c.loop-line.invariant ∙ flat_done (listed_of (map pattern_of c.args.patterns.now)) line_of c.args.lines.now c.loop-line.line-index (omega arith)
