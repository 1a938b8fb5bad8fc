use Rattle.std.proofs.Common.{◌∙◌, arith}
use Rattle.iam_model.specs.Catalogue.{permits_of}
use Rattle.iam_catalogue.specs.Lines.{line_of, IsNamed}
use Rattle.iam_catalogue.proofs.Fitting.{All-mapped, flat_done}
use Rattle.iam_catalogue.proofs.permits.permits_in.Goals as goal

pub push_permits-requires : goal.push_permits-requires
push_permits-requires c = All-mapped IsNamed line_of c.args.lines.now c.requires c.loop-line.line-index _ (omega arith)

pub returns : goal.returns
returns c = c.loop-line.invariant ∙ flat_done permits_of line_of c.args.lines.now c.loop-line.line-index (omega arith)
