use Rattle.std.proofs.Common.{◌∙◌}
use Rattle.iam_model.specs.Presets.{fits}
use Rattle.iam_catalogue.specs.Lines.{line_of, pattern_of}
use Rattle.iam_catalogue.proofs.Fitting.{list_any_mapped}
use Rattle.iam_catalogue.proofs.presets.fits_any.Goals as goal

pub returns : goal.returns
returns c = c.any_fits.ensures ∙ list_any_mapped (fits (line_of c.args.line.now) c.args.verb.now) pattern_of c.args.patterns.now
