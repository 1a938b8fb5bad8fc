use Rattle.std.proofs.Common.{map, ◌∙◌, arith}
use Rattle.iam_model.specs.Presets.{preset_at}
use Rattle.iam_catalogue.specs.Lines.{line_of, preset_line_of}
use Rattle.iam_catalogue.proofs.Fitting.{map_done}
use Rattle.iam_catalogue.proofs.presets.presets_in.Goals as goal

pub returns : goal.returns
returns c = c.loop-role.invariant ∙ map_done (preset_at (map line_of c.args.lines.now)) preset_line_of c.args.roles.now c.loop-role.role-index (omega arith)
