use Rattle.std.proofs.Common.{◌≡◌, map, take}
use Rattle.iam_model.specs.Presets.{preset_at}
use Rattle.iam_catalogue.specs.Lines.{line_of, preset_line_of}
use Rattle.iam_catalogue.proofs.presets.presets_in.Given as goal

abbrev pub invariant-loop-role : goal.invariant-loop-role
invariant-loop-role l = l.presets ≡ map (λ role. preset_at (map line_of l.lines) (preset_line_of role)) (take l.role-index l.roles)
