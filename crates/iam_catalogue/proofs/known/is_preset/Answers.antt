use Rattle.std.proofs.Common.{List, ap, ◌∙◌}
use Rattle.std.specs.List.{list_any}
use Rattle.iam_types.specs.declared.catalogue.Preset.{Preset}
use Rattle.iam_model.specs.Same.{same_role}
use Rattle.iam_catalogue.proofs.Fitting.{preset_known}
use Rattle.iam_catalogue.proofs.known.is_preset.Goals as goal

pub returns : goal.returns
returns c =
    c.any_preset.ensures
    ∙ ap (λ (ps : List Preset). list_any (λ preset. same_role preset.role c.args.role.now) ps) c.roles.ensures
    ∙ preset_known c.args.role.now
