use Rattle.std.proofs.Common.{List, sym, subst, refl}
use Rattle.std.specs.List.{All}
use Rattle.iam_model.specs.Catalogue.{Line}
use Rattle.iam_model.specs.Presets.{presets}
use Rattle.iam_catalogue.specs.Lines.{IsNamed}
use Rattle.iam_catalogue.proofs.Named.{lines_are_named}
use Rattle.iam_catalogue.proofs.catalogue.all_presets.Goals as goal

pub presets_in-requires : goal.presets_in-requires
presets_in-requires c = subst (λ (ls : List Line). All IsNamed ls) (sym c.catalogue_lines.ensures) lines_are_named

pub returns : goal.returns
unfolding presets
returns c = rw (c.in_ok-listed.ensures, c.catalogue_lines.ensures, c.role_lines.ensures) refl
