use Rattle.std.proofs.Common.{List, sym, subst, ap, ◌∙◌}
use Rattle.std.specs.List.{All, flat_map}
use Rattle.iam_model.specs.Catalogue.{Line, permits, permits_of}
use Rattle.iam_catalogue.specs.Lines.{IsNamed}
use Rattle.iam_catalogue.proofs.Named.{lines_are_named}
use Rattle.iam_catalogue.proofs.catalogue.all_permits.Goals as goal

pub permits_in-requires : goal.permits_in-requires
permits_in-requires c = subst (λ (ls : List Line). All IsNamed ls) (sym c.catalogue_lines.ensures) lines_are_named

pub returns : goal.returns
unfolding permits
returns c = c.in_ok-listed.ensures ∙ ap (λ (ls : List Line). flat_map permits_of ls) c.catalogue_lines.ensures
