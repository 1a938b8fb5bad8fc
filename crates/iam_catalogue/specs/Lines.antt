-- The code's tables, as the definitions have them.
use Rattle.std.specs.Prelude.{ℕ, cond, List, [], ◌∷◌, map}
use Rattle.std.specs.List.{All, list_any}
use Rattle.std.specs.Option.{option_map}
use Rattle.iam_names.specs.Permission.{IsPermission}
use Rattle.iam_model.specs.Catalogue.{Line, permission_of}
use Rattle.iam_model.specs.Presets.{Pattern, PresetLine, fits}
use Rattle.iam_catalogue.specs.declared.lines.CatalogueLine.{CatalogueLine}
use Rattle.iam_catalogue.specs.declared.preset_lines.PermitPattern.{PermitPattern}
use Rattle.iam_catalogue.specs.declared.preset_lines.RoleLine.{RoleLine}

abbrev pub line_of : CatalogueLine → Line
line_of line = record {
  service = line.service.now;
  host = line.host.now;
  resource = line.resource.now;
  verbs = map (λ verb. verb.now) line.verbs.now;
  level = line.level;
  deniable = line.deniable;
  least = line.least;
}

abbrev pub pattern_of : PermitPattern → Pattern
pattern_of pattern = record {
  service = option_map (λ text. text.now) pattern.service;
  resource = option_map (λ text. text.now) pattern.resource;
  verbs = map (λ verb. verb.now) pattern.verbs.now;
  level = pattern.level;
}

abbrev pub preset_line_of : RoleLine → PresetLine
preset_line_of line = record { id = line.id.now; patterns = map pattern_of line.patterns.now }

-- each permission of the line has the form of permissions
abbrev pub IsNamed : Line → Type 0
IsNamed line = All (λ verb. IsPermission (permission_of line verb)) line.verbs

-- the permission of a verb, where some pattern fits it
abbrev pub listed_at : List Pattern → Line → List ℕ → List (List ℕ)
listed_at patterns line verb = cond (list_any (fits line verb) patterns) (permission_of line verb ∷ []) []
