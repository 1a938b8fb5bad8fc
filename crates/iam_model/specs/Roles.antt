-- What roles grant.
use Rattle.std.specs.Prelude.{ℕ, Bool, true, false, not, ◌&&◌, ◌||◌, List, is_none}
use Rattle.std.specs.List.{list_any}
use Rattle.std.specs.Str.{bytes_eq}
use Rattle.iam_names.specs.declared.role.RoleName.{RoleName}
use Rattle.iam_types.specs.declared.catalogue.Preset.{Preset}
use Rattle.iam_types.specs.declared.role.Stage.{Stage}
use Rattle.iam_types.specs.declared.role.Stage.TheVariants.{Disabled}
use Rattle.iam_types.specs.declared.role.Role.{Role}
use Rattle.iam_types.specs.declared.tables.Tables.{Tables}
use Rattle.iam_model.specs.Presets.{presets}
use Rattle.iam_model.specs.Same.{same_role}

abbrev pub lists : List (List ℕ) → List ℕ → Bool
lists permissions permission = list_any (λ listed. bytes_eq listed permission) permissions

abbrev pub is_disabled : Stage → Bool
is_disabled Disabled = true
is_disabled stage = false

-- a predefined role of this name lists the permission
abbrev pub preset_grants : List Preset → RoleName → List ℕ → Bool
preset_grants presets role permission = list_any (λ preset. same_role preset.role role && lists preset.permissions permission) presets

-- a custom role of this name lists the permission, isn't disabled and isn't deleted
abbrev pub custom_grants : List Role → RoleName → List ℕ → Bool
custom_grants roles role permission =
    list_any (λ custom. same_role custom.name role && not (is_disabled custom.stage) && is_none custom.deleted && lists custom.permissions permission) roles

abbrev pub grants : Tables → RoleName → List ℕ → Bool
grants tables role permission = preset_grants presets role permission || custom_grants tables.roles role permission
