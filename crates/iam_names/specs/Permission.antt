-- Permissions, and groups of them.
use Rattle.std.specs.Prelude.{◌≡◌, ℕ, List, ◌++◌, length, codes, Some, None}
use Rattle.std.specs.declared.option.Option.{Option}
use Rattle.std.specs.List.{All}
use Rattle.iam_names.specs.Bytes.{is_letter_or_digit, IsWord}
use Rattle.iam_names.specs.Domain.{parts_of}
use Rattle.iam_names.specs.declared.permission.PermissionGroup.{PermissionGroup}

-- 1 to 64 letters and digits
abbrev pub IsPermissionPart : List ℕ → Type 0
IsPermissionPart text = IsWord 1 64 is_letter_or_digit text

-- the service, the resource and the verb, joined by dots
abbrev pub IsPermission : List ℕ → Type 0
IsPermission text = (length (parts_of text) ≡ 3) × All IsPermissionPart (parts_of text)

abbrev pub permission_text : List ℕ → List ℕ
permission_text permission = permission

-- the one that is given, or `*`
abbrev pub given_or_any : Option (List ℕ) → List ℕ
given_or_any None = codes "*"
given_or_any (Some given) = given

abbrev pub permission_group_text : PermissionGroup → List ℕ
permission_group_text group = group.host ++ codes "/" ++ given_or_any group.resource ++ codes "." ++ given_or_any group.verb
