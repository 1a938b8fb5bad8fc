-- Names of roles.
use Rattle.std.specs.Prelude.{ℕ, List, ◌++◌, codes}
use Rattle.std.specs.Fmt.{decimal}
use Rattle.iam_names.specs.Bytes.{is_role_byte, IsWord}
use Rattle.iam_names.specs.declared.role.RoleName.{RoleName}
use Rattle.iam_names.specs.declared.role.RoleName.TheVariants.{Predefined, OfOrganization, OfProject}

abbrev pub role_text : RoleName → List ℕ
role_text (Predefined id) = codes "roles/" ++ id
role_text (OfOrganization number id) = codes "organizations/" ++ decimal number ++ codes "/roles/" ++ id
role_text (OfProject project id) = codes "projects/" ++ project ++ codes "/roles/" ++ id

-- what stands behind `roles/`: 1 to 128 letters, digits, `_` and `.`
abbrev pub IsPredefinedRole : List ℕ → Type 0
IsPredefinedRole id = IsWord 1 128 is_role_byte id

-- the names that are read: those of predefined roles
abbrev pub IsRoleName : RoleName → Type 0
IsRoleName (Predefined id) = IsPredefinedRole id
IsRoleName (OfOrganization number id) = ⊥
IsRoleName (OfProject project id) = ⊥
