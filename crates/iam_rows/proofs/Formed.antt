-- Stored bindings, with their members from the front.
use Rattle.std.proofs.Common.{◌≡◌, true, List, None}
use Rattle.std.specs.Prelude.{All}
use Rattle.std.specs.List.{AllByRecursion as Each}
use Rattle.std.proofs.lemmas.List.Elements.{recursion_from_All, All-weaker}
use Rattle.iam_names.specs.Member.{IsMember}
use Rattle.iam_names.specs.Role.{IsRoleName}
use Rattle.iam_types.specs.declared.allow.Binding.{Binding}
use Rattle.iam_model.specs.Formed.{IsStored}
use Rattle.iam_model.specs.Policies.{has_members}

-- a stored binding
abbrev pub IsKept : Binding → Type 0
IsKept binding = IsRoleName binding.role × Each IsMember binding.members × (has_members binding ≡ true) × (binding.condition ≡ None)

kept : (binding : Binding) → IsStored binding → IsKept binding
kept binding stored = (stored.role, recursion_from_All IsMember binding.members stored.members, stored.some, stored.unconditional)

pub all_kept : (bindings : List Binding) → All IsStored bindings → Each IsKept bindings
all_kept bindings all = recursion_from_All IsKept bindings (All-weaker IsStored IsKept kept bindings all)
