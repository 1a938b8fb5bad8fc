-- Objects, and what is read of bindings.
use Rattle.std.specs.Prelude.{◌≡◌, ⊤, ℕ, List, [], Option, Some, None, unwrap_or, Result, Ok, Err, codes}
use Rattle.serde_json.specs.Data.{Data}
use Rattle.serde_json.specs.Find.{as_object}
use Rattle.iam_names.specs.Member.{IsMember, member_text}
use Rattle.iam_names.specs.Role.{IsRoleName, role_text}
use Rattle.iam_types.specs.declared.allow.Binding.{Binding}
use Rattle.iam_json_data.specs.Reading.{Then, ReadsText, ReadsSome, ReadsList, ReadsMember, ReadsRequired, present}

-- an object
abbrev pub ReadsObject : {A : Type 0} → (Data → Result A (List ℕ) → Type 0) → Data → Result A (List ℕ) → Type 0
ReadsObject reads d = ReadsSome (λ _. reads d) (as_object d)

-- nothing may stand there
abbrev pub ReadsAbsent : List ℕ → Option Data → Result ⊤ (List ℕ) → Type 0
ReadsAbsent name None said = said ≡ Ok tt
ReadsAbsent name (Some d) said = said ≡ Err name

-- the role, then the members, and no condition
abbrev pub ReadsBinding : Data → Result Binding (List ℕ) → Type 0
ReadsBinding = ReadsObject (λ d.
    Then (ReadsRequired (ReadsText IsRoleName role_text) (codes "role") (present (codes "role") d)) (λ role.
    Then (ReadsMember (ReadsList (ReadsText IsMember member_text)) (codes "members") (present (codes "members") d)) (λ members.
    Then (ReadsAbsent (codes "condition") (present (codes "condition") d)) (λ _ said.
    said ≡ Ok (record { role = role; members = unwrap_or members []; condition = None })))))
