-- The groups that members name, counted.
use Rattle.std.proofs.Common.{◌≡◌, ℕ, List, [], refl}
use Rattle.iam_names.specs.declared.member.Member.{Member}
use Rattle.iam_names.specs.declared.member.Member.TheVariants.{Group}
use Rattle.iam_model.specs.Policies.{group_of}

-- a member that is no group names none
pub no_group : (member : Member) → ((email : List ℕ) → member ≡ Group email → ⊥) → group_of member ≡ []
no_group (Group email) other = absurd (other email refl)
no_group member other = refl
