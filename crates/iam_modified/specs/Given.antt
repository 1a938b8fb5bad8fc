-- What bindings give, with the texts by which it is compared.
use Rattle.std.specs.Prelude.{ℕ, Bool, true, false, ◌&&◌, List, [], ◌∷◌, ◌++◌, map, take, drop, if◌then◌else◌}
use Rattle.std.specs.declared.cmp.Ordering.{Ordering}
use Rattle.std.specs.List.{list_all, list_any, prefix_len}
use Rattle.std.specs.Ordering.{nat_cmp}
use Rattle.std.specs.Cmp.Lexicographic.{slice_cmp}
use Rattle.iam_names.specs.Member.{member_text}
use Rattle.iam_names.specs.Role.{role_text}
use Rattle.iam_names.specs.declared.role.RoleName.{RoleName}
use Rattle.iam_types.specs.declared.allow.Binding.{Binding}
use Rattle.iam_law.specs.Modified as spec
use Rattle.iam_modified.specs.declared.modified.Given.{Given}

abbrev pub given_of : Bool → Binding → Given
given_of is_old binding = record {
  text = role_text binding.role;
  role = binding.role;
  is_old = is_old;
  members = map (λ member. member_text member) binding.members;
  condition = binding.condition;
}

-- those of the old policy, and then those of the new one
abbrev pub all_given : List Binding → List Binding → List Given
all_given old new = map (given_of true) old ++ map (given_of false) new

abbrev pub text_order : Given → Given → Ordering
text_order a b = slice_cmp nat_cmp a.text b.text

-- what they give has this grant
abbrev pub is_granted : List Given → spec.Grant → Bool
is_granted all grant = list_any (λ (given : Given). list_any (λ (text : List ℕ). spec.same_grant (text, given.condition) grant) given.members) all

-- and all grants of others
abbrev pub are_granted : List Given → List Given → Bool
are_granted all others = list_all (λ (other : Given). list_all (λ (text : List ℕ). is_granted all (text, other.condition)) other.members) others

-- how many at the front are of the old policy
abbrev pub count_old : List Given → ℕ
count_old run = prefix_len (λ (given : Given). given.is_old) run

-- of the bindings of one role, the grants of the old ones are those of the new ones
abbrev pub same_in : List Given → Bool
same_in run =
    are_granted (take (count_old run) run) (drop (count_old run) run) && are_granted (drop (count_old run) run) (take (count_old run) run)

-- the role of the bindings of one role, where its grants differ
abbrev pub modified_in : Given → List Given → List RoleName
modified_in first run = if same_in run then [] else first.role ∷ []
