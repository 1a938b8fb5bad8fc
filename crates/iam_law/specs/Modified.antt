-- The roles of which a change of a policy gives or takes grants.
use Rattle.std.specs.Prelude.{◌↔◌, ℕ, Bool, true, false, not, ◌&&◌, List, ◌++◌, map, filter, Some, None, Contains}
use Rattle.std.specs.declared.option.Option.{Option}
use Rattle.std.specs.declared.cmp.Ordering.{Ordering}
use Rattle.std.specs.Cmp.Lexicographic.{slice_cmp}
use Rattle.std.specs.List.{flat_map, list_any, list_all}
use Rattle.std.specs.Ordering.{nat_cmp}
use Rattle.std.specs.Str.{bytes_eq}
use Rattle.iam_text.specs.Put.{placed, IsInOrder}
use Rattle.iam_names.specs.Member.{member_text}
use Rattle.iam_names.specs.Role.{role_text}
use Rattle.iam_names.specs.declared.role.RoleName.{RoleName}
use Rattle.iam_types.specs.declared.allow.Binding.{Binding}
use Rattle.iam_types.specs.declared.allow.Condition.{Condition}

-- ---- in the words of the service

-- a member, by its text, and the condition under which it has a role
abbrev pub Grant : Type 0
Grant = List ℕ × Option Condition

abbrev pub grants_of : Binding → List Grant
grants_of binding = map (λ member. (member_text member, binding.condition)) binding.members

-- the grants of the role of this text in a policy
abbrev pub grants_in : List Binding → List ℕ → List Grant
grants_in bindings role = flat_map grants_of (filter (λ binding. bytes_eq (role_text binding.role) role) bindings)

-- the role has the same set of grants in both
abbrev pub SameGrants : List Binding → List Binding → List ℕ → Type 0
SameGrants old new role = (grant : Grant) → Contains (grants_in old role) grant ↔ Contains (grants_in new role) grant

abbrev pub role_order : RoleName → RoleName → Ordering
role_order a b = slice_cmp nat_cmp (role_text a) (role_text b)

-- in byte order, each once, exactly the roles whose sets of grants differ
pub record AreModified (old new : List Binding) (roles : List RoleName) : Type 0 where
  pub ordered : IsInOrder role_order roles
  pub exactly : (role : List ℕ) → Contains (map (λ name. role_text name) roles) role ↔ ¬ SameGrants old new role

-- ---- as a function

abbrev pub same_condition : Option Condition → Option Condition → Bool
same_condition None None = true
same_condition (Some a) (Some b) = bytes_eq a.expression b.expression && bytes_eq a.title b.title && bytes_eq a.description b.description
same_condition a b = false

abbrev pub same_grant : Grant → Grant → Bool
same_grant a b = bytes_eq a.0 b.0 && same_condition a.1 b.1

abbrev pub has_all : List Grant → List Grant → Bool
has_all grants others = list_all (λ other. list_any (λ grant. same_grant grant other) grants) others

abbrev pub same_grants : List Binding → List Binding → List ℕ → Bool
same_grants old new role = has_all (grants_in old role) (grants_in new role) && has_all (grants_in new role) (grants_in old role)

-- of the roles of both, in their order, those whose grants differ
abbrev pub modified_roles : List Binding → List Binding → List RoleName
modified_roles old new = filter (λ role. not (same_grants old new (role_text role))) (placed role_order (map (λ binding. binding.role) (old ++ new)))
