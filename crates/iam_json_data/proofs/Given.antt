-- What is read is well formed, from the items of lists to bindings.
use Rattle.std.proofs.Common.{◌≡◌, ℕ, suc, List, [], ◌∷◌, subst, sym, refl}
use Rattle.std.specs.Prelude.{All, Option, Some, None, unwrap_or, Result, Ok, codes}
use Rattle.std.proofs.lemmas.List.Elements.{All-cons, All-nil}
use Rattle.serde_json.specs.Data.{Data, Items, no_items, item}
use Rattle.serde_json.specs.Find.{as_object, as_array}
use Rattle.iam_names.specs.Member.{IsMember, member_text}
use Rattle.iam_names.specs.Role.{IsRoleName, role_text}
use Rattle.iam_types.specs.declared.allow.Binding.{Binding}
use Rattle.iam_json_data.specs.Reading.{ReadsText, ReadsItems, ReadsSome, ReadsList, ReadsMember, ReadsRequired, present}
use Rattle.iam_json_data.specs.Readers.{ReadsBinding}

-- of a list, each item
items_are : {A : Type 0} (reads : Data → Result A (List ℕ) → Type 0) (P : A → Type 0) → ((d : Data) (a : A) → reads d (Ok a) → P a) → (place : ℕ) (ds : Items) (values : List A) → ReadsItems reads place ds (Ok values) → All P values
items_are reads P each place no_items values is = subst (All P) (sym is) (All-nil P)
items_are reads P each place (item d ds) [] is = absurd is
items_are reads P each place (item d ds) (a ∷ values) is = All-cons P a values (each d a is.0) (items_are reads P each (suc place) ds values is.1)

pub list_is : {A : Type 0} (reads : Data → Result A (List ℕ) → Type 0) (P : A → Type 0) → ((d : Data) (a : A) → reads d (Ok a) → P a) → (there : Option Items) (values : List A) → ReadsSome (ReadsItems reads 0) there (Ok values) → All P values
list_is reads P each None values is = absurd (cc)
list_is reads P each (Some ds) values is = items_are reads P each 0 ds values is

-- of an object
pub object_is : {A B : Type 0} (reads : Result A (List ℕ) → Type 0) (there : Option B) (a : A) → ReadsSome (λ _. reads) there (Ok a) → reads (Ok a)
object_is reads None a is = absurd (cc)
object_is reads (Some b) a is = is

-- of a member that has to be there
pub required_is : {A : Type 0} (reads : Data → Result A (List ℕ) → Type 0) (name : List ℕ) (there : Option Data) (a : A) → ReadsRequired reads name there (Ok a) → (d : Data) × reads d (Ok a)
required_is reads name None a is = absurd (cc)
required_is reads name (Some d) a is = (d, is)

abbrev read_ok : {A : Type 0} → A → Result A (List ℕ)
read_ok a = Ok a

same_given : {A : Type 0} (a b : A) → read_ok a ≡ read_ok b → a ≡ b
same_given a b is = cc is

-- of a member that may be absent, either way
pub maybe_is : {A : Type 0} (reads : Data → Result A (List ℕ) → Type 0) (P : Option A → Type 0) → P None → ((d : Data) (a : A) → reads d (Ok a) → P (Some a)) → (name : List ℕ) (there : Option Data) (value : Option A) →
    ReadsMember reads name there (Ok value) → P value
maybe_is reads P absent each name None value is = subst P (sym (same_given value None is)) absent
maybe_is reads P absent each name (Some d) None is = absurd is
maybe_is reads P absent each name (Some d) (Some a) is = each d a is

-- of a list that may be absent
pub member_is : {A : Type 0} (reads : Data → Result A (List ℕ) → Type 0) (P : A → Type 0) → ((d : Data) (a : A) → reads d (Ok a) → P a) → (name : List ℕ) (there : Option Data) (values : Option (List A)) →
    ReadsMember (ReadsList reads) name there (Ok values) → All P (unwrap_or values [])
member_is {A} reads P each = maybe_is (ReadsList reads) (λ (given : Option (List A)). All P (unwrap_or given [])) (All-nil P) (λ d values is. list_is reads P each (as_array d) values is)

text_is : {A : Type 0} (P : A → Type 0) (text : A → List ℕ) (d : Data) (a : A) → ReadsText P text d (Ok a) → P a
text_is P text d a is = is.0

-- of a binding
abbrev pub IsFormed : Binding → Type 0
IsFormed binding = IsRoleName binding.role × All IsMember binding.members × (binding.condition ≡ None)

pub binding_is : (d : Data) (binding : Binding) → ReadsBinding d (Ok binding) → IsFormed binding
binding_is d binding is =
    let inside = object_is _ (as_object d) binding is in
    let role = required_is (ReadsText IsRoleName role_text) (codes "role") (present (codes "role") d) inside.0 inside.1 in
    let members = member_is (ReadsText IsMember member_text) IsMember (text_is IsMember member_text) (codes "members") (present (codes "members") d) inside.2.0 inside.2.1 in
    subst IsFormed (sym (same_given _ _ inside.2.2.2)) (role.1.0, members, refl)
