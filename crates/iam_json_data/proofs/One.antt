-- Each reader has one answer.
use Rattle.std.proofs.Common.{◌≡◌, ℕ, suc, List, [], ◌∷◌, Option, Some, None, Result, Ok, Err, inl, inr, sym, ap, ◌∙◌, subst, codes, unwrap_or}
use Rattle.std.specs.Prelude.{⊤}
use Rattle.serde_json.specs.Data.{Data, Items, no_items, item}
use Rattle.serde_json.specs.Find.{as_object, as_array}
use Rattle.iam_names.specs.Member.{IsMember, member_text}
use Rattle.iam_names.specs.Reading.{IsToldByText}
use Rattle.iam_names.specs.Role.{IsRoleName, role_text}
use Rattle.iam_names.specs.declared.member.Member.{Member}
use Rattle.iam_names.specs.declared.role.RoleName.{RoleName}
use Rattle.iam_names.proofs.Told.{member_told, role_told}
use Rattle.iam_types.specs.declared.allow.Binding.{Binding}
use Rattle.iam_json_data.specs.Path.{under, item_name}
use Rattle.iam_json_data.specs.Reading.{IsBadInside, Then, ReadsText, ReadsNumber, ReadsItems, ReadsSome, ReadsList, ReadsMember, ReadsRequired, present}
use Rattle.iam_json_data.specs.Readers.{ReadsObject, ReadsAbsent, ReadsBinding}

-- at most one answer
abbrev pub IsOne : {A : Type 0} → (Result A (List ℕ) → Type 0) → Type 0
IsOne {A} reads = (said other : Result A (List ℕ)) → reads said → reads other → said ≡ other

-- ---- steps of other readers

both_read : {A : Type 0} (reads : Result A (List ℕ) → Type 0) → IsOne reads → (a b : A) → reads (Ok a) → reads (Ok b) → a ≡ b
both_read reads one a b h g = let e = one (Ok a) (Ok b) h g in cc e

both_bad : {A : Type 0} (reads : Result A (List ℕ) → Type 0) → IsOne reads → (p q : List ℕ) → reads (Err p) → reads (Err q) → p ≡ q
both_bad reads one p q h g = let e = one (Err p) (Err q) h g in cc e

not_both : {A B : Type 0} (reads : Result A (List ℕ) → Type 0) → IsOne reads → (a : A) (p : List ℕ) → reads (Ok a) → reads (Err p) → B
not_both reads one a p h g = let e = one (Ok a) (Err p) h g in absurd (cc e)

bad_one : {A : Type 0} (reads : Result A (List ℕ) → Type 0) → IsOne reads → (name p q : List ℕ) → IsBadInside reads name p → IsBadInside reads name q → p ≡ q
bad_one reads one name p q h g = h.1 ∙ ap (under name) (both_bad reads one h.0 g.0 h.2 g.2) ∙ sym g.1

pub then_one : {A B : Type 0} (first : Result A (List ℕ) → Type 0) (next : A → Result B (List ℕ) → Type 0) → IsOne first → ((a : A) → IsOne (next a)) → IsOne (Then first next)
then_one {A} first next one more (Ok v) (Ok w) h g =
    more g.0 (Ok v) (Ok w) (subst (λ (x : A). next x (Ok v)) (both_read first one h.0 g.0 h.1 g.1) h.2) g.2
then_one first next one more (Ok v) (Err q) h (inl bad) = not_both first one h.0 q h.1 bad
then_one {A} first next one more (Ok v) (Err q) h (inr later) =
    more later.0 (Ok v) (Err q) (subst (λ (x : A). next x (Ok v)) (both_read first one h.0 later.0 h.1 later.1) h.2) later.2
then_one first next one more (Err p) (Ok w) (inl bad) g = not_both first one g.0 p g.1 bad
then_one {A} first next one more (Err p) (Ok w) (inr later) g =
    more g.0 (Err p) (Ok w) (subst (λ (x : A). next x (Err p)) (both_read first one later.0 g.0 later.1 g.1) later.2) g.2
then_one first next one more (Err p) (Err q) (inl bad) (inl worse) = ap Err (both_bad first one p q bad worse)
then_one first next one more (Err p) (Err q) (inl bad) (inr later) = not_both first one later.0 p later.1 bad
then_one first next one more (Err p) (Err q) (inr later) (inl bad) = not_both first one later.0 q later.1 bad
then_one {A} first next one more (Err p) (Err q) (inr later) (inr last) =
    more last.0 (Err p) (Err q) (subst (λ (x : A). next x (Err p)) (both_read first one later.0 last.0 later.1 last.1) later.2) last.2

-- ---- kinds of members

pub text_one : {A : Type 0} (F : A → Type 0) (w : A → List ℕ) → IsToldByText F w → (d : Data) → IsOne (ReadsText F w d)
text_one F w told d (Ok a) (Ok b) h g = let both = sym h.1 ∙ g.1 in let same : w a ≡ w b = cc both in ap Ok (told a b h.0 g.0 same)
text_one F w told d (Ok a) (Err q) h g = absurd (g.1 a h.0 h.1)
text_one F w told d (Err p) (Ok b) h g = absurd (h.1 b g.0 g.1)
text_one F w told d (Err p) (Err q) h g = ap Err (h.0 ∙ sym g.0)

pub number_one : (d : Data) → IsOne (ReadsNumber d)
number_one d (Ok a) (Ok b) h g = let both = sym h ∙ g in let same : a ≡ b = cc both in ap Ok same
number_one d (Ok a) (Err q) h g = let both = sym h ∙ g.1 in absurd (cc both)
number_one d (Err p) (Ok b) h g = let both = sym h.1 ∙ g in absurd (cc both)
number_one d (Err p) (Err q) h g = ap Err (h.0 ∙ sym g.0)

items_one : {A : Type 0} (reads : Data → Result A (List ℕ) → Type 0) → ((d : Data) → IsOne (reads d)) → (ds : Items) (place : ℕ) → IsOne (ReadsItems reads place ds)
items_one reads one no_items place (Ok v) (Ok w) h g = ap Ok (h ∙ sym g)
items_one reads one no_items place (Ok v) (Err q) h g = absurd g
items_one reads one no_items place (Err p) said h g = absurd h
items_one reads one (item d ds) place (Ok []) said h g = absurd h
items_one reads one (item d ds) place (Ok (v ∷ vs)) (Ok []) h g = absurd g
items_one reads one (item d ds) place (Ok (v ∷ vs)) (Ok (w ∷ ws)) h g =
    let first = both_read (reads d) (one d) v w h.0 g.0 in
    let more = both_read (ReadsItems reads (suc place) ds) (items_one reads one ds (suc place)) vs ws h.1 g.1 in
    cc (first, more)
items_one reads one (item d ds) place (Ok (v ∷ vs)) (Err q) h (inl bad) = not_both (reads d) (one d) v bad.0 h.0 bad.2
items_one reads one (item d ds) place (Ok (v ∷ vs)) (Err q) h (inr later) = not_both (ReadsItems reads (suc place) ds) (items_one reads one ds (suc place)) vs q h.1 later.2
items_one reads one (item d ds) place (Err p) (Ok []) h g = absurd g
items_one reads one (item d ds) place (Err p) (Ok (w ∷ ws)) (inl bad) g = not_both (reads d) (one d) w bad.0 g.0 bad.2
items_one reads one (item d ds) place (Err p) (Ok (w ∷ ws)) (inr later) g = not_both (ReadsItems reads (suc place) ds) (items_one reads one ds (suc place)) ws p g.1 later.2
items_one reads one (item d ds) place (Err p) (Err q) (inl bad) (inl worse) = ap Err (bad_one (reads d) (one d) (item_name place) p q bad worse)
items_one reads one (item d ds) place (Err p) (Err q) (inl bad) (inr later) = not_both (reads d) (one d) later.0 bad.0 later.1 bad.2
items_one reads one (item d ds) place (Err p) (Err q) (inr later) (inl bad) = not_both (reads d) (one d) later.0 bad.0 later.1 bad.2
items_one reads one (item d ds) place (Err p) (Err q) (inr later) (inr last) = ap Err (both_bad (ReadsItems reads (suc place) ds) (items_one reads one ds (suc place)) p q later.2 last.2)

some_one : {A B : Type 0} (reads : B → Result A (List ℕ) → Type 0) → ((b : B) → IsOne (reads b)) → (o : Option B) → IsOne (ReadsSome reads o)
some_one reads one None said other h g = h ∙ sym g
some_one reads one (Some there) said other h g = one there said other h g

pub list_one : {A : Type 0} (reads : Data → Result A (List ℕ) → Type 0) → ((d : Data) → IsOne (reads d)) → (d : Data) → IsOne (ReadsList reads d)
list_one reads one d = some_one (ReadsItems reads 0) (λ ds. items_one reads one ds 0) (as_array d)

-- ---- members of an object

pub member_one : {A : Type 0} (reads : Data → Result A (List ℕ) → Type 0) → ((d : Data) → IsOne (reads d)) → (name : List ℕ) (o : Option Data) → IsOne (ReadsMember reads name o)
member_one reads one name None said other h g = h ∙ sym g
member_one reads one name (Some d) (Ok None) said h g = absurd h
member_one reads one name (Some d) (Ok (Some v)) (Ok None) h g = absurd g
member_one reads one name (Some d) (Ok (Some v)) (Ok (Some w)) h g = let same = both_read (reads d) (one d) v w h g in cc same
member_one reads one name (Some d) (Ok (Some v)) (Err q) h g = not_both (reads d) (one d) v g.0 h g.2
member_one reads one name (Some d) (Err p) (Ok None) h g = absurd g
member_one reads one name (Some d) (Err p) (Ok (Some w)) h g = not_both (reads d) (one d) w h.0 g h.2
member_one reads one name (Some d) (Err p) (Err q) h g = ap Err (bad_one (reads d) (one d) name p q h g)

pub required_one : {A : Type 0} (reads : Data → Result A (List ℕ) → Type 0) → ((d : Data) → IsOne (reads d)) → (name : List ℕ) (o : Option Data) → IsOne (ReadsRequired reads name o)
required_one reads one name None said other h g = h ∙ sym g
required_one reads one name (Some d) (Ok v) (Ok w) h g = one d (Ok v) (Ok w) h g
required_one reads one name (Some d) (Ok v) (Err q) h g = not_both (reads d) (one d) v g.0 h g.2
required_one reads one name (Some d) (Err p) (Ok w) h g = not_both (reads d) (one d) w h.0 g h.2
required_one reads one name (Some d) (Err p) (Err q) h g = ap Err (bad_one (reads d) (one d) name p q h g)

pub object_one : {A : Type 0} (reads : Data → Result A (List ℕ) → Type 0) → ((d : Data) → IsOne (reads d)) → (d : Data) → IsOne (ReadsObject reads d)
object_one reads one d = some_one (λ _. reads d) (λ _. one d) (as_object d)

absent_one : (name : List ℕ) (o : Option Data) → IsOne (ReadsAbsent name o)
absent_one name None said other h g = h ∙ sym g
absent_one name (Some d) said other h g = h ∙ sym g

-- ---- bindings

abbrev whole_binding : RoleName → Option (List Member) → ⊤ → Result Binding (List ℕ) → Type 0
whole_binding role members _ said = said ≡ Ok (record { role = role; members = unwrap_or members []; condition = None })

abbrev after_members : Data → RoleName → Option (List Member) → Result Binding (List ℕ) → Type 0
after_members d role members =
    Then (ReadsAbsent (codes "condition") (present (codes "condition") d)) (whole_binding role members)

abbrev after_role : Data → RoleName → Result Binding (List ℕ) → Type 0
after_role d role = Then (ReadsMember (ReadsList (ReadsText IsMember member_text)) (codes "members") (present (codes "members") d)) (after_members d role)

abbrev binding_members : Data → Result Binding (List ℕ) → Type 0
binding_members d = Then (ReadsRequired (ReadsText IsRoleName role_text) (codes "role") (present (codes "role") d)) (after_role d)

binding_members_one : (d : Data) → IsOne (binding_members d)
binding_members_one d =
    then_one _ (after_role d) (required_one _ (text_one IsRoleName role_text role_told) (codes "role") (present (codes "role") d)) (λ role.
    then_one _ (after_members d role) (member_one _ (list_one _ (text_one IsMember member_text member_told)) (codes "members") (present (codes "members") d)) (λ members.
    then_one _ (whole_binding role members) (absent_one (codes "condition") (present (codes "condition") d)) (λ _ said other h g. h ∙ sym g)))

pub binding_one : (d : Data) → IsOne (ReadsBinding d)
binding_one d = object_one binding_members binding_members_one d
