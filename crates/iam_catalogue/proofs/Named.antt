-- Each permission of the catalogue has the form of permissions.
use Rattle.std.proofs.Common.{◌≡◌, ℕ, Bool, true, false, ◌&&◌, ◌||◌, List, [], ◌∷◌, length, refl, subst}
use Rattle.std.specs.Bool.{◌==◌}
use Rattle.std.specs.Prelude.{nat_le, IsTrue}
use Rattle.std.specs.Str.{bytes_eq}
use Rattle.std.specs.List.{All, flat_map, list_all, list_any}
use Rattle.std.proofs.lemmas.Bool.{and_parts, leb-true, eqb-true}
use Rattle.std.proofs.lemmas.List.Elements.{All-append, All-cons, All-head, All-map, All-tail, All-nil}
use Rattle.std.proofs.lemmas.Slice.Eq.{bytes_eq-Decides}
use Rattle.iam_names.specs.Bytes.{is_letter_or_digit}
use Rattle.iam_names.specs.Domain.{parts_of}
use Rattle.iam_names.specs.Permission.{IsPermissionPart, IsPermission}
use Rattle.iam_types.specs.declared.catalogue.Permit.{Permit}
use Rattle.iam_model.specs.Catalogue.{Line, is_permission, lines, permission_of, permit_of, permits, permits_of}
use Rattle.iam_catalogue.specs.Lines.{IsNamed}

-- where each passes a test that shows a fact, the fact holds of each
All-tested : {X : Type 0} (P : X → Type 0) (test : X → Bool) → ((x : X) → test x ≡ true → P x) → (xs : List X) → list_all test xs ≡ true → All P xs
All-tested P test shows [] h = All-nil P
All-tested P test shows (x ∷ xs) h =
    let parts = and_parts (test x) (list_all test xs) h in
    All-cons P x xs (shows x parts.0) (All-tested P test shows xs parts.1)

abbrev pub is_part : List ℕ → Bool
is_part text = nat_le 1 (length text) && nat_le (length text) 64 && list_all is_letter_or_digit text

abbrev pub is_named : List ℕ → Bool
is_named text = (length (parts_of text) == 3) && list_all is_part (parts_of text)

abbrev line_is_named : Line → Bool
line_is_named line = list_all (λ verb. is_named (permission_of line verb)) line.verbs

part_shown : (text : List ℕ) → is_part text ≡ true → IsPermissionPart text
part_shown text h =
    let both = and_parts (nat_le 1 (length text) && nat_le (length text) 64) (list_all is_letter_or_digit text) h in
    let sizes = and_parts (nat_le 1 (length text)) (nat_le (length text) 64) both.0 in
    (leb-true 1 (length text) sizes.0, leb-true (length text) 64 sizes.1, both.1)

pub named_shown : (text : List ℕ) → is_named text ≡ true → IsPermission text
named_shown text h =
    let both = and_parts (length (parts_of text) == 3) (list_all is_part (parts_of text)) h in
    (eqb-true (length (parts_of text)) 3 both.0, All-tested IsPermissionPart is_part part_shown (parts_of text) both.1)

line_shown : (line : Line) → line_is_named line ≡ true → IsNamed line
line_shown line h =
    All-tested (λ (verb : List ℕ). IsPermission (permission_of line verb)) (λ (verb : List ℕ). is_named (permission_of line verb))
    (λ verb. named_shown (permission_of line verb)) line.verbs h

tested : list_all line_is_named lines ≡ true
unfolding lines
tested = refl

pub lines_are_named : All IsNamed lines
lines_are_named = All-tested IsNamed line_is_named line_shown lines tested

permits_formed : (more : List Line) → All IsNamed more → All (λ permit. IsPermission permit.name) (flat_map permits_of more)
permits_formed [] named = All-nil (λ (permit : Permit). IsPermission permit.name)
permits_formed (line ∷ more) named =
    All-append (λ (permit : Permit). IsPermission permit.name) (permits_of line) (flat_map permits_of more)
    (All-map (λ (permit : Permit). IsPermission permit.name) (permit_of line) line.verbs (All-head IsNamed line more named))
    (permits_formed more (All-tail IsNamed line more named))

found_formed : (more : List Permit) (text : List ℕ) → All (λ permit. IsPermission permit.name) more → list_any (λ permit. bytes_eq permit.name text) more ≡ true → IsPermission text
found_formed [] text formed found = absurd (cc)
found_formed (permit ∷ more) text formed found =
    elim (bytes_eq permit.name text) as (λ b. bytes_eq permit.name text ≡ b → (b || list_any (λ (p : Permit). bytes_eq p.name text) more) ≡ true → IsPermission text) [
      | true ↦ λ is _. subst IsPermission ((bytes_eq-Decides permit.name text).0 is) (All-head (λ (p : Permit). IsPermission p.name) permit more formed)
      | false ↦ λ _ later. found_formed more text (All-tail (λ (p : Permit). IsPermission p.name) permit more formed) later
    ] refl found

-- a permission of the catalogue has the form of permissions
pub known_is_formed : (text : List ℕ) → IsTrue (is_permission text) → IsPermission text
unfolding permits
known_is_formed text known = found_formed permits text (permits_formed lines lines_are_named) known
