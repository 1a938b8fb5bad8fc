-- A path is cut at its last `:`, if letters alone follow.
use Rattle.std.proofs.Common.{◌≡◌, ◌≢◌, ℕ, ◌<◌, ◌≤◌, ◌+◌, true, false, List, [], ◌∷◌, ◌++◌, length, get_or, take, drop, Option, Some, None, MatchOption, refl, sym, ap, ◌∙◌, subst, arith}
use Rattle.std.proofs.lemmas.Bool.{and_parts}
use Rattle.std.proofs.lemmas.List.{take-append-drop}
use Rattle.std.proofs.lemmas.Str.Pattern.{NoCharPasses-char, drop_at_char}
use Rattle.std.specs.Char.{is_ascii_alphabetic}
use Rattle.std.specs.List.{list_all}
use Rattle.std.specs.Str.{NoCharPasses}
use Rattle.std.specs.Str.Pattern.{RFindsChar}
use Rattle.std.specs.Borrow.{Bor}
use lib.Dec.{eqb}
use Rattle.iam_routes.specs.Routes.{colon, IsVerb, IsCut, Lacks}

-- ---- bytes that aren't in a text

there : (byte : ℕ) (front back : List ℕ) → length front < length (front ++ byte ∷ back)
there byte [] back = omega arith
there byte (b ∷ front) back = let more = there byte front back in omega arith

at : (byte : ℕ) (front back : List ℕ) → get_or (front ++ byte ∷ back) (length front) 0 ≡ byte
at byte [] back = refl
at byte (b ∷ front) back = at byte front back

pub lacks : (byte : ℕ) (text : List ℕ) → ((i : ℕ) → i < length text → get_or text i 0 ≢ byte) → Lacks byte text
lacks byte text none front back same =
    none (length front) (subst (λ t. length front < length t) (sym same) (there byte front back)) (ap (λ t. get_or t (length front) 0) same ∙ at byte front back)

-- letters alone have no other byte
letters_lack : (byte : ℕ) → is_ascii_alphabetic byte ≡ false → (text : List ℕ) → list_all is_ascii_alphabetic text ≡ true → Lacks byte text
letters_lack byte other [] all [] back same = cc
letters_lack byte other [] all (c ∷ front) back same = cc
letters_lack byte other (b ∷ text) all [] back same =
    let is : b ≡ byte = cc in
    let letter : is_ascii_alphabetic byte ≡ true = subst (λ x. is_ascii_alphabetic x ≡ true) is (and_parts (is_ascii_alphabetic b) (list_all is_ascii_alphabetic text) all).0 in
    let clash : true ≡ false = sym letter ∙ other in
    cc clash
letters_lack byte other (b ∷ text) all (c ∷ front) back same =
    let rest : text ≡ front ++ byte ∷ back = cc in letters_lack byte other text (and_parts (is_ascii_alphabetic b) (list_all is_ascii_alphabetic text) all).1 front back rest

pub verb_lacks : (verb : List ℕ) → IsVerb verb → Lacks colon verb
verb_lacks verb is = letters_lack colon refl verb is.1

-- ---- the last `:`

-- what `rsplit_once` says at `:`
pub rsplit_parts : (text : List ℕ) (r : Option (Bor (List ℕ) × Bor (List ℕ)))
    → MatchOption r (RFindsChar 58 text None) (λ x. (i : ℕ) × (j : ℕ) × RFindsChar 58 text (Some (i, j)) × (x.0.now ≡ take i text) × (x.1.now ≡ drop j text) × (i ≤ j) × (length x.0.now ≡ i) × (length x.1.now + j ≡ length text))
    → MatchOption r (Lacks 58 text) (λ x. (text ≡ x.0.now ++ (58 ∷ x.1.now)) × Lacks 58 x.1.now)
rsplit_parts text None h = lacks 58 text (λ i within. NoCharPasses-char 58 text i h (omega arith) within)
rsplit_parts text (Some x) h = (
  sym (take-append-drop h.0 text) ∙ (λ k. sym h.3 k ++ (drop_at_char 58 text h.0 h.1 h.2.1 (omega arith) ∙ ap (λ l. 58 ∷ l) (sym h.4)) k),
  lacks 58 x.1.now (λ i within. NoCharPasses-char 58 x.1.now i (subst (NoCharPasses (λ d. eqb d 58)) (sym h.4) h.2.0) (omega arith) within),
)

-- a text is parted at one last byte
one_last : (byte : ℕ) (place other verb word : List ℕ) → Lacks byte verb → Lacks byte word → place ++ byte ∷ verb ≡ other ++ byte ∷ word → (place ≡ other) × (verb ≡ word)
one_last byte [] [] verb word none nothing same = (refl, cc)
one_last byte [] (b ∷ other) verb word none nothing same = let is : verb ≡ other ++ byte ∷ word = cc in absurd (none other word is)
one_last byte (b ∷ place) [] verb word none nothing same = let is : word ≡ place ++ byte ∷ verb = cc in absurd (nothing place verb is)
one_last byte (b ∷ place) (c ∷ other) verb word none nothing same =
    let first : b ≡ c = cc in
    let rest : place ++ byte ∷ verb ≡ other ++ byte ∷ word = cc in
    let parts = one_last byte place other verb word none nothing rest in
    let more : place ≡ other = parts.0 in
    (cc, parts.1)

-- ---- the cut

pub uncut : (path : List ℕ) → Lacks colon path → IsCut path path None
uncut path none = (refl, λ front verb is. none front verb)

-- what follows the last `:` is no verb
pub uncut_at : (path place word : List ℕ) → path ≡ place ++ colon ∷ word → Lacks colon word → ¬ (IsVerb word) → IsCut path path None
uncut_at path place word is none other = (
  refl,
  λ front verb letters same.
      let parts = one_last colon place front word verb none (verb_lacks verb letters) (sym is ∙ same) in
      other (subst IsVerb (sym parts.1) letters),
)

pub one_cut : (path place other : List ℕ) (verb word : Option (List ℕ)) → IsCut path place verb → IsCut path other word → (place ≡ other) × (verb ≡ word)
one_cut path place other None None h g = (sym h.0 ∙ g.0, refl)
one_cut path place other None (Some word) h g = absurd (h.1 other word g.0 g.1)
one_cut path place other (Some verb) None h g = absurd (g.1 place verb h.0 h.1)
one_cut path place other (Some verb) (Some word) h g =
    let parts = one_last colon place other verb word (verb_lacks verb h.0) (verb_lacks word g.0) (sym h.1 ∙ g.1) in
    (parts.0, ap Some parts.1)
