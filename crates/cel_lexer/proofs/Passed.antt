-- Blanks and comments: what is passed over is what the rules say, and leaves a text.
use Rattle.std.proofs.Common.{◌≡◌, ℕ, suc, ◌+◌, ◌<◌, Bool, true, false, cond, List, [], ◌∷◌, ◌++◌, length, length-append, drop, get_or, refl, sym, ◌∙◌, subst, arith, append_assoc, add-one}
use Rattle.std.specs.Prelude.{◌==◌, ◌&&◌, not, slice_index}
use Rattle.std.specs.Str.{IsUtf8}
use Rattle.std.proofs.lemmas.Bool.{and_parts, eqb-true}
use Rattle.std.proofs.lemmas.Bool.Decides.{nat_tests}
use Rattle.std.proofs.lemmas.Str.{IsUtf8-nil, IsUtf8-drop, IsCharBoundary-before_ascii, IsCharBoundary-after_ascii}
use Rattle.std.proofs.Math.Seq.{drop-append_seam}
use Rattle.cel_lexer.specs.Cut.{Past, is_blank, is_line_end}
use Rattle.cel_lexer.specs.Cut as spec
use Rattle.cel_lexer.specs.Past.{past}

line_end_blank : (b : ℕ) → is_line_end b ≡ true → is_blank b ≡ true
line_end_blank b h = grind (arith, nat_tests)

blank_ascii : (b : ℕ) → is_blank b ≡ true → b < 128
blank_ascii b h = grind (arith, nat_tests)

slash_no_blank : is_blank 47 ≡ false
slash_no_blank = refl

-- what is passed over
pub past_is : (in_comment : Bool) (z : List ℕ) → Past in_comment z (past in_comment z)
past_is true [] = spec.end
past_is false [] = spec.end
past_is true (b ∷ z) = go (is_line_end b) refl (past_is true z) (past_is false z)
  where
    go : (t : Bool) → is_line_end b ≡ t → Past true z (past true z) → Past false z (past false z) → Past true (b ∷ z) (past (not t) z)
    go true h more p = spec.line_end h (spec.blank (line_end_blank b h) p)
    go false h more p = spec.in_comment h more
past_is false (b ∷ z) = go (is_blank b) (b == 47 && slice_index z 0 == 47) refl refl (past_is false z) (past_is true z)
  where
    comment : (z : List ℕ) → slice_index z 0 ≡ 47 → Past true z (past true z) → Past false (47 ∷ z) (past true z)
    comment [] e p = absurd (omega (arith, e))
    comment (c ∷ y) e p = subst (λ (d : ℕ). Past false (47 ∷ d ∷ y) (past true (c ∷ y))) (sym e) (subst (λ (d : ℕ). Past false (47 ∷ 47 ∷ y) (past true (d ∷ y))) (sym e) (spec.comment (second y (subst (λ (d : ℕ). Past true (d ∷ y) (past true (d ∷ y))) e p))))
      where
        second : (y : List ℕ) → Past true (47 ∷ y) (past true (47 ∷ y)) → Past true y (past true y)
        second y (spec.in_comment h p) = p
        second y (spec.line_end h p) = cc

    go : (t u : Bool) → is_blank b ≡ t → (b == 47 && slice_index z 0 == 47) ≡ u → Past false z (past false z) → Past true z (past true z)
        → Past false (b ∷ z) (cond t (past false z) (cond u (past true z) (b ∷ z)))
    go true u h k p q = spec.blank h p
    go false true h k p q =
        let e = and_parts (b == 47) _ k in
        subst (λ (c : ℕ). Past false (c ∷ z) (past true z)) (sym (eqb-true b 47 e.0)) (comment z (eqb-true _ 47 e.1) q)
    go false false h k p q = spec.byte h k

-- and the other way round
pub is_past : {in_comment : Bool} {z front : List ℕ} → Past in_comment z front → past in_comment z ≡ front
is_past (spec.end {in_comment = true}) = refl
is_past (spec.end {in_comment = false}) = refl
is_past (spec.blank {z = z} h p) = rw h (is_past p)
is_past (spec.comment p) = is_past p
is_past (spec.in_comment h p) = rw h (is_past p)
is_past (spec.line_end {b = b} {z = z} h p) = rw h (sym (rw (line_end_blank b h) refl) ∙ is_past p)
is_past (spec.byte {b = b} {z = z} h k) = rw (h, k) refl

-- where a text is cut
seam : (run z : List ℕ) (b : ℕ) → get_or (run ++ (b ∷ z)) (length run) 0 ≡ b
seam [] z b = refl
seam (a ∷ run) z b = seam run z b

drop_more : (run z : List ℕ) (b : ℕ) → drop (suc (length run)) (run ++ (b ∷ z)) ≡ z
drop_more [] z b = refl
drop_more (a ∷ run) z b = drop_more run z b

behind : (run z : List ℕ) (b : ℕ) → b < 128 → IsUtf8 (run ++ (b ∷ z)) → IsUtf8 z
behind run z b l u =
    let a : get_or (run ++ (b ∷ z)) (length run) 0 < 128 = rw (seam run z b) l in
    let inside : length run < length (run ++ (b ∷ z)) = omega (arith, length-append run (b ∷ z)) in
    subst IsUtf8 (rw add-one (drop_more run z b)) (IsUtf8-drop (run ++ (b ∷ z)) (length run + 1) u (IsCharBoundary-after_ascii (run ++ (b ∷ z)) (length run) u inside a))

from : (run z : List ℕ) (b : ℕ) → b < 128 → IsUtf8 (run ++ (b ∷ z)) → IsUtf8 (b ∷ z)
from run z b l u =
    let a : get_or (run ++ (b ∷ z)) (length run) 0 < 128 = rw (seam run z b) l in
    let inside : length run < length (run ++ (b ∷ z)) = omega (arith, length-append run (b ∷ z)) in
    subst IsUtf8 (drop-append_seam run (b ∷ z)) (IsUtf8-drop (run ++ (b ∷ z)) (length run) u (IsCharBoundary-before_ascii (run ++ (b ∷ z)) (length run) inside a))

-- a text, or the end of one, before which the bytes of a comment stand
abbrev TextAt : Bool → List ℕ → Type 0
TextAt false z = IsUtf8 z
TextAt true z = (run : List ℕ) × IsUtf8 (run ++ z)

pub past_utf8 : {in_comment : Bool} {z front : List ℕ} → Past in_comment z front → TextAt in_comment z → IsUtf8 front
past_utf8 spec.end u = IsUtf8-nil
past_utf8 (spec.blank {b = b} {z = z} h p) u = past_utf8 p (behind [] z b (blank_ascii b h) u)
past_utf8 (spec.comment {z = z} p) u = past_utf8 p (47 ∷ 47 ∷ [], u)
past_utf8 (spec.in_comment {b = b} {z = z} h p) (run, u) = past_utf8 p (run ++ b ∷ [], subst IsUtf8 (sym (append_assoc run (b ∷ []) z)) u)
past_utf8 (spec.line_end {b = b} {z = z} h p) (run, u) = past_utf8 p (from run z b (blank_ascii b (line_end_blank b h)) u)
past_utf8 (spec.byte h k) u = u
