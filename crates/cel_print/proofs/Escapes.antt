-- Escapes, character by character.
use Rattle.std.proofs.Common.{◌≡◌, ◌≢◌, ℕ, ◌+◌, ◌<◌, ◌≤◌, ◌/◌, ◌%◌, ◌==◌, Bool, true, false, cond, List, [], ◌∷◌, ◌++◌, length, refl, sym, ap, ◌∙◌, append_assoc, append-nil, arith, inl, inr}
use Rattle.std.proofs.lemmas.Bool.{ltb-true, cases_lt}
use Rattle.std.proofs.lemmas.Bool.Decides.{nat_tests}
use Rattle.std.proofs.lemmas.List.{nil_from_length}
use Rattle.std.proofs.lemmas.Str.{encode_ascii}
use Rattle.std.proofs.Math.Dec.{ltb}
use Rattle.std.specs.Char.{encode_utf8}
use Rattle.std.specs.List.{AllByRecursion}
use Rattle.cel_shown.specs.Spelled.{escaped_byte, escaped}

pub escaped-append : (xs ys : List ℕ) → escaped (xs ++ ys) ≡ escaped xs ++ escaped ys
escaped-append [] ys = refl
escaped-append (x ∷ xs) ys = ap (λ (z : List ℕ). escaped_byte x ++ z) (escaped-append xs ys) ∙ sym (append_assoc (escaped_byte x) (escaped xs) (escaped ys))

-- a byte with no escape
plain_byte : (c : ℕ) → c ≢ 34 → c ≢ 92 → c ≢ 10 → c ≢ 13 → c ≢ 9 → escaped_byte c ≡ c ∷ []
plain_byte c q b n r t =
    simp (is_not c 34 q, is_not c 92 b, is_not c 10 n, is_not c 13 r, is_not c 9 t)
  where
    is_not : (c d : ℕ) → c ≢ d → (c == d) ≡ false
    is_not c d n = grind (arith, nat_tests)

plain_bytes : (bs : List ℕ) → AllByRecursion (λ b. 128 ≤ b) bs → escaped bs ≡ bs
plain_bytes [] h = refl
plain_bytes (b ∷ bs) h =
    let e : escaped_byte b ≡ b ∷ [] = plain_byte b (omega (arith, h.0)) (omega (arith, h.0)) (omega (arith, h.0)) (omega (arith, h.0)) (omega (arith, h.0)) in
    ap (λ (z : List ℕ). z ++ escaped bs) e ∙ ap (λ (z : List ℕ). b ∷ z) (plain_bytes bs h.1)

-- the bytes of a character beyond ASCII
high_bytes : (c : ℕ) → 128 ≤ c → AllByRecursion (λ b. 128 ≤ b) (encode_utf8 c)
unfolding encode_utf8
high_bytes c h = go (ltb c 128) (ltb c 2048) (ltb c 65536) refl
  where
    go : (x y z : Bool) → ltb c 128 ≡ x
        → AllByRecursion (λ b. 128 ≤ b)
        (cond x (c ∷ []) (cond y ((192 + c / 64) ∷ (128 + c % 64) ∷ [])
        (cond z ((224 + c / 4096) ∷ (128 + c / 64 % 64) ∷ (128 + c % 64) ∷ []) ((240 + c / 262144) ∷ (128 + c / 4096 % 64) ∷ (128 + c / 64 % 64) ∷ (128 + c % 64) ∷ []))))
    go true y z e = let small : c < 128 = ltb-true c 128 e in absurd (omega arith)
    go false true z e = (omega arith, (omega arith, tt))
    go false false true e = (omega arith, (omega arith, (omega arith, tt)))
    go false false false e = (omega arith, (omega arith, (omega arith, (omega arith, tt))))

-- a character with no escape
pub plain_escape : (c : ℕ) → c ≢ 34 → c ≢ 92 → c ≢ 10 → c ≢ 13 → c ≢ 9 → escaped (encode_utf8 c) ≡ encode_utf8 c
plain_escape c q b n r t = elim (cases_lt c 128) [
  | inl small ↦ rw (encode_ascii c small) (ap (λ (z : List ℕ). z ++ []) (plain_byte c q b n r t))
  | inr high ↦ plain_bytes (encode_utf8 c) (high_bytes c high)
]

-- the text from here on
pub escaped_from : (before out out' text rest rest' : List ℕ) (c : ℕ) → out ++ escaped rest ≡ before ++ escaped text → rest ≡ encode_utf8 c ++ rest' → out' ≡ out ++ escaped (encode_utf8 c)
    → out' ++ escaped rest' ≡ before ++ escaped text
escaped_from before out out' text rest rest' c is split put =
    ap (λ (z : List ℕ). z ++ escaped rest') put ∙ append_assoc out (escaped (encode_utf8 c)) (escaped rest')
    ∙ ap (λ (z : List ℕ). out ++ z) (sym (ap escaped split ∙ escaped-append (encode_utf8 c) rest')) ∙ is

pub escaped_end : (before out text rest : List ℕ) → out ++ escaped rest ≡ before ++ escaped text → length rest ≡ 0 → out ≡ before ++ escaped text
escaped_end before out text rest is e =
    sym (append-nil out) ∙ ap (λ (z : List ℕ). out ++ escaped z) (sym (nil_from_length rest e)) ∙ is
