-- Escapes: what is read as one is one, and the other way round.
use Rattle.std.proofs.Common.{◌≡◌, ℕ, suc, ◌+◌, ◌<◌, ◌≤◌, Bool, true, false, cond, List, [], ◌∷◌, ◌++◌, length, length-take, take, Option, Some, None, refl, sym, ap, ◌∙◌, subst, arith, add-one}
use Rattle.std.specs.Prelude.{◌==◌, min}
use Rattle.std.specs.Char.{is_digit}
use Rattle.std.specs.List.{prefix_len}
use Rattle.std.specs.Str.{IsAscii}
use Rattle.std.proofs.lemmas.Bool.{and_parts, and_from, eqb-true, eq-eqb}
use Rattle.std.proofs.lemmas.Str.Ascii.{IsAscii-nil, IsAscii-cons}
use Rattle.std.proofs.Math.Seq.{take-append_seam}
use Rattle.cel_lexeme.specs.Lexeme.{Escape, number, escape_code, hexadecimal_len, all_digits}
use Rattle.cel_lexeme.specs.Lexeme as spec
use Rattle.cel_lexeme.specs.Front.{beyond, escape_digits, with_len, octal_at, hexadecimal_at, single_at, escape_at}
use Rattle.cel_lexeme.proofs.Tests.{some_is, IsFull, prefix_full, full_prefix, digit_ascii, code_byte, code_point, hexadecimal_mark, octal_mark}

-- behind a backslash there is an escape of so many bytes
pub record IsEscape (z : List ℕ) (t : ℕ × ℕ) : Type 0 where
  pub point : ℕ
  pub escape : Escape point (92 ∷ take t.1 z)
  pub code : t.0 ≡ min point beyond
  pub some : 0 < t.1
  pub within : t.1 ≤ length z

digits_found : (base count : ℕ) (z : List ℕ) (code : ℕ) → escape_digits base count z ≡ Some code
    → IsFull (λ b. is_digit b base) (take count z) count × (code ≡ min (number base (take count z)) beyond)
digits_found base count z code e = go (prefix_len (λ b. is_digit b base) (take count z) == count) refl e
  where
    go : (t : Bool) → (prefix_len (λ b. is_digit b base) (take count z) == count) ≡ t → cond t (Some (min (number base (take count z)) beyond)) None ≡ Some code
        → IsFull (λ b. is_digit b base) (take count z) count × (code ≡ min (number base (take count z)) beyond)
    go true h e = (prefix_full _ (take count z) count (eqb-true _ count h) (omega (arith, length-take count z)), sym (some_is e))
    go false h e = cc

by_octal : (b : ℕ) (z : List ℕ) (o : Option ℕ) (t : ℕ × ℕ) → is_digit b 4 ≡ true → escape_digits 8 3 (b ∷ z) ≡ o → with_len 3 o ≡ Some t → IsEscape (b ∷ z) t
by_octal b z None t d h e = cc
by_octal b z (Some code) t d h e = three z (digits_found 8 3 (b ∷ z) code h)
  where
    three : (z : List ℕ) → IsFull (λ b. is_digit b 8) (take 3 (b ∷ z)) 3 × (code ≡ min (number 8 (take 3 (b ∷ z))) beyond) → IsEscape (b ∷ z) t
    three [] f = absurd (omega (arith, f.0.len))
    three (c ∷ []) f = absurd (omega (arith, f.0.len))
    three (c ∷ f' ∷ z) f =
        subst (IsEscape (b ∷ c ∷ f' ∷ z)) (some_is e)
        (record { point = number 8 (b ∷ c ∷ f' ∷ []); escape = spec.octal d (and_parts (is_digit b 8) _ f.0.all).1; code = f.1; some = omega arith; within = omega arith })

by_digits : (b count : ℕ) (z : List ℕ) (o : Option ℕ) (t : ℕ × ℕ) → hexadecimal_len b ≡ Some count → escape_digits 16 count z ≡ o → with_len (count + 1) o ≡ Some t → IsEscape (b ∷ z) t
by_digits b count z None t d h e = cc
by_digits b count z (Some code) t d h e =
    let f = digits_found 16 count z code h in
    let l : count ≤ length z = omega (arith, f.0.len, length-take count z) in
    let shape : take (count + 1) (b ∷ z) ≡ b ∷ take count z = rw add-one refl in
    subst (IsEscape (b ∷ z)) (some_is e)
    (record { point = number 16 (take count z); escape = subst (λ (y : List ℕ). Escape (number 16 (take count z)) (92 ∷ y)) (sym shape) (spec.hexadecimal d f.0.len f.0.all); code = f.1; some = omega arith; within = omega arith })

by_four : (b : ℕ) (z : List ℕ) (four : Bool) (t : ℕ × ℕ) → is_digit b 4 ≡ four → octal_at (b ∷ z) four ≡ Some t → IsEscape (b ∷ z) t
by_four b z true t d e = by_octal b z (escape_digits 8 3 (b ∷ z)) t d refl e
by_four b z false t d e = cc

by_mark : (b : ℕ) (z : List ℕ) (o : Option ℕ) (t : ℕ × ℕ) → hexadecimal_len b ≡ o → hexadecimal_at b z o ≡ Some t → IsEscape (b ∷ z) t
by_mark b z (Some count) t h e = by_digits b count z (escape_digits 16 count z) t h refl e
by_mark b z None t h e = by_four b z (is_digit b 4) t refl e

by_single : (b : ℕ) (z : List ℕ) (o : Option ℕ) (t : ℕ × ℕ) → escape_code b ≡ o → single_at b z o ≡ Some t → IsEscape (b ∷ z) t
by_single b z (Some code) t h e =
    subst (IsEscape (b ∷ z)) (some_is e) (record { point = code; escape = spec.single h; code = code_point b code h; some = omega arith; within = omega arith })
by_single b z None t h e = by_mark b z (hexadecimal_len b) t refl e

pub found : (z : List ℕ) (t : ℕ × ℕ) → escape_at z ≡ Some t → IsEscape z t
found [] t e = cc
found (b ∷ z) t e = by_single b z (escape_code b) t refl e

-- the bytes of an escape
pub digits_ascii : (base : ℕ) (digits : List ℕ) → base ≤ 36 → all_digits base digits ≡ true → IsAscii digits
digits_ascii base [] l a = IsAscii-nil
digits_ascii base (d ∷ ds) l a =
    let h = and_parts (is_digit d base) (all_digits base ds) a in
    IsAscii-cons d ds (digit_ascii d base h.0 l) (digits_ascii base ds l h.1)

-- an escape is a backslash and ASCII bytes, and is found where it stands
pub record IsSeen (code : ℕ) (bytes : List ℕ) : Type 0 where
  pub rest : List ℕ
  pub shape : bytes ≡ 92 ∷ rest
  pub ascii : IsAscii bytes
  pub some : 0 < length rest
  pub found : (r : List ℕ) → escape_at (rest ++ r) ≡ Some (min code beyond, length rest)

single_seen : (b code : ℕ) → escape_code b ≡ Some code → IsSeen code (92 ∷ b ∷ [])
single_seen b code h = record {
  rest = b ∷ [];
  shape = refl;
  ascii = IsAscii-cons 92 (b ∷ []) (omega arith) (IsAscii-cons b [] (code_byte b code h) IsAscii-nil);
  some = omega arith;
  found = λ r. ap (single_at b r) h ∙ ap (λ n. Some (n, 1)) (code_point b code h);
}

digits_seen : (base count : ℕ) (digits r : List ℕ) → length digits ≡ count → all_digits base digits ≡ true → escape_digits base count (digits ++ r) ≡ Some (min (number base digits) beyond)
digits_seen base count digits r l a =
    let shape : take count (digits ++ r) ≡ digits = subst (λ n. take n (digits ++ r) ≡ digits) l (take-append_seam digits r) in
    let test : (prefix_len (λ b. is_digit b base) digits == count) ≡ true = eq-eqb _ count (full_prefix (λ b. is_digit b base) digits a ∙ l) in
    rw (shape, test) refl

hexadecimal_seen : (b count : ℕ) (digits : List ℕ) → hexadecimal_len b ≡ Some count → length digits ≡ count → all_digits 16 digits ≡ true → IsSeen (number 16 digits) (92 ∷ b ∷ digits)
hexadecimal_seen b count digits h l a =
    let m = hexadecimal_mark b count h in
    record {
      rest = b ∷ digits;
      shape = refl;
      ascii = IsAscii-cons 92 (b ∷ digits) (omega arith) (IsAscii-cons b digits m.byte (digits_ascii 16 digits (omega arith) a));
      some = omega arith;
      found = λ r. ap (single_at b (digits ++ r)) m.single ∙ ap (hexadecimal_at b (digits ++ r)) h ∙ ap (with_len (count + 1)) (digits_seen 16 count digits r l a)
          ∙ ap (λ n. Some (min (number 16 digits) beyond, n)) (let e : count + 1 ≡ suc (length digits) = omega arith in e);
    }

octal_seen : (a b c : ℕ) → is_digit a 4 ≡ true → all_digits 8 (b ∷ c ∷ []) ≡ true → IsSeen (number 8 (a ∷ b ∷ c ∷ [])) (92 ∷ a ∷ b ∷ c ∷ [])
octal_seen a b c d h =
    let m = octal_mark a d in
    let all : all_digits 8 (a ∷ b ∷ c ∷ []) ≡ true = and_from (is_digit a 8) _ m.digit h in
    record {
      rest = a ∷ b ∷ c ∷ [];
      shape = refl;
      ascii = IsAscii-cons 92 (a ∷ b ∷ c ∷ []) (omega arith) (digits_ascii 8 (a ∷ b ∷ c ∷ []) (omega arith) all);
      some = omega arith;
      found = λ r. ap (single_at a (b ∷ c ∷ r)) m.single ∙ ap (hexadecimal_at a (b ∷ c ∷ r)) m.hexadecimal ∙ ap (octal_at (a ∷ b ∷ c ∷ r)) d
          ∙ ap (with_len 3) (digits_seen 8 3 (a ∷ b ∷ c ∷ []) r refl all);
    }

pub seen : {code : ℕ} {bytes : List ℕ} → Escape code bytes → IsSeen code bytes
seen (spec.single {b = b} {code = code} h) = single_seen b code h
seen (spec.hexadecimal {b = b} {count = count} {digits = digits} h l a) = hexadecimal_seen b count digits h l a
seen (spec.octal {a = a} {b = b} {c = c} d h) = octal_seen a b c d h
