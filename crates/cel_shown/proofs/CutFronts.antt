-- Fronts of lists, and tests on bytes.
use Rattle.std.proofs.Common.{◌≡◌, ℕ, ◌+◌, ◌<◌, ◌≤◌, ◌*◌, ◌/◌, ◌%◌, ◌^◌, Bool, true, false, List, [], ◌∷◌, ◌++◌, length, length-append, refl, ◌∙◌, arith}
use Rattle.std.specs.Prelude.{◌==◌, ◌||◌, not, slice_index}
use Rattle.std.specs.Char.{is_digit, digit_value, is_ascii_digit}
use Rattle.std.specs.List.{prefix_len, list_all}
use Rattle.std.specs.Fmt.{decimal}
use Rattle.std.proofs.lemmas.Bool.{and_parts, and_from}
use Rattle.std.proofs.lemmas.Bool.Decides.{nat_tests}
use Rattle.std.proofs.lemmas.List.Sums.{fold_push}
use Rattle.std.proofs.lemmas.Fmt.{decimal_by_steps}
use Rattle.cel_tree.specs.Spelling.{is_letter, is_word_byte}
use Rattle.cel_lexeme.specs.Lexeme.{is_quote, is_raw_mark, number, all_digits}
use Rattle.cel_lexer.specs.Cut.{is_blank}

pub prefix_is : (p : ℕ → Bool) (xs r : List ℕ) → list_all p xs ≡ true → p (slice_index r 0) ≡ false → prefix_len p (xs ++ r) ≡ length xs
prefix_is p [] [] a e = refl
prefix_is p [] (c ∷ r) a e = rw e refl
prefix_is p (b ∷ xs) r a e =
    let h = and_parts (p b) (list_all p xs) a in
    rw h.0 (omega (arith, prefix_is p xs r h.1 e))

all_push : (p : ℕ → Bool) (xs : List ℕ) (x : ℕ) → list_all p xs ≡ true → p x ≡ true → list_all p (xs ++ x ∷ []) ≡ true
all_push p [] x a e = and_from (p x) true e refl
all_push p (b ∷ xs) x a e = let h = and_parts (p b) (list_all p xs) a in and_from (p b) _ h.0 (all_push p xs x h.1 e)

-- decimal digits
pub record IsDecimal (n : ℕ) (digits : List ℕ) : Type 0 where
  pub all : all_digits 10 digits ≡ true
  pub some : 0 < length digits
  pub value : number 10 digits ≡ n

last_digit : (d : ℕ) → d < 10 → (is_digit (48 + d) 10 ≡ true) × (digit_value (48 + d) ≡ d)
last_digit d h = (grind (arith, nat_tests), grind (arith, nat_tests))

one_digit : (n : ℕ) → n < 10 → IsDecimal n ((48 + n) ∷ [])
one_digit n h =
    let d = last_digit n h in
    record { all = and_from (is_digit (48 + n) 10) true d.0 refl; some = omega arith; value = omega (arith, d.1) }

more_digits : (n : ℕ) (ds : List ℕ) → 10 ≤ n → IsDecimal (n / 10) ds → IsDecimal n (ds ++ ((48 + n % 10) ∷ []))
more_digits n ds l k =
    let d = last_digit (n % 10) (omega arith) in
    record {
      all = all_push (λ b. is_digit b 10) ds (48 + n % 10) k.all d.0;
      some = omega (arith, length-append ds ((48 + n % 10) ∷ []));
      value = fold_push (λ n digit. 10 * n + digit_value digit) 0 ds (48 + n % 10) ∙ omega (arith, k.value, d.1);
    }

pub decimal_is : (n : ℕ) → n < 2 ^ 64 → IsDecimal n (decimal n)
decimal_is n h = decimal_by_steps IsDecimal one_digit more_digits n h

-- classes of bytes
pub record IsDigit (b : ℕ) : Type 0 where
  pub mark : is_raw_mark b ≡ false
  pub letter : is_letter b ≡ false
  pub ascii : is_ascii_digit b ≡ true
  pub blank : is_blank b ≡ false
  pub slash : (b == 47) ≡ false
  pub x : (b == 120) ≡ false
  pub equal : not (b == 61) ≡ true

pub digit_is : (b : ℕ) → is_digit b 10 ≡ true → IsDigit b
digit_is b h = record {
  mark = grind (arith, nat_tests);
  letter = grind (arith, nat_tests);
  ascii = grind (arith, nat_tests);
  blank = grind (arith, nat_tests);
  slash = grind (arith, nat_tests);
  x = grind (arith, nat_tests);
  equal = grind (arith, nat_tests);
}

pub record IsLetter (b : ℕ) : Type 0 where
  pub word : is_word_byte b ≡ true
  pub blank : is_blank b ≡ false
  pub slash : (b == 47) ≡ false
  pub equal : not (b == 61) ≡ true

pub letter_is : (b : ℕ) → is_letter b ≡ true → IsLetter b
letter_is b h = record { word = grind (arith, nat_tests); blank = grind (arith, nat_tests); slash = grind (arith, nat_tests); equal = grind (arith, nat_tests) }

pub word_no_quote : (b : ℕ) → is_word_byte b ≡ true → is_quote b ≡ false
word_no_quote b h = grind (arith, nat_tests)

-- the bytes behind an operand: none, a blank, `.`, `(`, `)`, `]` and `,`
abbrev pub is_end : ℕ → Bool
is_end c = c == 0 || c == 32 || c == 46 || c == 40 || c == 41 || c == 93 || c == 44

pub record IsEnd (c : ℕ) : Type 0 where
  pub word : is_word_byte c ≡ false
  pub quote : is_quote c ≡ false
  pub second : (c == 34) ≡ false
  pub digit : is_digit c 10 ≡ false
  pub x : (c == 120) ≡ false

pub end_is : (c : ℕ) → is_end c ≡ true → IsEnd c
end_is c h = record {
  word = grind (arith, nat_tests);
  quote = grind (arith, nat_tests);
  second = grind (arith, nat_tests);
  digit = grind (arith, nat_tests);
  x = grind (arith, nat_tests);
}
