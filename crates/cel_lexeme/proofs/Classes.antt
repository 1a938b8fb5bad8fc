-- The first bytes decide what is read.
use Rattle.std.proofs.Common.{◌≡◌, ℕ, Bool, true, false, List, Some, refl, sym, ap, ◌∙◌, arith}
use Rattle.std.specs.Prelude.{◌==◌, ◌&&◌, min, nat_le, ◌^◌, slice_index}
use Rattle.std.specs.Char.{is_digit, is_ascii_digit}
use Rattle.std.proofs.lemmas.Bool.Decides.{nat_tests}
use Rattle.cel_tree.specs.Spelling.{is_letter, is_word_byte}
use Rattle.cel_lexeme.specs.Lexeme.{is_quote, is_raw_mark, number_lexeme}
use Rattle.cel_lexeme.specs.Front.{beyond, lexeme_at, raw_at, word_at, number_at, string_at, sign_at}

pub record IsDigit (b : ℕ) : Type 0 where
  pub mark : is_raw_mark b ≡ false
  pub letter : is_letter b ≡ false
  pub ascii : is_ascii_digit b ≡ true
  pub quote : is_quote b ≡ false

pub digit_is : (b : ℕ) → is_digit b 10 ≡ true → IsDigit b
digit_is b h = record { mark = grind (arith, nat_tests); letter = grind (arith, nat_tests); ascii = grind (arith, nat_tests); quote = grind (arith, nat_tests) }

pub ascii_digit : (b : ℕ) → is_ascii_digit b ≡ true → is_digit b 10 ≡ true
ascii_digit b h = grind (arith, nat_tests)

pub record IsQuote (b : ℕ) : Type 0 where
  pub mark : is_raw_mark b ≡ false
  pub letter : is_letter b ≡ false
  pub digit : is_ascii_digit b ≡ false

pub quote_is : (b : ℕ) → is_quote b ≡ true → IsQuote b
quote_is b h = record { mark = grind (arith, nat_tests); letter = grind (arith, nat_tests); digit = grind (arith, nat_tests) }

pub letter_word : (b : ℕ) → is_letter b ≡ true → is_word_byte b ≡ true
letter_word b h = grind (arith, nat_tests)

pub word_no_quote : (b : ℕ) → is_word_byte b ≡ true → is_quote b ≡ false
word_no_quote b h = grind (arith, nat_tests)

pub mark_letter : (b : ℕ) → is_raw_mark b ≡ true → is_letter b ≡ true
mark_letter b h = grind (arith, nat_tests)

pub digit_no_x : (b : ℕ) → is_digit b 10 ≡ true → (b == 120) ≡ false
digit_no_x b h = grind (arith, nat_tests)

-- numbers that are too large are alike
pub number_bounded : (n : ℕ) → number_lexeme (min n beyond) ≡ number_lexeme n
number_bounded n = go (nat_le n (2 ^ 63)) refl
  where
    go : (t : Bool) → nat_le n (2 ^ 63) ≡ t → number_lexeme (min n beyond) ≡ number_lexeme n
    go true h = let e : min n beyond ≡ n = grind (arith, nat_tests) in ap number_lexeme e
    go false h = let e : min n beyond ≡ beyond = grind (arith, nat_tests) in ap number_lexeme e ∙ sym (rw h refl)

-- which of the readers takes the front
pub at_mark : (z : List ℕ) → is_raw_mark (slice_index z 0) ≡ true → is_quote (slice_index z 1) ≡ true → lexeme_at z ≡ raw_at z
unfolding lexeme_at
at_mark z m q = rw (m, q) refl

pub at_letter : (z : List ℕ) → (is_raw_mark (slice_index z 0) && is_quote (slice_index z 1)) ≡ false → is_letter (slice_index z 0) ≡ true → lexeme_at z ≡ Some (word_at z)
unfolding lexeme_at
at_letter z m l = rw (m, l) refl

pub at_digit : (z : List ℕ) → is_raw_mark (slice_index z 0) ≡ false → is_letter (slice_index z 0) ≡ false → is_ascii_digit (slice_index z 0) ≡ true → lexeme_at z ≡ Some (number_at z)
unfolding lexeme_at
at_digit z m l d = rw (m, l, d) refl

pub at_quote : (z : List ℕ) → is_quote (slice_index z 0) ≡ true → lexeme_at z ≡ string_at false z
unfolding lexeme_at
at_quote z q = let k = quote_is (slice_index z 0) q in rw (k.mark, k.letter, k.digit, q) refl

pub at_other : (z : List ℕ) → is_raw_mark (slice_index z 0) ≡ false → is_letter (slice_index z 0) ≡ false → is_ascii_digit (slice_index z 0) ≡ false → is_quote (slice_index z 0) ≡ false
    → lexeme_at z ≡ sign_at (slice_index z 0) (slice_index z 1)
unfolding lexeme_at
at_other z m l d q = rw (m, l, d, q) refl
