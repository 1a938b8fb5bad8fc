-- Tests on bytes and on fronts of lists.
use Rattle.std.proofs.Common.{◌≡◌, ℕ, zero, suc, ◌+◌, ◌<◌, ◌≤◌, Bool, true, false, cond, ◌⊎◌, inl, inr, List, [], ◌∷◌, ◌++◌, length, drop, take, Option, Some, None, refl, sym, ap, ◌∙◌, subst, arith}
use Rattle.std.specs.Prelude.{◌==◌, ◌||◌, min}
use Rattle.std.specs.Char.{is_digit}
use Rattle.std.specs.List.{prefix_len, list_all}
use lib.Utf8.{scalar}
use Rattle.std.proofs.lemmas.Bool.{and_parts, and_from, eqb-true}
use Rattle.std.proofs.lemmas.Bool.Decides.{nat_tests}
use Rattle.cel_tree.specs.Spelling.{is_word_byte}
use Rattle.cel_lexeme.specs.Lexeme.{is_quote, is_raw_mark, escape_code, hexadecimal_len, utf8}
use Rattle.cel_lexeme.specs.Front.{beyond}

pub some_is : {A : Type 0} {x y : A} → Some x ≡ Some y → x ≡ y
some_is e = cc

-- a chain of tests for single bytes gives what each test gives
pub chain : {A : Type 0} (P : ℕ → A → Type 0) (b m : ℕ) (y x : A) (rest : Option A) → P m y → (rest ≡ Some x → P b x) → cond (b == m) (Some y) rest ≡ Some x → P b x
chain {A} P b m y x rest p q e = go (b == m) refl e
  where
    go : (t : Bool) → (b == m) ≡ t → cond t (Some y) rest ≡ Some x → P b x
    go true h e = subst (λ c. P c x) (sym (eqb-true b m h)) (subst (P m) (some_is e) p)
    go false h e = q e

-- fronts of lists
pub prefix_all : (p : ℕ → Bool) (bs r : List ℕ) → list_all p bs ≡ true → length bs ≤ prefix_len p (bs ++ r)
prefix_all p [] r a = omega arith
prefix_all p (b ∷ bs) r a =
    let h = and_parts (p b) (list_all p bs) a in
    rw h.0 (omega (arith, prefix_all p bs r h.1))

take_step : (p : ℕ → Bool) (b : ℕ) (z : List ℕ) (t : Bool) → p b ≡ t → list_all p (take (prefix_len p z) z) ≡ true → list_all p (take (cond t (1 + prefix_len p z) 0) (b ∷ z)) ≡ true
take_step p b z true h a = let e : 1 + prefix_len p z ≡ suc (prefix_len p z) = omega arith in rw e (and_from (p b) _ h a)
take_step p b z false h a = refl

pub prefix_take : (p : ℕ → Bool) (z : List ℕ) → list_all p (take (prefix_len p z) z) ≡ true
prefix_take p [] = refl
prefix_take p (b ∷ z) = take_step p b z (p b) refl (prefix_take p z)

pub record IsFull (p : ℕ → Bool) (bs : List ℕ) (n : ℕ) : Type 0 where
  pub all : list_all p bs ≡ true
  pub len : length bs ≡ n

full_step : (p : ℕ → Bool) (b : ℕ) (bs : List ℕ) (n : ℕ) (t : Bool) → p b ≡ t → cond t (1 + prefix_len p bs) 0 ≡ suc n → (prefix_len p bs ≡ n → IsFull p bs n) → IsFull p (b ∷ bs) (suc n)
full_step p b bs n true h e go =
    let f = go (omega (arith, e)) in
    record { all = and_from (p b) _ h f.all; len = ap suc f.len }
full_step p b bs n false h e go = absurd (omega (arith, e))

pub prefix_full : (p : ℕ → Bool) (bs : List ℕ) (n : ℕ) → prefix_len p bs ≡ n → length bs ≤ n → IsFull p bs n
prefix_full p [] n e l = record { all = refl; len = e }
prefix_full p (b ∷ bs) zero e l = absurd (omega (arith, l))
prefix_full p (b ∷ bs) (suc n) e l = full_step p b bs n (p b) refl e (λ f. prefix_full p bs n f (omega (arith, l)))

pub full_prefix : (p : ℕ → Bool) (bs : List ℕ) → list_all p bs ≡ true → prefix_len p bs ≡ length bs
full_prefix p [] a = refl
full_prefix p (b ∷ bs) a = let h = and_parts (p b) (list_all p bs) a in rw h.0 (omega (arith, full_prefix p bs h.1))

take_none : (n : ℕ) → take {A = ℕ} n [] ≡ []
take_none zero = refl
take_none (suc n) = refl

pub take_sum : (m n : ℕ) (z : List ℕ) → take (m + n) z ≡ take m z ++ take n (drop m z)
take_sum zero n z = let e : 0 + n ≡ n = omega arith in rw e refl
take_sum (suc m) n [] = let e : suc m + n ≡ suc (m + n) = omega arith in rw e (sym (take_none n))
take_sum (suc m) n (b ∷ z) = let e : suc m + n ≡ suc (m + n) = omega arith in rw e (ap (λ y. b ∷ y) (take_sum m n z))

-- bytes
pub digit_ascii : (b base : ℕ) → is_digit b base ≡ true → base ≤ 36 → b < 128
digit_ascii b base d l = grind (arith, nat_tests)

pub word_ascii : (b : ℕ) → is_word_byte b ≡ true → b < 128
word_ascii b h = grind (arith, nat_tests)

pub quote_ascii : (b : ℕ) → is_quote b ≡ true → b < 128
quote_ascii b h = grind (arith, nat_tests)

pub quote_some : (b : ℕ) → is_quote b ≡ true → 0 < b
quote_some b h = grind (arith, nat_tests)

pub quote_no_backslash : (b : ℕ) → is_quote b ≡ true → (92 == b) ≡ false
quote_no_backslash b h = grind (arith, nat_tests)

pub mark_ascii : (b : ℕ) → is_raw_mark b ≡ true → b < 128
mark_ascii b h = grind (arith, nat_tests)

record IsSmall (b code : ℕ) : Type 0 where
  byte : b < 128
  point : code < 128

small : (b code : ℕ) → b < 128 → code < 128 → IsSmall b code
small b code h k = record { byte = h; point = k }

code_small : (b code : ℕ) → escape_code b ≡ Some code → IsSmall b code
code_small b code e =
    let p = λ (n m : ℕ). small n m in
    chain IsSmall b 97 7 code _ (p 97 7 (omega arith) (omega arith)) (λ e. chain IsSmall b 98 8 code _ (p 98 8 (omega arith) (omega arith)) (λ e. chain IsSmall b 102 12 code _ (p 102 12 (omega arith) (omega arith)) (λ e. chain IsSmall b 110 10 code _ (p 110 10 (omega arith) (omega arith)) (λ e. chain IsSmall b 114 13 code _ (p 114 13 (omega arith) (omega arith)) (λ e. chain IsSmall b 116 9 code _ (p 116 9 (omega arith) (omega arith)) (λ e. chain IsSmall b 118 11 code _ (p 118 11 (omega arith) (omega arith)) (λ e. last b code e) e) e) e) e) e) e) e
  where
    itself : (b code : ℕ) → (b ≡ 92) ⊎ ((b ≡ 63) ⊎ ((b ≡ 34) ⊎ ((b ≡ 39) ⊎ (b ≡ 96)))) → b ≡ code → IsSmall b code
    itself b code h e = small b code (grind arith) (grind arith)

    last : (b code : ℕ) → cond (b == 92 || b == 63 || b == 34 || b == 39 || b == 96) (Some b) None ≡ Some code → IsSmall b code
    last b code e = small b code (grind (arith, nat_tests)) (grind (arith, nat_tests))

pub code_byte : (b code : ℕ) → escape_code b ≡ Some code → b < 128
code_byte b code e = (code_small b code e).byte

pub code_point : (b code : ℕ) → escape_code b ≡ Some code → code ≡ min code beyond
code_point b code e = omega (arith, (code_small b code e).point)

pub record IsMark (b : ℕ) : Type 0 where
  pub byte : b < 128
  pub single : escape_code b ≡ None

mark : (b : ℕ) → b < 128 → escape_code b ≡ None → IsMark b
mark b h e = record { byte = h; single = e }

pub hexadecimal_mark : (b count : ℕ) → hexadecimal_len b ≡ Some count → IsMark b
hexadecimal_mark b count e = last b count e
  where
    of : (b : ℕ) → (b ≡ 120) ⊎ ((b ≡ 88) ⊎ ((b ≡ 117) ⊎ (b ≡ 85))) → IsMark b
    of b (inl e) = subst IsMark (sym e) (mark 120 (omega arith) refl)
    of b (inr (inl e)) = subst IsMark (sym e) (mark 88 (omega arith) refl)
    of b (inr (inr (inl e))) = subst IsMark (sym e) (mark 117 (omega arith) refl)
    of b (inr (inr (inr e))) = subst IsMark (sym e) (mark 85 (omega arith) refl)

    last : (b count : ℕ) → hexadecimal_len b ≡ Some count → IsMark b
    last b count e = of b (grind (arith, nat_tests))

pub record IsOctal (b : ℕ) : Type 0 where
  pub byte : b < 128
  pub digit : is_digit b 8 ≡ true
  pub single : escape_code b ≡ None
  pub hexadecimal : hexadecimal_len b ≡ None

octal : (b : ℕ) → b < 128 → is_digit b 8 ≡ true → escape_code b ≡ None → hexadecimal_len b ≡ None → IsOctal b
octal b h d e f = record { byte = h; digit = d; single = e; hexadecimal = f }

pub octal_mark : (b : ℕ) → is_digit b 4 ≡ true → IsOctal b
octal_mark b d = of b (grind (arith, nat_tests))
  where
    of : (b : ℕ) → (b ≡ 48) ⊎ ((b ≡ 49) ⊎ ((b ≡ 50) ⊎ (b ≡ 51))) → IsOctal b
    of b (inl e) = subst IsOctal (sym e) (octal 48 (omega arith) refl refl refl)
    of b (inr (inl e)) = subst IsOctal (sym e) (octal 49 (omega arith) refl refl refl)
    of b (inr (inr (inl e))) = subst IsOctal (sym e) (octal 50 (omega arith) refl refl refl)
    of b (inr (inr (inr e))) = subst IsOctal (sym e) (octal 51 (omega arith) refl refl refl)

-- a bound beyond each code point changes none
pub record IsBounded (n : ℕ) : Type 0 where
  pub scalar : scalar (min n beyond) ≡ scalar n
  pub utf8 : utf8 (min n beyond) ≡ utf8 n

pub bounded : (n : ℕ) → IsBounded n
bounded n = go (cases n)
  where
    cases : (n : ℕ) → (min n beyond ≡ n) ⊎ ((min n beyond ≡ beyond) × (beyond ≤ n))
    cases n = grind arith

    none : (n : ℕ) → beyond ≤ n → scalar n ≡ false
    none n l = grind (arith, nat_tests)

    go : (min n beyond ≡ n) ⊎ ((min n beyond ≡ beyond) × (beyond ≤ n)) → IsBounded n
    go (inl e) = record { scalar = ap scalar e; utf8 = ap utf8 e }
    go (inr h) = let k = none n h.1 in record { scalar = ap scalar h.0 ∙ sym k; utf8 = ap utf8 h.0 ∙ sym (rw k refl) }
