-- What is read at the front is a lexeme.
use Rattle.std.proofs.Common.{◌≡◌, ℕ, suc, ◌+◌, ◌<◌, ◌≤◌, Bool, true, false, cond, List, [], ◌∷◌, ◌++◌, length, length-drop, drop, take, Option, Some, None, refl, sym, ap, ◌∙◌, subst, arith, add-one}
use Rattle.std.specs.Prelude.{◌==◌, ◌&&◌, slice_index}
use Rattle.std.specs.Char.{is_digit, is_ascii_digit}
use Rattle.std.specs.List.{prefix_len}
use Rattle.std.proofs.lemmas.Bool.{and_parts, and_from, eqb-true, eq-eqb, false≢true}
use Rattle.std.proofs.lemmas.List.Sums.{prefix_len-le-length}
use Rattle.cel_tree.specs.declared.token.Sign.{Sign}
use Rattle.cel_tree.specs.declared.token.TokenKind.TheVariants as kind
use Rattle.cel_tree.specs.Spelling.{is_letter, is_word_byte}
use Rattle.cel_lexeme.specs.declared.lexeme.Lexeme.{Lexeme}
use Rattle.cel_lexeme.specs.declared.lexeme.Lexeme.TheVariants.{Token}
use Rattle.cel_lexeme.specs.declared.strings.StringForm.{StringForm}
use Rattle.cel_lexeme.specs.declared.strings.Body as row
use Rattle.cel_lexeme.specs.Lexeme.{Spells, Body, is_quote, is_raw_mark, quotes, closes, number, number_lexeme, all_digits, word_lexeme, string_lexeme}
use Rattle.cel_lexeme.specs.Lexeme as spec
use Rattle.cel_lexeme.specs.Front.{lexeme_at, raw_at, one_more, or_else, word_at, number_at, digits_at, is_hexadecimal, string_at, form_at, string_of, body_at, sign_at, sign_one, sign_two, signed}
use Rattle.cel_lexeme.proofs.Tests.{some_is, prefix_take, take_sum}
use Rattle.cel_lexeme.proofs.Quoted.{IsClosed, closed, body_is}
use Rattle.cel_lexeme.proofs.Classes.{ascii_digit, letter_word, mark_letter, number_bounded}
use Rattle.cel_lexeme.proofs.Signs.{one_is, two_is}

pub record IsAt (z : List ℕ) (t : Lexeme × ℕ) : Type 0 where
  pub within : t.1 ≤ length z
  pub some : 0 < t.1
  pub spelled : Spells t.0 (take t.1 z)

first_in : (p : ℕ → Bool) (b : ℕ) (y : List ℕ) → p b ≡ true → take (prefix_len p (b ∷ y)) (b ∷ y) ≡ b ∷ take (prefix_len p y) y
first_in p b y h = let e : 1 + prefix_len p y ≡ suc (prefix_len p y) = omega arith in rw (h, e) refl

first_len : (p : ℕ → Bool) (b : ℕ) (y : List ℕ) → p b ≡ true → 0 < prefix_len p (b ∷ y)
first_len p b y h = rw h (omega arith)

-- words
pub word_is : (z : List ℕ) → is_letter (slice_index z 0) ≡ true → IsAt z (word_at z)
unfolding word_at
word_is [] l = absurd (false≢true l)
word_is (b ∷ y) l =
    let w = letter_word b l in
    let e = first_in is_word_byte b y w in
    record {
      within = prefix_len-le-length is_word_byte (b ∷ y);
      some = first_len is_word_byte b y w;
      spelled = subst (λ (x : List ℕ). Spells (word_lexeme x) x) (sym e) (spec.word (and_from (is_letter b) _ l (prefix_take is_word_byte y)));
    }

-- numbers
decimal_is : (b : ℕ) (y : List ℕ) → is_digit b 10 ≡ true → IsAt (b ∷ y) (digits_at 10 0 (b ∷ y))
decimal_is b y d =
    let p = λ (b : ℕ). is_digit b 10 in
    let e = first_in p b y d in
    let n : 0 + prefix_len p (b ∷ y) ≡ prefix_len p (b ∷ y) = omega arith in
    let all : all_digits 10 (b ∷ take (prefix_len p y) y) ≡ true = and_from (is_digit b 10) _ d (prefix_take p y) in
    record {
      within = omega (arith, prefix_len-le-length p (b ∷ y));
      some = omega (arith, first_len p b y d);
      spelled = rw (number_bounded (number 10 (take (prefix_len p (b ∷ y)) (b ∷ y))))
          (subst (λ (k : ℕ). Spells (number_lexeme (number 10 (take (prefix_len p (b ∷ y)) (b ∷ y)))) (take k (b ∷ y))) (sym n)
          (subst (λ (x : List ℕ). Spells (number_lexeme (number 10 x)) x) (sym e) (spec.decimal_number all)));
    }

hexadecimal_is : (b : ℕ) (y : List ℕ) → is_digit b 16 ≡ true → IsAt (48 ∷ 120 ∷ b ∷ y) (digits_at 16 2 (b ∷ y))
hexadecimal_is b y d =
    let p = λ (b : ℕ). is_digit b 16 in
    let e = first_in p b y d in
    let all : all_digits 16 (b ∷ take (prefix_len p y) y) ≡ true = and_from (is_digit b 16) _ d (prefix_take p y) in
    record {
      within = omega (arith, prefix_len-le-length p (b ∷ y));
      some = omega arith;
      spelled = rw (number_bounded (number 16 (take (prefix_len p (b ∷ y)) (b ∷ y))))
          (subst (Spells (number_lexeme (number 16 (take (prefix_len p (b ∷ y)) (b ∷ y))))) (sym (take_sum 2 (prefix_len p (b ∷ y)) (48 ∷ 120 ∷ b ∷ y)))
          (subst (λ (x : List ℕ). Spells (number_lexeme (number 16 x)) (48 ∷ 120 ∷ x)) (sym e) (spec.hexadecimal_number all)));
    }

record IsPrefixed (z : List ℕ) : Type 0 where
  digit : ℕ
  rest : List ℕ
  shape : z ≡ 48 ∷ 120 ∷ digit ∷ rest
  is : is_digit digit 16 ≡ true

prefixed : (z : List ℕ) → is_hexadecimal z ≡ true → IsPrefixed z
prefixed z h =
    let p = and_parts (slice_index z 0 == 48 && slice_index z 1 == 120) (is_digit (slice_index z 2) 16) h in
    let q = and_parts (slice_index z 0 == 48) (slice_index z 1 == 120) p.0 in
    go z (eqb-true _ 48 q.0) (eqb-true _ 120 q.1) p.1
  where
    go : (z : List ℕ) → slice_index z 0 ≡ 48 → slice_index z 1 ≡ 120 → is_digit (slice_index z 2) 16 ≡ true → IsPrefixed z
    go [] e f d = absurd (omega (arith, e))
    go (a ∷ []) e f d = absurd (omega (arith, f))
    go (a ∷ b ∷ []) e f d = absurd (false≢true d)
    go (a ∷ b ∷ c ∷ y) e f d = record { digit = c; rest = y; shape = cc; is = d }

pub number_is : (z : List ℕ) → is_ascii_digit (slice_index z 0) ≡ true → IsAt z (number_at z)
unfolding number_at
number_is [] d = absurd (false≢true d)
number_is (b ∷ y) d = go (is_hexadecimal (b ∷ y)) refl
  where
    go : (t : Bool) → is_hexadecimal (b ∷ y) ≡ t → IsAt (b ∷ y) (cond t (digits_at 16 2 (drop 2 (b ∷ y))) (digits_at 10 0 (b ∷ y)))
    go true h = let k = prefixed (b ∷ y) h in subst (λ (z : List ℕ). IsAt z (digits_at 16 2 (drop 2 z))) (sym k.shape) (hexadecimal_is k.digit k.rest k.is)
    go false h = decimal_is b y (ascii_digit b d)

-- strings
pub record IsQuoted (raw : Bool) (z : List ℕ) (t : Lexeme × ℕ) : Type 0 where
  pub form : StringForm
  pub sound : Bool
  pub value : List ℕ
  pub bytes : List ℕ
  pub is_raw : form.raw ≡ raw
  pub quote : is_quote form.quote ≡ true
  pub body : Body form sound value bytes
  pub lexeme : t.0 ≡ string_lexeme sound value
  pub shape : take t.1 z ≡ quotes form ++ bytes
  pub within : t.1 ≤ length z
  pub some : 0 < t.1

quotes_some : (form : StringForm) → 0 < length (quotes form)
quotes_some form = go form.long
  where
    go : (long : Bool) → 0 < length (quotes (record form { long = long }))
    go true = omega arith
    go false = omega arith

form_is : (form : StringForm) (z : List ℕ) (t : Lexeme × ℕ) → is_quote form.quote ≡ true → IsClosed form z → form_at form z ≡ Some t → IsQuoted form.raw z t
form_is form z t q c e = go (body_at form (drop (length (quotes form)) z)) refl e
  where
    n : ℕ
    n = length (quotes form)

    go : (o : Option row.Body) → body_at form (drop (length (quotes form)) z) ≡ o → string_of (length (quotes form)) o ≡ Some t → IsQuoted form.raw z t
    go None h e = cc
    go (Some body) h e =
        let b = body_is form (drop (length (quotes form)) z) body q h in
        subst (IsQuoted form.raw z) (some_is e) (record {
          form = form;
          sound = body.sound;
          value = body.value;
          bytes = take body.len (drop (length (quotes form)) z);
          is_raw = refl;
          quote = q;
          body = b.shown;
          lexeme = refl;
          shape = take_sum (length (quotes form)) body.len z ∙ ap (λ (x : List ℕ). x ++ take body.len (drop (length (quotes form)) z)) c.front;
          within = omega (arith, c.within, b.within, length-drop (length (quotes form)) z);
          some = omega (arith, quotes_some form);
        })

pub string_is : (raw : Bool) (z : List ℕ) (t : Lexeme × ℕ) → is_quote (slice_index z 0) ≡ true → string_at raw z ≡ Some t → IsQuoted raw z t
unfolding string_at
string_is raw z t q e = go (closes long z) refl (form_at long z) refl e
  where
    long : StringForm
    long = record { quote = slice_index z 0; long = true; raw = raw }

    short : StringForm
    short = record { quote = slice_index z 0; long = false; raw = raw }

    opens : closes short z ≡ true
    opens = and_from (slice_index z 0 == slice_index z 0) _ (eq-eqb (slice_index z 0) (slice_index z 0) refl) refl

    go : (c : Bool) → closes long z ≡ c → (o : Option (Lexeme × ℕ)) → form_at long z ≡ o → or_else (cond c o None) (form_at short z) ≡ Some t → IsQuoted raw z t
    go true c (Some u) h e = form_is long z t q (closed long z q c) (h ∙ e)
    go true c None h e = form_is short z t q (closed short z q opens) e
    go false c o h e = form_is short z t q (closed short z q opens) e

quoted_is : (z : List ℕ) (t : Lexeme × ℕ) → IsQuoted false z t → IsAt z t
quoted_is z t k = record {
  within = k.within;
  some = k.some;
  spelled = subst (Spells t.0) (sym k.shape) (subst (λ (l : Lexeme). Spells l (quotes k.form ++ k.bytes)) (sym k.lexeme) (spec.string k.quote k.is_raw k.body));
}

raw_is : (b : ℕ) (y : List ℕ) (t : Lexeme × ℕ) → is_raw_mark b ≡ true → IsQuoted true y t → IsAt (b ∷ y) (t.0, t.1 + 1)
raw_is b y t m k =
    let shape : take (t.1 + 1) (b ∷ y) ≡ b ∷ (quotes k.form ++ k.bytes) = rw add-one (ap (λ (x : List ℕ). b ∷ x) k.shape) in
    record {
      within = omega (arith, k.within);
      some = omega arith;
      spelled = subst (Spells t.0) (sym shape) (subst (λ (l : Lexeme). Spells l (b ∷ (quotes k.form ++ k.bytes))) (sym k.lexeme) (spec.raw_string m k.quote k.is_raw k.body));
    }

pub mark_is : (z : List ℕ) (t : Lexeme × ℕ) → is_raw_mark (slice_index z 0) ≡ true → is_quote (slice_index z 1) ≡ true → raw_at z ≡ Some t → IsAt z t
unfolding raw_at
mark_is [] t m q e = absurd (false≢true m)
mark_is (b ∷ y) t m q e = go (string_at true y) refl e
  where
    go : (o : Option (Lexeme × ℕ)) → string_at true y ≡ o → or_else (one_more o) (Some (word_at (b ∷ y))) ≡ Some t → IsAt (b ∷ y) t
    go None h e = subst (IsAt (b ∷ y)) (some_is e) (word_is (b ∷ y) (mark_letter b m))
    go (Some u) h e = subst (IsAt (b ∷ y)) (some_is e) (raw_is b y u m (string_is true y u q h))

-- signs
one_at : (z : List ℕ) (s : Sign) → sign_one (slice_index z 0) ≡ Some s → IsAt z (Token (kind.Sign s), 1)
one_at [] s e = cc
one_at (b ∷ y) s e = record { within = omega arith; some = omega arith; spelled = subst (Spells (Token (kind.Sign s))) (one_is b s e).spelled spec.sign }

two_at : (z : List ℕ) (s : Sign) → sign_two (slice_index z 0) (slice_index z 1) ≡ Some s → IsAt z (Token (kind.Sign s), 2)
two_at [] s e = cc
two_at (b ∷ []) s e = absurd (omega (arith, (two_is b 0 s e).some))
two_at (b ∷ c ∷ y) s e = record { within = omega arith; some = omega arith; spelled = subst (Spells (Token (kind.Sign s))) (two_is b c s e).spelled spec.sign }

sign_is : (z : List ℕ) (t : Lexeme × ℕ) → sign_at (slice_index z 0) (slice_index z 1) ≡ Some t → IsAt z t
unfolding sign_at
sign_is z t e = go (sign_two (slice_index z 0) (slice_index z 1)) (sign_one (slice_index z 0)) refl refl e
  where
    go : (two one : Option Sign) → sign_two (slice_index z 0) (slice_index z 1) ≡ two → sign_one (slice_index z 0) ≡ one → signed 2 two (signed 1 one None) ≡ Some t → IsAt z t
    go (Some s) one h k e = subst (IsAt z) (some_is e) (two_at z s h)
    go None (Some s) h k e = subst (IsAt z) (some_is e) (one_at z s k)
    go None None h k e = cc

-- what is read
pub found : (z : List ℕ) (t : Lexeme × ℕ) → lexeme_at z ≡ Some t → IsAt z t
unfolding lexeme_at
found z t e = go (is_raw_mark (slice_index z 0)) (is_quote (slice_index z 1)) (is_letter (slice_index z 0)) (is_ascii_digit (slice_index z 0)) (is_quote (slice_index z 0)) refl refl refl refl refl e
  where
    go : (m p l d q : Bool) → is_raw_mark (slice_index z 0) ≡ m → is_quote (slice_index z 1) ≡ p → is_letter (slice_index z 0) ≡ l → is_ascii_digit (slice_index z 0) ≡ d → is_quote (slice_index z 0) ≡ q
        → cond (m && p) (raw_at z) (cond l (Some (word_at z)) (cond d (Some (number_at z)) (cond q (string_at false z) (sign_at (slice_index z 0) (slice_index z 1))))) ≡ Some t → IsAt z t
    go true true l d q hm hp hl hd hq e = mark_is z t hm hp e
    go true false true d q hm hp hl hd hq e = subst (IsAt z) (some_is e) (word_is z hl)
    go false p true d q hm hp hl hd hq e = subst (IsAt z) (some_is e) (word_is z hl)
    go true false false true q hm hp hl hd hq e = subst (IsAt z) (some_is e) (number_is z hd)
    go false p false true q hm hp hl hd hq e = subst (IsAt z) (some_is e) (number_is z hd)
    go true false false false true hm hp hl hd hq e = quoted_is z t (string_is false z t hq e)
    go false p false false true hm hp hl hd hq e = quoted_is z t (string_is false z t hq e)
    go true false false false false hm hp hl hd hq e = sign_is z t e
    go false p false false false hm hp hl hd hq e = sign_is z t e
