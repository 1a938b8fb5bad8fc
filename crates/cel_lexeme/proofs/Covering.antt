-- What is read at the front is a lexeme, and no lexeme there is longer.
use Rattle.std.proofs.Common.{◌≡◌, ℕ, ◌+◌, ◌-◌, ◌<◌, ◌≤◌, Bool, true, false, cond, List, [], ◌∷◌, ◌++◌, length, length-append, drop, take, Option, Some, None, refl, sym, ap, ◌∙◌, subst, arith, append_assoc}
use Rattle.std.specs.Prelude.{◌==◌, ◌&&◌, slice_index}
use Rattle.std.specs.Char.{is_digit, is_ascii_digit}
use Rattle.std.specs.List.{prefix_len, list_all}
use Rattle.std.proofs.lemmas.Bool.{and_parts, and_from, eqb-true, eq-eqb, both_ways}
use Rattle.std.proofs.Math.Seq.{take-append_seam, drop-append_seam}
use Rattle.cel_tree.specs.declared.token.Sign.{Sign}
use Rattle.cel_tree.specs.declared.token.Sign.TheVariants as variant
use Rattle.cel_tree.specs.declared.token.TokenKind.TheVariants as kind
use Rattle.cel_tree.specs.Spelling.{spelling, is_letter, is_word_byte, is_word}
use Rattle.cel_lexeme.specs.declared.lexeme.Lexeme.{Lexeme}
use Rattle.cel_lexeme.specs.declared.lexeme.Lexeme.TheVariants.{Token}
use Rattle.cel_lexeme.specs.declared.strings.StringForm.{StringForm}
use Rattle.cel_lexeme.specs.declared.strings.Body as row
use Rattle.cel_lexeme.specs.Lexeme.{Spells, Body, is_quote, is_raw_mark, quotes, closes, number, number_lexeme, all_digits, word_lexeme, string_lexeme}
use Rattle.cel_lexeme.specs.Lexeme as spec
use Rattle.cel_lexeme.specs.Front.{lexeme_at, raw_at, one_more, or_else, word_at, number_at, digits_at, is_hexadecimal, string_at, long_at, form_at, string_of, body_at, body_from, sign_at, sign_one, sign_two, signed}
use Rattle.cel_lexeme.proofs.Tests.{some_is, prefix_all}
use Rattle.cel_lexeme.proofs.Quoted.{read, quotes_close}
use Rattle.cel_lexeme.proofs.Classes.{digit_is, letter_word, word_no_quote, digit_no_x, number_bounded, at_mark, at_letter, at_digit, at_quote, at_other}

-- what is read is at least as long as these bytes, and is their lexeme where it is as long
pub record Covers (o : Option (Lexeme × ℕ)) (lexeme : Lexeme) (bytes : List ℕ) : Type 0 where
  pub found : Lexeme × ℕ
  pub is : o ≡ Some found
  pub long : length bytes ≤ found.1
  pub same : found.1 ≡ length bytes → found.0 ≡ lexeme

covers : (lexeme : Lexeme) (bytes : List ℕ) {o p : Option (Lexeme × ℕ)} → o ≡ p → Covers p lexeme bytes → Covers o lexeme bytes
covers lexeme bytes e c = record { found = c.found; is = e ∙ c.is; long = c.long; same = c.same }

-- words
word_front : (w r : List ℕ) → is_word w ≡ true → Covers (Some (word_at (w ++ r))) (word_lexeme w) w
unfolding word_at
word_front [] r h = cc
word_front (b ∷ bs) r h =
    let p = and_parts (is_letter b) (list_all is_word_byte bs) h in
    let a : list_all is_word_byte (b ∷ bs) ≡ true = and_from (is_word_byte b) _ (letter_word b p.0) p.1 in
    record {
      found = word_at (b ∷ (bs ++ r));
      is = refl;
      long = prefix_all is_word_byte (b ∷ bs) r a;
      same = λ e. ap word_lexeme (ap (λ n. take n (b ∷ (bs ++ r))) e ∙ take-append_seam (b ∷ bs) r);
    }

-- a mark of a raw string is a word of its own, unless a raw string stands there
first_quote : (b : ℕ) (bs r : List ℕ) → list_all is_word_byte bs ≡ true → is_quote (slice_index (bs ++ r) 0) ≡ true → length (b ∷ bs) ≡ 1
first_quote b [] r a q = refl
first_quote b (c ∷ bs) r a q = absurd (both_ways _ (word_no_quote c (and_parts (is_word_byte c) _ a).0) q)

word_raw : (w r : List ℕ) (o : Option (Lexeme × ℕ)) → is_word w ≡ true → length w ≡ 1 → ((t : Lexeme × ℕ) → o ≡ Some t → 0 < t.1)
    → Covers (or_else (one_more o) (Some (word_at (w ++ r)))) (word_lexeme w) w
word_raw w r None h l some = word_front w r h
word_raw w r (Some t) h l some =
    let n = some t refl in
    record { found = (t.0, t.1 + 1); is = refl; long = omega (arith, l); same = λ e. absurd (omega (arith, e, l, n)) }

string_len : (form : StringForm) (o : Option row.Body) (t : Lexeme × ℕ) → string_of (length (quotes form)) o ≡ Some t → length (quotes form) ≤ t.1
string_len form None t e = cc
string_len form (Some body) t e = subst (λ (t : Lexeme × ℕ). length (quotes form) ≤ t.1) (some_is e) (omega arith)

long_is : (form : StringForm) (z : List ℕ) (t : Lexeme × ℕ) → long_at form z ≡ Some t → (closes form z ≡ true) × (length (quotes form) ≤ t.1)
long_is form z t e = go (closes form z) refl e
  where
    go : (c : Bool) → closes form z ≡ c → cond c (form_at form z) None ≡ Some t → (closes form z ≡ true) × (length (quotes form) ≤ t.1)
    go true c e = (c, string_len form (body_at form (drop (length (quotes form)) z)) t e)
    go false c e = cc

pub at_some : (raw : Bool) (z : List ℕ) (t : Lexeme × ℕ) → string_at raw z ≡ Some t → 0 < t.1
unfolding string_at
at_some raw z t e = go (long_at long z) refl e
  where
    long : StringForm
    long = record { quote = slice_index z 0; long = true; raw = raw }

    short : StringForm
    short = record { quote = slice_index z 0; long = false; raw = raw }

    go : (o : Option (Lexeme × ℕ)) → long_at long z ≡ o → or_else o (form_at short z) ≡ Some t → 0 < t.1
    go (Some u) h e = omega (arith, (long_is long z t (h ∙ e)).1)
    go None h e = omega (arith, string_len short (body_at short (drop 1 z)) t e)

word_covers : (w r : List ℕ) → is_word w ≡ true → Covers (lexeme_at (w ++ r)) (word_lexeme w) w
unfolding raw_at
word_covers [] r h = cc
word_covers (b ∷ bs) r h = go (is_raw_mark b) (is_quote (slice_index (bs ++ r) 0)) refl refl
  where
    z : List ℕ
    z = b ∷ (bs ++ r)

    p : (is_letter b ≡ true) × (list_all is_word_byte bs ≡ true)
    p = and_parts (is_letter b) (list_all is_word_byte bs) h

    go : (m q : Bool) → is_raw_mark b ≡ m → is_quote (slice_index (bs ++ r) 0) ≡ q → Covers (lexeme_at z) (word_lexeme (b ∷ bs)) (b ∷ bs)
    go true true m q = covers (word_lexeme (b ∷ bs)) (b ∷ bs) (at_mark z m q) (word_raw (b ∷ bs) r (string_at true (bs ++ r)) h (first_quote b bs r p.1 q) (at_some true (bs ++ r)))
    go true false m q = covers (word_lexeme (b ∷ bs)) (b ∷ bs) (at_letter z (rw (m, q) refl) p.0) (word_front (b ∷ bs) r h)
    go false q m k = covers (word_lexeme (b ∷ bs)) (b ∷ bs) (at_letter z (rw m refl) p.0) (word_front (b ∷ bs) r h)

-- numbers
digits_front : (base n : ℕ) (digits r : List ℕ) → all_digits base digits ≡ true → (length digits ≤ (digits_at base n (digits ++ r)).1 - n)
    × ((digits_at base n (digits ++ r)).1 ≡ n + length digits → (digits_at base n (digits ++ r)).0 ≡ number_lexeme (number base digits))
digits_front base n digits r a =
    let l = prefix_all (λ b. is_digit b base) digits r a in (
      omega (arith, l),
      λ e. number_bounded _ ∙ ap (λ (x : List ℕ). number_lexeme (number base x))
          (ap (λ k. take k (digits ++ r)) (let k : prefix_len (λ b. is_digit b base) (digits ++ r) ≡ length digits = omega (arith, e) in k) ∙ take-append_seam digits r),
    )

hexadecimal_front : (d : ℕ) (ds r : List ℕ) → all_digits 16 (d ∷ ds) ≡ true → Covers (Some (number_at (48 ∷ 120 ∷ d ∷ (ds ++ r)))) (number_lexeme (number 16 (d ∷ ds))) (48 ∷ 120 ∷ d ∷ ds)
unfolding number_at
hexadecimal_front d ds r a =
    let f = digits_front 16 2 (d ∷ ds) r a in
    record {
      found = digits_at 16 2 (d ∷ (ds ++ r));
      is = ap Some (rw ((and_parts (is_digit d 16) _ a).0) refl);
      long = omega (arith, f.0);
      same = λ e. f.1 (let k : (digits_at 16 2 (d ∷ (ds ++ r))).1 ≡ 2 + length (d ∷ ds) = omega (arith, e) in k);
    }

one_digit : (d : ℕ) (ds r : List ℕ) → all_digits 10 ds ≡ true → slice_index (ds ++ r) 0 ≡ 120 → length (d ∷ ds) ≡ 1
one_digit d [] r a e = refl
one_digit d (c ∷ ds) r a e = absurd (both_ways _ (digit_no_x c (and_parts (is_digit c 10) _ a).0) (eq-eqb c 120 e))

decimal_front : (d : ℕ) (ds r : List ℕ) → all_digits 10 (d ∷ ds) ≡ true → Covers (Some (number_at (d ∷ (ds ++ r)))) (number_lexeme (number 10 (d ∷ ds))) (d ∷ ds)
unfolding number_at
decimal_front d ds r a = go (is_hexadecimal z) refl
  where
    z : List ℕ
    z = d ∷ (ds ++ r)

    go : (h : Bool) → is_hexadecimal z ≡ h → Covers (Some (cond h (digits_at 16 2 (drop 2 z)) (digits_at 10 0 z))) (number_lexeme (number 10 (d ∷ ds))) (d ∷ ds)
    go true h =
        let x = (and_parts (slice_index z 0 == 48) (slice_index z 1 == 120) (and_parts (slice_index z 0 == 48 && slice_index z 1 == 120) (is_digit (slice_index z 2) 16) h).0).1 in
        let l = one_digit d ds r (and_parts (is_digit d 10) _ a).1 (eqb-true _ 120 x) in
        record { found = digits_at 16 2 (drop 2 z); is = refl; long = omega (arith, l); same = λ e. absurd (omega (arith, e, l)) }
    go false h =
        let f = digits_front 10 0 (d ∷ ds) r a in
        record { found = digits_at 10 0 z; is = refl; long = omega (arith, f.0); same = λ e. f.1 (let k : (digits_at 10 0 z).1 ≡ 0 + length (d ∷ ds) = omega (arith, e) in k) }

decimal_covers : (d : ℕ) (ds r : List ℕ) → all_digits 10 (d ∷ ds) ≡ true → Covers (lexeme_at (d ∷ (ds ++ r))) (number_lexeme (number 10 (d ∷ ds))) (d ∷ ds)
decimal_covers d ds r a =
    let k = digit_is d (and_parts (is_digit d 10) _ a).0 in
    covers (number_lexeme (number 10 (d ∷ ds))) (d ∷ ds) (at_digit (d ∷ (ds ++ r)) k.mark k.letter k.ascii) (decimal_front d ds r a)

hexadecimal_covers : (d : ℕ) (ds r : List ℕ) → all_digits 16 (d ∷ ds) ≡ true → Covers (lexeme_at (48 ∷ 120 ∷ d ∷ (ds ++ r))) (number_lexeme (number 16 (d ∷ ds))) (48 ∷ 120 ∷ d ∷ ds)
hexadecimal_covers d ds r a =
    covers (number_lexeme (number 16 (d ∷ ds))) (48 ∷ 120 ∷ d ∷ ds) (at_digit (48 ∷ 120 ∷ d ∷ (ds ++ r)) refl refl refl) (hexadecimal_front d ds r a)

-- strings
form_front : (form : StringForm) (sound : Bool) (value w r : List ℕ) → is_quote form.quote ≡ true → Body form sound value w
    → form_at form (quotes form ++ (w ++ r)) ≡ Some (string_lexeme sound value, length (quotes form ++ w))
form_front form sound value w r q body =
    ap (λ (y : List ℕ). string_of (length (quotes form)) (body_at form y)) (drop-append_seam (quotes form) (w ++ r))
    ∙ ap (string_of (length (quotes form))) (read body q r)
    ∙ ap (λ n. Some (string_lexeme sound value, n)) (sym (length-append (quotes form) w))

long_front : (form : StringForm) (sound : Bool) (value w r : List ℕ) → is_quote form.quote ≡ true → Body form sound value w
    → long_at form (quotes form ++ (w ++ r)) ≡ Some (string_lexeme sound value, length (quotes form ++ w))
long_front form sound value w r q body = rw (quotes_close form (w ++ r)) (form_front form sound value w r q body)

-- a short string that a quote follows is empty
empty_short : (form : StringForm) (sound : Bool) (value w r : List ℕ) → is_quote form.quote ≡ true → form.long ≡ false → Body form sound value w → slice_index (w ++ r) 0 ≡ form.quote → length w ≡ 1
unfolding body_from
empty_short form sound value w r q s body e = go (w ++ r) (read body q r) e
  where
    one : length (quotes form) ≡ 1
    one = rw s refl

    go : (z : List ℕ) → body_from form z 0 ≡ Some (record { value = value; sound = sound; len = length w }) → slice_index z 0 ≡ form.quote → length w ≡ 1
    go [] h e = cc
    go (b ∷ y) h e =
        let c : closes form (b ∷ y) ≡ true = and_from (b == form.quote) _ (eq-eqb b form.quote e) (rw s refl) in
        sym (ap (λ (x : row.Body). x.len) (some_is (rw c at h))) ∙ one

string_covers : (q : ℕ) (long raw sound : Bool) (value w r : List ℕ) → is_quote q ≡ true → Body (record { quote = q; long = long; raw = raw }) sound value w
    → Covers (string_at raw (quotes (record { quote = q; long = long; raw = raw }) ++ (w ++ r))) (string_lexeme sound value) (quotes (record { quote = q; long = long; raw = raw }) ++ w)
unfolding string_at
string_covers q true raw sound value w r h body =
    let form : StringForm = record { quote = q; long = true; raw = raw } in
    record {
      found = (string_lexeme sound value, length (quotes form ++ w));
      is = ap (λ o. or_else o (form_at (record { quote = q; long = false; raw = raw }) (quotes form ++ (w ++ r)))) (long_front form sound value w r h body);
      long = omega arith;
      same = λ e. refl;
    }
string_covers q false raw sound value w r h body = go (long_at long z) refl
  where
    long : StringForm
    long = record { quote = q; long = true; raw = raw }

    short : StringForm
    short = record { quote = q; long = false; raw = raw }

    z : List ℕ
    z = q ∷ (w ++ r)

    go : (o : Option (Lexeme × ℕ)) → long_at long z ≡ o → Covers (or_else (long_at long z) (form_at short z)) (string_lexeme sound value) (q ∷ w)
    go (Some t) e =
        let k = long_is long z t e in
        let second = eqb-true (slice_index (w ++ r) 0) q (and_parts (slice_index (w ++ r) 0 == q) _ (and_parts (q == q) _ k.0).1).0 in
        let l = empty_short short sound value w r h refl body second in
        record { found = t; is = ap (λ o. or_else o (form_at short z)) e; long = omega (arith, l, k.1); same = λ s. absurd (omega (arith, l, k.1, s)) }
    go None e = record {
      found = (string_lexeme sound value, length (q ∷ w));
      is = ap (λ o. or_else o (form_at short z)) e ∙ form_front short sound value w r h body;
      long = omega arith;
      same = λ s. refl;
    }

first_of_quotes : (q : ℕ) (long raw : Bool) (y : List ℕ) → slice_index (quotes (record { quote = q; long = long; raw = raw }) ++ y) 0 ≡ q
first_of_quotes q true raw y = refl
first_of_quotes q false raw y = refl

quoted_covers : (q : ℕ) (long sound : Bool) (value w r : List ℕ) → is_quote q ≡ true → Body (record { quote = q; long = long; raw = false }) sound value w
    → Covers (lexeme_at (quotes (record { quote = q; long = long; raw = false }) ++ (w ++ r))) (string_lexeme sound value) (quotes (record { quote = q; long = long; raw = false }) ++ w)
quoted_covers q long sound value w r h body =
    let z = quotes (record { quote = q; long = long; raw = false }) ++ (w ++ r) in
    covers (string_lexeme sound value) (quotes (record { quote = q; long = long; raw = false }) ++ w)
    (at_quote z (ap is_quote (first_of_quotes q long false (w ++ r)) ∙ h)) (string_covers q long false sound value w r h body)

raw_more : (b : ℕ) (bytes : List ℕ) (lexeme : Lexeme) (o p : Option (Lexeme × ℕ)) → Covers o lexeme bytes → Covers (or_else (one_more o) p) lexeme (b ∷ bytes)
raw_more b bytes lexeme o p c = record {
  found = (c.found.0, c.found.1 + 1);
  is = ap (λ o. or_else (one_more o) p) c.is;
  long = omega (arith, c.long);
  same = λ e. c.same (omega (arith, e));
}

raw_covers : (b q : ℕ) (long sound : Bool) (value w r : List ℕ) → is_raw_mark b ≡ true → is_quote q ≡ true → Body (record { quote = q; long = long; raw = true }) sound value w
    → Covers (lexeme_at (b ∷ (quotes (record { quote = q; long = long; raw = true }) ++ (w ++ r)))) (string_lexeme sound value) (b ∷ (quotes (record { quote = q; long = long; raw = true }) ++ w))
unfolding raw_at
raw_covers b q long sound value w r m h body =
    let y = quotes (record { quote = q; long = long; raw = true }) ++ (w ++ r) in
    covers (string_lexeme sound value) (b ∷ (quotes (record { quote = q; long = long; raw = true }) ++ w))
    (at_mark (b ∷ y) m (ap is_quote (first_of_quotes q long true (w ++ r)) ∙ h))
    (raw_more b _ (string_lexeme sound value) (string_at true y) (Some (word_at (b ∷ y))) (string_covers q long true sound value w r h body))

-- signs
one_covers : (b : ℕ) (r : List ℕ) (s : Sign) → is_raw_mark b ≡ false → is_letter b ≡ false → is_ascii_digit b ≡ false → is_quote b ≡ false → sign_one b ≡ Some s
    → Covers (lexeme_at (b ∷ r)) (Token (kind.Sign s)) (b ∷ [])
unfolding sign_at
one_covers b r s m l d q e = covers (Token (kind.Sign s)) (b ∷ []) (at_other (b ∷ r) m l d q) (go (sign_two b (slice_index r 0)))
  where
    go : (o : Option Sign) → Covers (signed 2 o (signed 1 (sign_one b) None)) (Token (kind.Sign s)) (b ∷ [])
    go (Some x) = record { found = (Token (kind.Sign x), 2); is = refl; long = omega arith; same = λ e. absurd (omega (arith, e)) }
    go None = record { found = (Token (kind.Sign s), 1); is = ap (λ o. signed 1 o None) e; long = omega arith; same = λ e. refl }

two_covers : (b c : ℕ) (r : List ℕ) (s : Sign) → is_raw_mark b ≡ false → is_letter b ≡ false → is_ascii_digit b ≡ false → is_quote b ≡ false → sign_two b c ≡ Some s
    → Covers (lexeme_at (b ∷ c ∷ r)) (Token (kind.Sign s)) (b ∷ c ∷ [])
unfolding sign_at
two_covers b c r s m l d q e = covers (Token (kind.Sign s)) (b ∷ c ∷ []) (at_other (b ∷ c ∷ r) m l d q)
    (record { found = (Token (kind.Sign s), 2); is = ap (λ o. signed 2 o (signed 1 (sign_one b) None)) e; long = omega arith; same = λ e. refl })

sign_covers : (s : Sign) (r : List ℕ) → Covers (lexeme_at (spelling s ++ r)) (Token (kind.Sign s)) (spelling s)
sign_covers variant.Question r = one_covers 63 r variant.Question refl refl refl refl refl
sign_covers variant.Colon r = one_covers 58 r variant.Colon refl refl refl refl refl
sign_covers variant.Less r = one_covers 60 r variant.Less refl refl refl refl refl
sign_covers variant.Greater r = one_covers 62 r variant.Greater refl refl refl refl refl
sign_covers variant.Plus r = one_covers 43 r variant.Plus refl refl refl refl refl
sign_covers variant.Minus r = one_covers 45 r variant.Minus refl refl refl refl refl
sign_covers variant.Star r = one_covers 42 r variant.Star refl refl refl refl refl
sign_covers variant.Slash r = one_covers 47 r variant.Slash refl refl refl refl refl
sign_covers variant.Percent r = one_covers 37 r variant.Percent refl refl refl refl refl
sign_covers variant.Bang r = one_covers 33 r variant.Bang refl refl refl refl refl
sign_covers variant.Dot r = one_covers 46 r variant.Dot refl refl refl refl refl
sign_covers variant.Comma r = one_covers 44 r variant.Comma refl refl refl refl refl
sign_covers variant.OpenParenthesis r = one_covers 40 r variant.OpenParenthesis refl refl refl refl refl
sign_covers variant.CloseParenthesis r = one_covers 41 r variant.CloseParenthesis refl refl refl refl refl
sign_covers variant.OpenBracket r = one_covers 91 r variant.OpenBracket refl refl refl refl refl
sign_covers variant.CloseBracket r = one_covers 93 r variant.CloseBracket refl refl refl refl refl
sign_covers variant.OrOr r = two_covers 124 124 r variant.OrOr refl refl refl refl refl
sign_covers variant.AndAnd r = two_covers 38 38 r variant.AndAnd refl refl refl refl refl
sign_covers variant.LessEqual r = two_covers 60 61 r variant.LessEqual refl refl refl refl refl
sign_covers variant.GreaterEqual r = two_covers 62 61 r variant.GreaterEqual refl refl refl refl refl
sign_covers variant.EqualEqual r = two_covers 61 61 r variant.EqualEqual refl refl refl refl refl
sign_covers variant.NotEqual r = two_covers 33 61 r variant.NotEqual refl refl refl refl refl
sign_covers variant.In r = word_covers (spelling variant.In) r refl

-- nothing at the front is longer
pub longest : {lexeme : Lexeme} {bytes : List ℕ} → Spells lexeme bytes → (r : List ℕ) → Covers (lexeme_at (bytes ++ r)) lexeme bytes
longest (spec.sign {s = s}) r = sign_covers s r
longest (spec.word {w = w} h) r = word_covers w r h
longest (spec.decimal_number {d = d} {ds = ds} a) r = decimal_covers d ds r a
longest (spec.hexadecimal_number {d = d} {ds = ds} a) r = hexadecimal_covers d ds r a
longest (spec.string {form = form} {sound = sound} {value = value} {z = z} q n body) r =
    let unraw = subst (λ (raw : Bool). Body (record { quote = form.quote; long = form.long; raw = raw }) sound value z) n body in
    subst (λ (y : List ℕ). Covers (lexeme_at y) (string_lexeme sound value) (quotes form ++ z)) (sym (append_assoc (quotes form) z r))
    (quoted_covers form.quote form.long sound value z r q unraw)
longest (spec.raw_string {r = b} {form = form} {sound = sound} {value = value} {z = z} m q n body) r =
    let raw = subst (λ (raw : Bool). Body (record { quote = form.quote; long = form.long; raw = raw }) sound value z) n body in
    subst (λ (y : List ℕ). Covers (lexeme_at (b ∷ y)) (string_lexeme sound value) (b ∷ (quotes form ++ z))) (sym (append_assoc (quotes form) z r))
    (raw_covers b form.quote form.long sound value z r m q raw)
