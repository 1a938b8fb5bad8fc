-- Each token, spelled, is the longest lexeme where it stands.
use Rattle.std.proofs.Common.{◌≡◌, ℕ, suc, ◌+◌, ◌≤◌, ◌^◌, Bool, true, false, cond, List, [], ◌∷◌, ◌++◌, length, take, Option, Some, refl, sym, ap, ◌∙◌, subst, arith, append_assoc}
use Rattle.std.specs.Prelude.{◌==◌, ◌&&◌, ◌||◌, not, min, slice_index, codes, bytes_eq}
use Rattle.std.specs.Char.{is_digit}
use Rattle.std.specs.List.{list_all}
use Rattle.std.specs.Fmt.{decimal}
use lib.Utf8.{encode}
use Rattle.std.proofs.lemmas.Bool.{and_parts, and_from, and_left, and_right, or_parts, not-true, eqb-true, le-leb}
use Rattle.std.proofs.Math.Seq.{take-append_seam}
use Rattle.cel_tree.specs.declared.token.Sign.TheVariants as sign
use Rattle.cel_tree.specs.declared.token.TokenKind.{TokenKind}
use Rattle.cel_tree.specs.declared.token.TokenKind.TheVariants as kind
use Rattle.cel_tree.specs.Spelling.{is_letter, is_word_byte, is_word, is_name, is_reserved, is_grammar_word}
use Rattle.cel_lexeme.specs.declared.lexeme.Lexeme.TheVariants.{Token, Reserved}
use Rattle.cel_lexeme.specs.declared.strings.StringForm.{StringForm}
use Rattle.cel_lexeme.specs.declared.strings.Body as row
use Rattle.cel_lexeme.specs.Lexeme.{is_quote, is_raw_mark, number, number_lexeme, all_digits, word_lexeme, closes}
use Rattle.cel_lexeme.specs.Front.{beyond, lexeme_at, word_at, number_at, is_hexadecimal, string_at, string_of, body_from, behind}
use Rattle.cel_lexer.specs.Cut.{Past, is_blank}
use Rattle.cel_lexer.specs.Cut as cut
use Rattle.cel_shown.specs.Spelled.{spelled, escaped, escaped_byte}
use Rattle.cel_shown.proofs.CutFronts.{prefix_is, IsDecimal, decimal_is, digit_is, letter_is, word_no_quote, is_end, end_is}

-- the token is the longest lexeme at the front, and no blank and no comment begins there
pub record IsReady (k : TokenKind) (r : List ℕ) : Type 0 where
  pub read : lexeme_at (spelled k ++ r) ≡ Some (Token k, length (spelled k))
  pub past : Past false (spelled k ++ r) (spelled k ++ r)

pub not_past : (b : ℕ) (z : List ℕ) → is_blank b ≡ false → (b == 47) ≡ false → Past false (b ∷ z) (b ∷ z)
not_past b z blank slash = cut.byte blank (and_left (b == 47) _ slash)

-- words
no_quote : (bs r : List ℕ) → list_all is_word_byte bs ≡ true → is_quote (slice_index r 0) ≡ false → is_quote (slice_index (bs ++ r) 0) ≡ false
no_quote [] r a q = q
no_quote (c ∷ bs) r a q = word_no_quote c (and_parts (is_word_byte c) _ a).0

word_front : (b : ℕ) (bs r : List ℕ) → is_letter b ≡ true → list_all is_word_byte bs ≡ true → is_end (slice_index r 0) ≡ true
    → lexeme_at (b ∷ (bs ++ r)) ≡ Some (word_lexeme (b ∷ bs), length (b ∷ bs))
unfolding lexeme_at word_at
word_front b bs r l a e =
    let k = end_is (slice_index r 0) e in
    let q = no_quote bs r a k.quote in
    let n = prefix_is is_word_byte (b ∷ bs) r (and_from (is_word_byte b) _ (letter_is b l).word a) k.word in
    go q l ∙ ap (λ n. Some (word_lexeme (take n (b ∷ (bs ++ r))), n)) n ∙ ap (λ (w : List ℕ). Some (word_lexeme w, length (b ∷ bs))) (take-append_seam (b ∷ bs) r)
  where
    go : is_quote (slice_index (bs ++ r) 0) ≡ false → is_letter b ≡ true → lexeme_at (b ∷ (bs ++ r)) ≡ Some (word_at (b ∷ (bs ++ r)))
    go q l = rw (and_right (is_raw_mark b) (is_quote (slice_index (bs ++ r) 0)) q, l) refl

pub word_ready : (w r : List ℕ) → is_word w ≡ true → is_end (slice_index r 0) ≡ true → (lexeme_at (w ++ r) ≡ Some (word_lexeme w, length w)) × Past false (w ++ r) (w ++ r)
word_ready [] r h e = cc
word_ready (b ∷ bs) r h e =
    let p = and_parts (is_letter b) (list_all is_word_byte bs) h in
    let k = letter_is b p.0 in
    (word_front b bs r p.0 p.1 e, not_past b (bs ++ r) k.blank k.slash)

name_lexeme : (x : List ℕ) → is_name x ≡ true → word_lexeme x ≡ Token (kind.Name x)
unfolding is_name
name_lexeme x h =
    let p = and_parts (is_word x && not (is_grammar_word x)) (not (is_reserved x)) h in
    let q = and_parts (is_word x) (not (is_grammar_word x)) p.0 in
    let g = or_parts (bytes_eq x (codes "in") || bytes_eq x (codes "true")) (bytes_eq x (codes "false")) (not-true (is_grammar_word x) q.1) in
    let f = or_parts (bytes_eq x (codes "in")) (bytes_eq x (codes "true")) g.0 in
    go (bytes_eq x (codes "in")) (bytes_eq x (codes "true")) (bytes_eq x (codes "false")) (is_reserved x) f.0 f.1 g.1 (not-true (is_reserved x) p.1)
  where
    go : (i t f r : Bool) → i ≡ false → t ≡ false → f ≡ false → r ≡ false
        → cond i (Token (kind.Sign sign.In)) (cond t (Token (kind.Truth true)) (cond f (Token (kind.Truth false)) (cond r Reserved (Token (kind.Name x))))) ≡ Token (kind.Name x)
    go false false false false hi ht hf hr = refl
    go true t f r hi ht hf hr = cc
    go false true f r hi ht hf hr = cc
    go false false true r hi ht hf hr = cc
    go false false false true hi ht hf hr = cc

pub name_ready : (x r : List ℕ) → is_name x ≡ true → is_end (slice_index r 0) ≡ true → IsReady (kind.Name x) r
unfolding is_name
name_ready x r h e =
    let p = and_parts (is_word x && not (is_grammar_word x)) (not (is_reserved x)) h in
    let w = word_ready x r (and_parts (is_word x) (not (is_grammar_word x)) p.0).0 e in
    record { read = w.0 ∙ ap (λ l. Some (l, length x)) (name_lexeme x h); past = w.1 }

pub truth_ready : (b : Bool) (r : List ℕ) → is_end (slice_index r 0) ≡ true → IsReady (kind.Truth b) r
truth_ready true r e = let w = word_ready (codes "true") r refl e in record { read = w.0; past = w.1 }
truth_ready false r e = let w = word_ready (codes "false") r refl e in record { read = w.0; past = w.1 }

pub in_ready : (r : List ℕ) → is_end (slice_index r 0) ≡ true → IsReady (kind.Sign sign.In) r
in_ready r e = let w = word_ready (codes "in") r refl e in record { read = w.0; past = w.1 }

-- numbers
no_x : (ds r : List ℕ) → all_digits 10 ds ≡ true → (slice_index r 0 == 120) ≡ false → (slice_index (ds ++ r) 0 == 120) ≡ false
no_x [] r a e = e
no_x (c ∷ ds) r a e = (digit_is c (and_parts (is_digit c 10) _ a).0).x

plain : (z : List ℕ) → (slice_index z 1 == 120) ≡ false → is_hexadecimal z ≡ false
plain z e = and_left (slice_index z 0 == 48 && slice_index z 1 == 120) _ (and_right (slice_index z 0 == 48) _ e)

small_number : (n : ℕ) → n ≤ 2 ^ 63 → number_lexeme (min n beyond) ≡ Token (kind.Number n)
small_number n l =
    let e : min n beyond ≡ n = omega (arith, l) in
    ap number_lexeme e ∙ rw (le-leb n (2 ^ 63) l) refl

digits_ready : (n d : ℕ) (ds r : List ℕ) → n ≤ 2 ^ 63 → IsDecimal n (d ∷ ds) → is_end (slice_index r 0) ≡ true → lexeme_at (d ∷ (ds ++ r)) ≡ Some (Token (kind.Number n), length (d ∷ ds))
unfolding lexeme_at number_at
digits_ready n d ds r l k e =
    let h = and_parts (is_digit d 10) _ k.all in
    let c = digit_is d h.0 in
    let s = end_is (slice_index r 0) e in
    let x = plain (d ∷ (ds ++ r)) (no_x ds r h.1 s.x) in
    let len = prefix_is (λ b. is_digit b 10) (d ∷ ds) r k.all s.digit in
    let whole : 0 + length (d ∷ ds) ≡ length (d ∷ ds) = omega arith in
    rw (c.mark, c.letter, c.ascii, x) refl
    ∙ ap (λ n. Some (number_lexeme (min (number 10 (take n (d ∷ (ds ++ r)))) beyond), 0 + n)) len
    ∙ ap (λ (w : List ℕ). Some (number_lexeme (min (number 10 w) beyond), 0 + length (d ∷ ds))) (take-append_seam (d ∷ ds) r)
    ∙ ap (λ m. Some (number_lexeme (min m beyond), 0 + length (d ∷ ds))) k.value
    ∙ ap (λ t. Some (t, 0 + length (d ∷ ds))) (small_number n l)
    ∙ ap (λ m. Some (Token (kind.Number n), m)) whole

pub number_ready : (n : ℕ) (r : List ℕ) → n ≤ 2 ^ 63 → is_end (slice_index r 0) ≡ true → IsReady (kind.Number n) r
number_ready n r l e = let k = go (decimal n) (decimal_is n (omega (arith, l))) in record { read = k.0; past = k.1 }
  where
    go : (ds : List ℕ) → IsDecimal n ds → (lexeme_at (ds ++ r) ≡ Some (Token (kind.Number n), length ds)) × Past false (ds ++ r) (ds ++ r)
    go [] k = absurd (omega (arith, k.some))
    go (d ∷ ds) k =
        let c = digit_is d (and_parts (is_digit d 10) _ k.all).0 in
        (digits_ready n d ds r l k e, not_past d (ds ++ r) c.blank c.slash)

-- strings
abbrev short : StringForm
short = record { quote = 34; long = false; raw = false }

abbrev text_body : List ℕ → List ℕ → Option row.Body
text_body text z = Some (record { value = text; sound = true; len = length z })

abbrev by_tests : Bool → Bool → Bool → Bool → Bool → ℕ → List ℕ
by_tests q b l f t c =
    cond q (92 ∷ 34 ∷ []) (cond b (92 ∷ 92 ∷ []) (cond l (92 ∷ 110 ∷ []) (cond f (92 ∷ 114 ∷ []) (cond t (92 ∷ 116 ∷ []) (c ∷ [])))))

-- one escaped byte
pair_read : (c e : ℕ) (text z r : List ℕ) → body_from short (92 ∷ e ∷ r) 0 ≡ behind (c ∷ []) true 2 (body_from short r 0)
    → body_from short r 0 ≡ text_body text z → body_from short (92 ∷ e ∷ r) 0 ≡ text_body (c ∷ text) (92 ∷ e ∷ z)
pair_read c e text z r h k =
    let n : 2 + length z ≡ suc (suc (length z)) = omega arith in
    h ∙ ap (behind (c ∷ []) true 2) k ∙ ap (λ n. Some (record { value = c ∷ text; sound = true; len = n })) n

byte_read : (c : ℕ) (text z r : List ℕ) → (c == 34) ≡ false → (c == 92) ≡ false → (c == 10) ≡ false → (c == 13) ≡ false
    → body_from short r 0 ≡ text_body text z → body_from short (c ∷ r) 0 ≡ text_body (c ∷ text) (c ∷ z)
unfolding body_from
byte_read c text z r q b l f k =
    let n : 1 + length z ≡ suc (length z) = omega arith in
    rw (q, b, l, f) refl ∙ ap (behind (c ∷ []) true 1) k ∙ ap (λ n. Some (record { value = c ∷ text; sound = true; len = n })) n

body_read : (text r : List ℕ) → body_from short ((escaped text ++ 34 ∷ []) ++ r) 0 ≡ text_body text (escaped text ++ 34 ∷ [])
unfolding body_from encode
body_read [] r = refl
body_read (c ∷ text) r =
    subst (λ (z : List ℕ). body_from short (z ++ r) 0 ≡ text_body (c ∷ text) z) (sym (append_assoc (escaped_byte c) (escaped text) (34 ∷ [])))
    (go (c == 34) (c == 92) (c == 10) (c == 13) (c == 9) refl refl refl refl refl (escaped text ++ 34 ∷ []) (body_read text r))
  where
    go : (q b l f t : Bool) → (c == 34) ≡ q → (c == 92) ≡ b → (c == 10) ≡ l → (c == 13) ≡ f → (c == 9) ≡ t → (z : List ℕ)
        → body_from short (z ++ r) 0 ≡ text_body text z
        → body_from short ((by_tests q b l f t c ++ z) ++ r) 0
        ≡ text_body (c ∷ text) (by_tests q b l f t c ++ z)
    go true b l f t hq hb hl hf ht z k = rw (eqb-true c 34 hq) (pair_read 34 34 text z (z ++ r) refl k)
    go false true l f t hq hb hl hf ht z k = rw (eqb-true c 92 hb) (pair_read 92 92 text z (z ++ r) refl k)
    go false false true f t hq hb hl hf ht z k = rw (eqb-true c 10 hl) (pair_read 10 110 text z (z ++ r) refl k)
    go false false false true t hq hb hl hf ht z k = rw (eqb-true c 13 hf) (pair_read 13 114 text z (z ++ r) refl k)
    go false false false false true hq hb hl hf ht z k = rw (eqb-true c 9 ht) (pair_read 9 116 text z (z ++ r) refl k)
    go false false false false false hq hb hl hf ht z k = byte_read c text z (z ++ r) hq hb hl hf k

-- two quotes do not stand behind the first, unless one follows the string
second_byte : (text r : List ℕ) → (slice_index r 0 == 34) ≡ false → closes (record { quote = 34; long = true; raw = false }) (34 ∷ ((escaped text ++ 34 ∷ []) ++ r)) ≡ false
second_byte [] r e = rw e refl
second_byte (c ∷ text) r e = go (c == 34) (c == 92) (c == 10) (c == 13) (c == 9) refl
  where
    go : (q b l f t : Bool) → (c == 34) ≡ q
        → closes (record { quote = 34; long = true; raw = false }) (34 ∷ ((((by_tests q b l f t c) ++ escaped text) ++ 34 ∷ []) ++ r)) ≡ false
    go true b l f t h = refl
    go false true l f t h = refl
    go false false true f t h = refl
    go false false false true t h = refl
    go false false false false true h = refl
    go false false false false false h = rw h refl

pub text_ready : (text r : List ℕ) → is_end (slice_index r 0) ≡ true → IsReady (kind.Str text) r
unfolding lexeme_at string_at
text_ready text r e =
    let s = end_is (slice_index r 0) e in
    let z = 34 ∷ ((escaped text ++ 34 ∷ []) ++ r) in
    let n : 1 + length (escaped text ++ 34 ∷ []) ≡ suc (length (escaped text ++ 34 ∷ [])) = omega arith in
    record {
      read = rw (second_byte text r s.second) refl ∙ ap (string_of 1) (body_read text r) ∙ ap (λ n. Some (Token (kind.Str text), n)) n;
      past = not_past 34 ((escaped text ++ 34 ∷ []) ++ r) refl refl;
    }
