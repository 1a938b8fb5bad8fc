-- The longest lexeme at the front, and what is behind it.
use Rattle.std.proofs.Common.{◌≡◌, ℕ, ◌<◌, ◌≤◌, ◌^◌, Bool, true, false, cond, List, [], ◌∷◌, ◌++◌, length, length-take-le, drop, take, Option, Some, None, refl, sym, ap, ◌∙◌, subst, arith, append_assoc}
use Rattle.std.specs.Prelude.{◌==◌, ◌&&◌, ◌||◌, not, slice_index, nat_lt, nat_le, codes, bytes_eq}
use Rattle.std.specs.List.{list_all, prefix_len}
use Rattle.std.specs.Str.{IsUtf8, IsAscii}
use Rattle.std.proofs.lemmas.Str.{IsUtf8-from_ascii}
use Rattle.cel_lexeme.specs.declared.strings.Body as row
use Rattle.cel_lexeme.proofs.Quoted.{closed, body_is}
use Rattle.std.proofs.lemmas.Bool.{eq-eqb, and_parts, and_from, ltb-true, leb-true, or_from, not_from_false}
use Rattle.std.proofs.lemmas.List.{take-append-drop}
use Rattle.std.proofs.lemmas.Str.Ascii.{IsAscii-nil, IsAscii-cons}
use Rattle.cel_tree.specs.declared.token.Sign.{Sign}
use Rattle.cel_tree.specs.declared.token.Sign.TheVariants as variant
use Rattle.cel_tree.specs.declared.token.TokenKind.{TokenKind}
use Rattle.cel_tree.specs.declared.token.TokenKind.TheVariants as kind
use Rattle.cel_tree.specs.Spelling.{spelling, is_letter, is_word_byte, is_word, is_reserved, is_grammar_word, IsProper, is_name}
use Rattle.cel_lexeme.specs.declared.lexeme.Lexeme.{Lexeme}
use Rattle.cel_lexeme.specs.declared.lexeme.Lexeme.TheVariants.{Token, Reserved, Bad}
use Rattle.cel_lexeme.specs.declared.strings.StringForm.{StringForm}
use Rattle.cel_lexeme.specs.Lexeme.{Spells, Body, IsLongest, HasNone, is_quote, is_raw_mark, quotes, closes, word_lexeme, number_lexeme, string_lexeme}
use Rattle.cel_lexeme.specs.Lexeme as spec
use Rattle.cel_lexeme.specs.Front.{lexeme_at, body_at}
use Rattle.cel_lexeme.proofs.Tests.{some_is, prefix_take, word_ascii, mark_ascii}
use Rattle.cel_lexeme.proofs.Escaping.{digits_ascii}
use Rattle.cel_lexeme.proofs.Utf8.{behind_ascii, cut_behind, opened, cut}
use Rattle.cel_lexeme.proofs.Classes.{letter_word}
use Rattle.cel_lexeme.proofs.Covering.{longest}
use Rattle.cel_lexeme.proofs.Spelled.{found}

-- the longest
pub longest_is : (z : List ℕ) (t : Lexeme × ℕ) → lexeme_at z ≡ Some t → IsLongest z t.0 t.1
longest_is z t e =
    let k = found z t e in
    record {
      within = k.within;
      some = k.some;
      spelled = k.spelled;
      longest = λ other bytes rest s spells.
          let c = longest spells rest in
          let same : c.found ≡ t = some_is (sym c.is ∙ ap lexeme_at (sym s) ∙ e) in
          subst (λ (u : Lexeme × ℕ). length bytes ≤ u.1) same c.long;
    }

both : (u t : Lexeme × ℕ) → u.0 ≡ t.0 → u.1 ≡ t.1 → Some u ≡ Some t
both u t l n = ap (λ l. Some (l, u.1)) l ∙ ap (λ n. Some (t.0, n)) n

pub is_read : (z : List ℕ) (t : Lexeme × ℕ) → IsLongest z t.0 t.1 → lexeme_at z ≡ Some t
is_read z t k =
    let whole = take-append-drop t.1 z in
    let c = longest k.spelled (drop t.1 z) in
    let is : lexeme_at z ≡ Some c.found = ap lexeme_at (sym whole) ∙ c.is in
    let at = found z c.found is in
    let front = length-take-le t.1 z k.within in
    let back = length-take-le c.found.1 z at.within in
    let less = k.longest c.found.0 (take c.found.1 z) (drop c.found.1 z) (sym (take-append-drop c.found.1 z)) at.spelled in
    let len : c.found.1 ≡ length (take t.1 z) = omega (arith, c.long, less, front, back) in
    let lexeme = c.same len in
    let n : c.found.1 ≡ t.1 = omega (arith, len, front) in
    is ∙ both c.found t lexeme n

pub none_is : (z : List ℕ) → lexeme_at z ≡ None → HasNone z
none_is z e = λ other bytes rest s spells. let c = longest spells rest in let no : Some c.found ≡ None = sym c.is ∙ ap lexeme_at (sym s) ∙ e in cc

pub is_none : (z : List ℕ) → HasNone z → lexeme_at z ≡ None
is_none z h = go (lexeme_at z) refl
  where
    go : (o : Option (Lexeme × ℕ)) → lexeme_at z ≡ o → lexeme_at z ≡ None
    go None e = e
    go (Some t) e = absurd (h t.0 (take t.1 z) (drop t.1 z) (sym (take-append-drop t.1 z)) (found z t e).spelled)

-- bytes of ASCII
ascii : (p : ℕ → Bool) (bs : List ℕ) → ((b : ℕ) → p b ≡ true → b < 128) → list_all p bs ≡ true → IsAscii bs
ascii p [] low a = IsAscii-nil
ascii p (b ∷ bs) low a = let h = and_parts (p b) (list_all p bs) a in IsAscii-cons b bs (low b h.0) (ascii p bs low h.1)

all_low : (s : Sign) → list_all (λ b. nat_lt b 128) (spelling s) ≡ true
all_low variant.Question = refl
all_low variant.Colon = refl
all_low variant.OrOr = refl
all_low variant.AndAnd = refl
all_low variant.Less = refl
all_low variant.LessEqual = refl
all_low variant.Greater = refl
all_low variant.GreaterEqual = refl
all_low variant.EqualEqual = refl
all_low variant.NotEqual = refl
all_low variant.In = refl
all_low variant.Plus = refl
all_low variant.Minus = refl
all_low variant.Star = refl
all_low variant.Slash = refl
all_low variant.Percent = refl
all_low variant.Bang = refl
all_low variant.Dot = refl
all_low variant.Comma = refl
all_low variant.OpenParenthesis = refl
all_low variant.CloseParenthesis = refl
all_low variant.OpenBracket = refl
all_low variant.CloseBracket = refl

sign_ascii : (s : Sign) → IsAscii (spelling s)
sign_ascii s = ascii (λ b. nat_lt b 128) (spelling s) (λ b h. ltb-true b 128 h) (all_low s)

word_is_ascii : (w : List ℕ) → is_word w ≡ true → IsAscii w
word_is_ascii [] h = IsAscii-nil
word_is_ascii (b ∷ bs) h =
    let p = and_parts (is_letter b) (list_all is_word_byte bs) h in
    ascii is_word_byte (b ∷ bs) word_ascii (and_from (is_word_byte b) _ (letter_word b p.0) p.1)

-- what is behind a lexeme of a text is a text
quoted_rest : (form : StringForm) (sound : Bool) (value w r : List ℕ) → is_quote form.quote ≡ true → Body form sound value w → IsUtf8 ((quotes form ++ w) ++ r) → IsUtf8 value × IsUtf8 r
quoted_rest form sound value w r q body u =
    let k = cut body q [] r (opened form (w ++ r) q (subst IsUtf8 (append_assoc (quotes form) w r) u)) in
    (k.value, k.rest)

rest_of : {lexeme : Lexeme} {bytes : List ℕ} → Spells lexeme bytes → (r : List ℕ) → IsUtf8 (bytes ++ r) → IsUtf8 r
rest_of (spec.sign {s = s}) r u = behind_ascii (spelling s) r (sign_ascii s) u
rest_of (spec.word {w = w} h) r u = behind_ascii w r (word_is_ascii w h) u
rest_of (spec.decimal_number {d = d} {ds = ds} a) r u = behind_ascii (d ∷ ds) r (digits_ascii 10 (d ∷ ds) (omega arith) a) u
rest_of (spec.hexadecimal_number {d = d} {ds = ds} a) r u =
    behind_ascii (48 ∷ 120 ∷ d ∷ ds) r (IsAscii-cons 48 (120 ∷ d ∷ ds) (omega arith) (IsAscii-cons 120 (d ∷ ds) (omega arith) (digits_ascii 16 (d ∷ ds) (omega arith) a))) u
rest_of (spec.string {form = form} {sound = sound} {value = value} {z = z} q n body) r u = (quoted_rest form sound value z r q body u).1
rest_of (spec.raw_string {r = b} {form = form} {sound = sound} {value = value} {z = z} m q n body) r u =
    (quoted_rest form sound value z r q body (cut_behind [] ((quotes form ++ z) ++ r) b (mark_ascii b m) u)).1

-- and a token of a text is proper
abbrev IsProperLexeme : Lexeme → Type 0
IsProperLexeme (Token k) = IsProper k
IsProperLexeme Reserved = Unit {0}
IsProperLexeme Bad = Unit {0}

proper_word : (w : List ℕ) → is_word w ≡ true → IsProperLexeme (word_lexeme w)
unfolding is_name
proper_word w h = go (bytes_eq w (codes "in")) (bytes_eq w (codes "true")) (bytes_eq w (codes "false")) (is_reserved w) refl refl refl refl
  where
    go : (i t f r : Bool) → bytes_eq w (codes "in") ≡ i → bytes_eq w (codes "true") ≡ t → bytes_eq w (codes "false") ≡ f → is_reserved w ≡ r
        → IsProperLexeme (cond i (Token (kind.Sign variant.In)) (cond t (Token (kind.Truth true)) (cond f (Token (kind.Truth false)) (cond r Reserved (Token (kind.Name w))))))
    go true t f r hi ht hf hr = tt
    go false true f r hi ht hf hr = tt
    go false false true r hi ht hf hr = tt
    go false false false true hi ht hf hr = tt
    go false false false false hi ht hf hr =
        let grammar : is_grammar_word w ≡ false = or_from (bytes_eq w (codes "in") || bytes_eq w (codes "true")) _ (or_from (bytes_eq w (codes "in")) _ hi ht) hf in
        and_from (is_word w && not (is_grammar_word w)) _ (and_from (is_word w) _ h (not_from_false (is_grammar_word w) grammar)) (not_from_false (is_reserved w) hr)

proper_number : (n : ℕ) → IsProperLexeme (number_lexeme n)
proper_number n = go (nat_le n (2 ^ 63)) refl
  where
    go : (t : Bool) → nat_le n (2 ^ 63) ≡ t → IsProperLexeme (cond t (Token (kind.Number n)) Bad)
    go true h = leb-true n (2 ^ 63) h
    go false h = tt

proper_string : (sound : Bool) (value : List ℕ) → IsUtf8 value → IsProperLexeme (string_lexeme sound value)
proper_string true value u = u
proper_string false value u = tt

proper_of : {lexeme : Lexeme} {bytes : List ℕ} → Spells lexeme bytes → (r : List ℕ) → IsUtf8 (bytes ++ r) → IsProperLexeme lexeme
proper_of spec.sign r u = tt
proper_of (spec.word {w = w} h) r u = proper_word w h
proper_of (spec.decimal_number {d = d} {ds = ds} a) r u = proper_number _
proper_of (spec.hexadecimal_number {d = d} {ds = ds} a) r u = proper_number _
proper_of (spec.string {form = form} {sound = sound} {value = value} {z = z} q n body) r u = proper_string sound value (quoted_rest form sound value z r q body u).0
proper_of (spec.raw_string {r = b} {form = form} {sound = sound} {value = value} {z = z} m q n body) r u =
    proper_string sound value (quoted_rest form sound value z r q body (cut_behind [] ((quotes form ++ z) ++ r) b (mark_ascii b m) u)).0

pub rest_is : (z : List ℕ) (l : Lexeme) (n : ℕ) → IsUtf8 z → IsLongest z l n → IsUtf8 (drop n z)
rest_is z l n u k = rest_of k.spelled (drop n z) (subst IsUtf8 (sym (take-append-drop n z)) u)

pub proper : (z : List ℕ) (k : TokenKind) (n : ℕ) → IsUtf8 z → IsLongest z (Token k) n → IsProper k
proper z k n u h = proper_of h.spelled (drop n z) (subst IsUtf8 (sym (take-append-drop n z)) u)

-- what the readers take a text from is one
pub word_utf8 : (z : List ℕ) → IsUtf8 (take (prefix_len is_word_byte z) z)
word_utf8 z = IsUtf8-from_ascii _ (ascii is_word_byte (take (prefix_len is_word_byte z) z) word_ascii (prefix_take is_word_byte z))

pub body_utf8 : (form : StringForm) (z : List ℕ) (body : row.Body) → is_quote form.quote ≡ true → IsUtf8 z → body_at form z ≡ Some body → IsUtf8 body.value
body_utf8 form z body q u e =
    let b = body_is form z body q e in
    (cut b.shown q [] (drop body.len z) (subst IsUtf8 (sym (take-append-drop body.len z)) u)).value

pub opened_utf8 : (form : StringForm) (z : List ℕ) → is_quote form.quote ≡ true → closes form z ≡ true → IsUtf8 z → IsUtf8 (drop (length (quotes form)) z)
opened_utf8 form z q c u =
    let k = closed form z q c in
    opened form (drop (length (quotes form)) z) q
    (subst (λ (x : List ℕ). IsUtf8 (x ++ drop (length (quotes form)) z)) k.front (subst IsUtf8 (sym (take-append-drop (length (quotes form)) z)) u))

pub quote_closes : (raw : Bool) (z : List ℕ) → closes (record { quote = slice_index z 0; long = false; raw = raw }) z ≡ true
quote_closes raw z = and_from (slice_index z 0 == slice_index z 0) _ (eq-eqb (slice_index z 0) (slice_index z 0) refl) refl

pub marked_utf8 : (z : List ℕ) → is_raw_mark (slice_index z 0) ≡ true → IsUtf8 z → IsUtf8 (drop 1 z)
marked_utf8 [] m u = u
marked_utf8 (b ∷ y) m u = cut_behind [] y b (mark_ascii b m) u
