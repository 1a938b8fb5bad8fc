-- Lexemes: which bytes spell what, in the words of the language's definition.
use Rattle.std.specs.Prelude.{◌≡◌, ◌≤◌, ◌<◌, ◌+◌, ◌*◌, ◌^◌, ℕ, Bool, true, false, not, ◌&&◌, ◌||◌, ◌==◌, if◌then◌else◌, nat_le, List, [], ◌∷◌, ◌++◌, length, take, fold, slice_index, codes, bytes_eq, Option, Some, None}
use Rattle.std.specs.Char.{digit_value, is_digit, encode_utf8}
use lib.Utf8.{scalar}
use Rattle.std.specs.List.{list_all}
use Rattle.std.specs.Str.{byte}
use Rattle.cel_tree.specs.declared.token.Sign.{Sign}
use Rattle.cel_tree.specs.declared.token.Sign.TheVariants.{In}
use Rattle.cel_tree.specs.declared.token.TokenKind.TheVariants as kind
use Rattle.cel_tree.specs.Spelling.{spelling, is_word, is_reserved}
use Rattle.cel_lexeme.specs.declared.lexeme.Lexeme.{Lexeme}
use Rattle.cel_lexeme.specs.declared.lexeme.Lexeme.TheVariants.{Token, Reserved, Bad}
use Rattle.cel_lexeme.specs.declared.strings.StringForm.{StringForm}

-- what a word stands for
abbrev pub word_lexeme : List ℕ → Lexeme
word_lexeme word =
    if bytes_eq word (codes "in") then Token (kind.Sign In)
    else (if bytes_eq word (codes "true") then Token (kind.Truth true)
    else (if bytes_eq word (codes "false") then Token (kind.Truth false)
    else (if is_reserved word then Reserved else Token (kind.Name word))))

-- the number that digits write in a base
abbrev pub number : ℕ → List ℕ → ℕ
number base digits = fold (λ n digit. base * n + digit_value digit) 0 digits

abbrev pub all_digits : ℕ → List ℕ → Bool
all_digits base digits = list_all (λ b. is_digit b base) digits

-- a number beyond 2 ^ 63 is a bad token wherever it stands
abbrev pub number_lexeme : ℕ → Lexeme
number_lexeme n = if nat_le n (2 ^ 63) then Token (kind.Number n) else Bad

-- how a string is quoted
abbrev pub is_quote : ℕ → Bool
is_quote b = b == byte "\"" || b == byte "'"

abbrev pub is_raw_mark : ℕ → Bool
is_raw_mark b = b == byte "r" || b == byte "R"

-- the quotes before and behind a string
abbrev pub quotes : StringForm → List ℕ
quotes form = if form.long then form.quote ∷ form.quote ∷ form.quote ∷ [] else form.quote ∷ []

-- the quotes that end the string stand at the front
abbrev pub closes : StringForm → List ℕ → Bool
closes form z =
    slice_index z 0 == form.quote && (not form.long || (slice_index z 1 == form.quote && slice_index z 2 == form.quote))

abbrev pub backslash : ℕ
backslash = byte "\\"

-- bytes that stand for themselves: a backslash only in a raw string, a line feed and a carriage return only in a long one
abbrev pub may_stand : StringForm → ℕ → Bool
may_stand form b = (form.raw || not (b == backslash)) && (form.long || not (b == byte "\n" || b == byte "\r"))

-- what a backslash with one more character stands for: \a \b \f \n \r \t \v \\ \? \" \' and a backslash with a backquote
abbrev pub escape_code : ℕ → Option ℕ
escape_code b =
    if b == byte "a" then Some 7 else (if b == byte "b" then Some 8 else (if b == byte "f" then Some 12 else (if b == byte "n" then Some 10
    else (if b == byte "r" then Some 13 else (if b == byte "t" then Some 9 else (if b == byte "v" then Some 11
    else (if b == backslash || b == byte "?" || b == byte "\"" || b == byte "'" || b == byte "`" then Some b else None)))))))

-- how many hexadecimal digits follow \x \X \u \U
abbrev pub hexadecimal_len : ℕ → Option ℕ
hexadecimal_len b =
    if b == byte "x" || b == byte "X" then Some 2 else (if b == byte "u" then Some 4 else (if b == byte "U" then Some 8 else None))

-- these bytes are an escape for the code point
pub data Escape : ℕ → List ℕ → Type 0 where
  single : {b code : ℕ} → escape_code b ≡ Some code → Escape code (backslash ∷ b ∷ [])
  hexadecimal : {b count : ℕ} {digits : List ℕ} → hexadecimal_len b ≡ Some count → length digits ≡ count → all_digits 16 digits ≡ true
      → Escape (number 16 digits) (backslash ∷ b ∷ digits)
  octal : {a b c : ℕ} → is_digit a 4 ≡ true → all_digits 8 (b ∷ c ∷ []) ≡ true → Escape (number 8 (a ∷ b ∷ c ∷ [])) (backslash ∷ a ∷ b ∷ c ∷ [])

-- a code point in UTF-8; nothing for one that is no Unicode scalar value
abbrev pub utf8 : ℕ → List ℕ
utf8 code = if scalar code then encode_utf8 code else []

-- these bytes are what stands behind a string's opening quotes, up to and with its closing quotes: the value, decoded, and whether
-- each numeric escape is a Unicode scalar value
pub data Body : StringForm → Bool → List ℕ → List ℕ → Type 0 where
  close : {form : StringForm} → Body form true [] (quotes form)
  plain : {form : StringForm} {sound : Bool} {b : ℕ} {value z : List ℕ} → closes form (b ∷ z) ≡ false → may_stand form b ≡ true
      → Body form sound value z → Body form sound (b ∷ value) (b ∷ z)
  escape : {form : StringForm} {sound : Bool} {code : ℕ} {bytes value z : List ℕ} → form.raw ≡ false → Escape code bytes
      → Body form sound value z → Body form (scalar code && sound) (utf8 code ++ value) (bytes ++ z)

-- a string with an escape that is no Unicode scalar value is a bad token
abbrev pub string_lexeme : Bool → List ℕ → Lexeme
string_lexeme sound value = if sound then Token (kind.Str value) else Bad

-- these bytes spell the lexeme
pub data Spells : Lexeme → List ℕ → Type 0 where
  sign : {s : Sign} → Spells (Token (kind.Sign s)) (spelling s)
  word : {w : List ℕ} → is_word w ≡ true → Spells (word_lexeme w) w
  decimal_number : {d : ℕ} {ds : List ℕ} → all_digits 10 (d ∷ ds) ≡ true → Spells (number_lexeme (number 10 (d ∷ ds))) (d ∷ ds)
  hexadecimal_number : {d : ℕ} {ds : List ℕ} → all_digits 16 (d ∷ ds) ≡ true → Spells (number_lexeme (number 16 (d ∷ ds))) (byte "0" ∷ byte "x" ∷ d ∷ ds)
  string : {form : StringForm} {sound : Bool} {value z : List ℕ} → is_quote form.quote ≡ true → form.raw ≡ false → Body form sound value z
      → Spells (string_lexeme sound value) (quotes form ++ z)
  raw_string : {r : ℕ} {form : StringForm} {sound : Bool} {value z : List ℕ} → is_raw_mark r ≡ true → is_quote form.quote ≡ true → form.raw ≡ true
      → Body form sound value z → Spells (string_lexeme sound value) (r ∷ (quotes form ++ z))

-- the first len bytes spell the lexeme, and nothing that stands at the front is longer
pub record IsLongest (z : List ℕ) (lexeme : Lexeme) (len : ℕ) : Type 0 where
  pub within : len ≤ length z
  pub some : 0 < len
  pub spelled : Spells lexeme (take len z)
  pub longest : (other : Lexeme) (bytes rest : List ℕ) → z ≡ bytes ++ rest → Spells other bytes → length bytes ≤ len

-- nothing that stands at the front is a lexeme
abbrev pub HasNone : List ℕ → Type 0
HasNone z = (other : Lexeme) (bytes rest : List ℕ) → z ≡ bytes ++ rest → Spells other bytes → ⊥
