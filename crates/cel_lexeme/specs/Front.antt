-- The longest lexeme at the front of a text, as it is computed.
use Rattle.std.specs.Prelude.{ℕ, zero, suc, ◌+◌, ◌-◌, ◌^◌, min, Bool, true, false, not, ◌&&◌, ◌==◌, if◌then◌else◌, List, [], ◌∷◌, ◌++◌, length, take, drop, slice_index, Option, Some, None, bytes_eq, find}
use Rattle.std.specs.Char.{is_digit, is_ascii_digit}
use Rattle.std.specs.List.{prefix_len}
use Rattle.std.specs.Str.{byte}
use lib.Utf8.{scalar}
use Rattle.cel_tree.specs.declared.token.Sign.{Sign}
use Rattle.cel_tree.specs.declared.token.Sign.TheVariants as sign
use Rattle.cel_tree.specs.declared.token.TokenKind.TheVariants as kind
use Rattle.cel_tree.specs.Spelling.{is_letter, is_word_byte, spelling}
use Rattle.cel_lexeme.specs.declared.lexeme.Lexeme.{Lexeme}
use Rattle.cel_lexeme.specs.declared.lexeme.Lexeme.TheVariants.{Token}
use Rattle.cel_lexeme.specs.declared.strings.StringForm.{StringForm}
use Rattle.cel_lexeme.specs.declared.strings.Item.{Item}
use Rattle.cel_lexeme.specs.declared.strings.Item.TheVariants.{Byte, Code}
use Rattle.cel_lexeme.specs.declared.strings.Body.{Body}
use Rattle.cel_lexeme.specs.Lexeme.{word_lexeme, number, number_lexeme, is_quote, is_raw_mark, backslash, quotes, closes, may_stand, escape_code, hexadecimal_len, utf8, string_lexeme}

-- numbers from here on are alike: all are bad tokens, and no Unicode scalar values
abbrev pub beyond : ℕ
beyond = 2 ^ 63 + 1

-- the code point of an escape of so many digits, which may be longer than the text
abbrev pub escape_digits : ℕ → ℕ → List ℕ → Option ℕ
escape_digits base count z =
    if prefix_len (λ b. is_digit b base) (take count z) == count then Some (min (number base (take count z)) beyond) else None

abbrev pub with_len : ℕ → Option ℕ → Option (ℕ × ℕ)
with_len n None = None
with_len n (Some code) = Some (code, n)

abbrev pub octal_at : List ℕ → Bool → Option (ℕ × ℕ)
octal_at z true = with_len 3 (escape_digits 8 3 z)
octal_at z false = None

abbrev pub hexadecimal_at : ℕ → List ℕ → Option ℕ → Option (ℕ × ℕ)
hexadecimal_at b z (Some count) = with_len (count + 1) (escape_digits 16 count z)
hexadecimal_at b z None = octal_at (b ∷ z) (is_digit b 4)

abbrev pub single_at : ℕ → List ℕ → Option ℕ → Option (ℕ × ℕ)
single_at b z (Some code) = Some (code, 1)
single_at b z None = hexadecimal_at b z (hexadecimal_len b)

-- behind a backslash: the code point of an escape, and how many bytes it takes there
abbrev pub escape_at : List ℕ → Option (ℕ × ℕ)
escape_at [] = None
escape_at (b ∷ z) = single_at b z (escape_code b)

-- what one item of a string adds, whether it is sound, and how many bytes it takes
abbrev pub item_bytes : Item → List ℕ
item_bytes (Byte b) = b ∷ []
item_bytes (Code code len) = utf8 code

abbrev pub item_sound : Item → Bool
item_sound (Byte b) = true
item_sound (Code code len) = scalar code

abbrev pub item_len : Item → ℕ
item_len (Byte b) = 1
item_len (Code code len) = len + 1

abbrev pub code_item : Option (ℕ × ℕ) → Option Item
code_item None = None
code_item (Some escape) = Some (Code escape.0 escape.1)

abbrev pub item_at : StringForm → ℕ → List ℕ → Option Item
item_at form b z = if b == backslash && not form.raw then code_item (escape_at z) else (if may_stand form b then Some (Byte b) else None)

abbrev pub behind : List ℕ → Bool → ℕ → Option Body → Option Body
behind value sound len None = None
behind value sound len (Some body) = Some (record { value = value ++ body.value; sound = sound && body.sound; len = len + body.len })

abbrev pub with_item : (ℕ → Option Body) → Option Item → Option Body
with_item go None = None
with_item go (Some item) = behind (item_bytes item) (item_sound item) (item_len item) (go (item_len item - 1))

-- what stands behind a string's opening quotes, where the first bytes, so many, are passed over
unfoldable pub body_from : StringForm → List ℕ → ℕ → Option Body
body_from form [] k = None
body_from form (b ∷ z) (suc k) = body_from form z k
body_from form (b ∷ z) zero =
    if closes form (b ∷ z) then Some (record { value = []; sound = true; len = length (quotes form) })
    else with_item (body_from form z) (item_at form b z)

abbrev pub body_at : StringForm → List ℕ → Option Body
body_at form z = body_from form z 0

-- the string of this form
abbrev pub string_of : ℕ → Option Body → Option (Lexeme × ℕ)
string_of n None = None
string_of n (Some body) = Some (string_lexeme body.sound body.value, n + body.len)

abbrev pub form_at : StringForm → List ℕ → Option (Lexeme × ℕ)
form_at form z = string_of (length (quotes form)) (body_at form (drop (length (quotes form)) z))

abbrev pub or_else : Option (Lexeme × ℕ) → Option (Lexeme × ℕ) → Option (Lexeme × ℕ)
or_else None other = other
or_else (Some found) other = Some found

abbrev pub long_at : StringForm → List ℕ → Option (Lexeme × ℕ)
long_at form z = if closes form z then form_at form z else None

-- the string at a quote, the long form first
unfoldable pub string_at : Bool → List ℕ → Option (Lexeme × ℕ)
string_at raw z =
    or_else (long_at (record { quote = slice_index z 0; long = true; raw = raw }) z) (form_at (record { quote = slice_index z 0; long = false; raw = raw }) z)

unfoldable pub word_at : List ℕ → Lexeme × ℕ
word_at z = let n = prefix_len is_word_byte z in (word_lexeme (take n z), n)

abbrev pub one_more : Option (Lexeme × ℕ) → Option (Lexeme × ℕ)
one_more None = None
one_more (Some found) = Some (found.0, found.1 + 1)

-- at a mark of a raw string and a quote: a raw string, or the mark as a word
unfoldable pub raw_at : List ℕ → Option (Lexeme × ℕ)
raw_at z = or_else (one_more (string_at true (drop 1 z))) (Some (word_at z))

abbrev pub digits_at : ℕ → ℕ → List ℕ → Lexeme × ℕ
digits_at base n z =
    let count = prefix_len (λ b. is_digit b base) z in (number_lexeme (min (number base (take count z)) beyond), n + count)

abbrev pub is_hexadecimal : List ℕ → Bool
is_hexadecimal z = slice_index z 0 == byte "0" && slice_index z 1 == byte "x" && is_digit (slice_index z 2) 16

unfoldable pub number_at : List ℕ → Lexeme × ℕ
number_at z = if is_hexadecimal z then digits_at 16 2 (drop 2 z) else digits_at 10 0 z

-- the signs of two bytes, and those of one
abbrev pub signs_of_two : List Sign
signs_of_two =
    sign.OrOr ∷ sign.AndAnd ∷ sign.LessEqual ∷ sign.GreaterEqual ∷ sign.EqualEqual ∷ sign.NotEqual ∷ []

abbrev pub signs_of_one : List Sign
signs_of_one =
    sign.Question ∷ sign.Colon ∷ sign.Less ∷ sign.Greater ∷ sign.Plus ∷ sign.Minus ∷ sign.Star ∷ sign.Slash ∷ sign.Percent ∷ sign.Bang
    ∷ sign.Dot ∷ sign.Comma ∷ sign.OpenParenthesis ∷ sign.CloseParenthesis ∷ sign.OpenBracket ∷ sign.CloseBracket ∷ []

abbrev pub sign_two : ℕ → ℕ → Option Sign
sign_two b c = find (λ s. bytes_eq (b ∷ c ∷ []) (spelling s)) signs_of_two

abbrev pub sign_one : ℕ → Option Sign
sign_one b = find (λ s. bytes_eq (b ∷ []) (spelling s)) signs_of_one

abbrev pub signed : ℕ → Option Sign → Option (Lexeme × ℕ) → Option (Lexeme × ℕ)
signed n (Some s) other = Some (Token (kind.Sign s), n)
signed n None other = other

unfoldable pub sign_at : ℕ → ℕ → Option (Lexeme × ℕ)
sign_at b c = signed 2 (sign_two b c) (signed 1 (sign_one b) None)

-- the longest lexeme at the front, and its length
unfoldable pub lexeme_at : List ℕ → Option (Lexeme × ℕ)
lexeme_at z =
    let b = slice_index z 0 in
    if is_raw_mark b && is_quote (slice_index z 1) then raw_at z
    else (if is_letter b then Some (word_at z)
    else (if is_ascii_digit b then Some (number_at z)
    else (if is_quote b then string_at false z else sign_at b (slice_index z 1))))
