-- How tokens are spelled, and which words are no names.
use Rattle.std.specs.Prelude.{◌≡◌, ◌≤◌, ◌^◌, ℕ, Bool, true, false, not, ◌&&◌, ◌||◌, ◌==◌, List, [], ◌∷◌, codes, bytes_eq, IsUtf8}
use Rattle.std.specs.Char.{is_ascii_alphabetic, is_ascii_digit}
use Rattle.std.specs.List.{list_all, list_any}
use Rattle.std.specs.Str.{byte}
use Rattle.cel_tree.specs.declared.token.Sign.{Sign}
use Rattle.cel_tree.specs.declared.token.Sign.TheVariants as sign
use Rattle.cel_tree.specs.declared.token.TokenKind.{TokenKind}
use Rattle.cel_tree.specs.declared.token.TokenKind.TheVariants as kind

-- how a sign is written
abbrev pub spelling : Sign → List ℕ
spelling sign.Question = codes "?"
spelling sign.Colon = codes ":"
spelling sign.OrOr = codes "||"
spelling sign.AndAnd = codes "&&"
spelling sign.Less = codes "<"
spelling sign.LessEqual = codes "<="
spelling sign.Greater = codes ">"
spelling sign.GreaterEqual = codes ">="
spelling sign.EqualEqual = codes "=="
spelling sign.NotEqual = codes "!="
spelling sign.In = codes "in"
spelling sign.Plus = codes "+"
spelling sign.Minus = codes "-"
spelling sign.Star = codes "*"
spelling sign.Slash = codes "/"
spelling sign.Percent = codes "%"
spelling sign.Bang = codes "!"
spelling sign.Dot = codes "."
spelling sign.Comma = codes ","
spelling sign.OpenParenthesis = codes "("
spelling sign.CloseParenthesis = codes ")"
spelling sign.OpenBracket = codes "["
spelling sign.CloseBracket = codes "]"

-- a word is a letter or `_`, and then letters, `_` and digits
abbrev pub is_letter : ℕ → Bool
is_letter b = is_ascii_alphabetic b || b == byte "_"

abbrev pub is_word_byte : ℕ → Bool
is_word_byte b = is_letter b || is_ascii_digit b

abbrev pub is_word : List ℕ → Bool
is_word [] = false
is_word (b ∷ bs) = is_letter b && list_all is_word_byte bs

-- words that are kept for other uses, and `null`, which these expressions leave out
abbrev pub reserved_words : List (List ℕ)
reserved_words =
    codes "as" ∷ codes "break" ∷ codes "const" ∷ codes "continue" ∷ codes "else" ∷ codes "for" ∷ codes "function" ∷ codes "if"
    ∷ codes "import" ∷ codes "let" ∷ codes "loop" ∷ codes "namespace" ∷ codes "null" ∷ codes "package" ∷ codes "return"
    ∷ codes "var" ∷ codes "void" ∷ codes "while" ∷ []

abbrev pub is_reserved : List ℕ → Bool
is_reserved word = list_any (bytes_eq word) reserved_words

-- words of the grammar
abbrev pub is_grammar_word : List ℕ → Bool
is_grammar_word word = bytes_eq word (codes "in") || bytes_eq word (codes "true") || bytes_eq word (codes "false")

-- the words that are names
unfoldable pub is_name : List ℕ → Bool
is_name word = is_word word && not (is_grammar_word word) && not (is_reserved word)

-- what holds of each token of a text: a name is a name, a number at most 2 ^ 63, a string is UTF-8
abbrev pub IsProper : TokenKind → Type 0
IsProper (kind.Sign s) = Unit {0}
IsProper (kind.Truth b) = Unit {0}
IsProper (kind.Number n) = n ≤ 2 ^ 63
IsProper (kind.Str text) = IsUtf8 text
IsProper (kind.Name name) = is_name name ≡ true
