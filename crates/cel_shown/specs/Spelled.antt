-- The bytes of pieces.
use Rattle.std.specs.Prelude.{ℕ, true, false, if◌then◌else◌, ◌==◌, List, [], ◌∷◌, ◌++◌, codes}
use Rattle.std.specs.Fmt.{decimal}
use Rattle.std.specs.Str.{byte}
use Rattle.cel_tree.specs.Spelling.{spelling}
use Rattle.cel_tree.specs.declared.token.TokenKind.{TokenKind}
use Rattle.cel_tree.specs.declared.token.TokenKind.TheVariants as kind
use Rattle.cel_shown.specs.Shown.{Piece, Blank, Word}

-- a byte between double quotes: `"`, `\`, line feed, carriage return and tab are escaped
abbrev pub escaped_byte : ℕ → List ℕ
escaped_byte c =
    if c == byte "\"" then codes "\\\""
    else (if c == byte "\\" then codes "\\\\"
    else (if c == byte "\n" then codes "\\n" else (if c == byte "\r" then codes "\\r" else (if c == byte "\t" then codes "\\t" else c ∷ []))))

abbrev pub escaped : List ℕ → List ℕ
escaped [] = []
escaped (c ∷ text) = escaped_byte c ++ escaped text

abbrev pub spelled : TokenKind → List ℕ
spelled (kind.Sign x) = spelling x
spelled (kind.Truth true) = codes "true"
spelled (kind.Truth false) = codes "false"
spelled (kind.Number n) = decimal n
spelled (kind.Str text) = byte "\"" ∷ (escaped text ++ byte "\"" ∷ [])
spelled (kind.Name name) = name

abbrev pub piece_text : Piece → List ℕ
piece_text Blank = codes " "
piece_text (Word k) = spelled k

abbrev pub bytes_of : List Piece → List ℕ
bytes_of [] = []
bytes_of (p ∷ ps) = piece_text p ++ bytes_of ps
