-- Etags.
use Rattle.std.specs.Prelude.{◌≡◌, ℕ, ◌<◌, ◌^◌, ◌↔◌, List, Option, Some}
use Rattle.std.specs.Int.{w64, to_be_bytes}
use Rattle.base64.specs.Engines.{standard}
use Rattle.base64.specs.GeneralPurpose.{encode_of}

-- the text of a number: base64 of its eight big-endian bytes
abbrev pub etag_text_of : ℕ → List ℕ
etag_text_of number = encode_of standard (to_be_bytes w64 number)

-- the answer is a number exactly where the text is that of the number
abbrev pub IsEtagNumber : List ℕ → Option ℕ → Type 0
IsEtagNumber text answer = (number : ℕ) → number < 2 ^ 64 → (answer ≡ Some number) ↔ (text ≡ etag_text_of number)
