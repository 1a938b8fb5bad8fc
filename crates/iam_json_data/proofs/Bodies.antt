-- The data of a body, by the two facts that the reader gives.
use Rattle.std.proofs.Common.{◌≡◌, ℕ, ◌<◌, List, [], ◌∷◌, length, Bool, true, false, Option, Some, None, refl, arith}
use Rattle.std.proofs.lemmas.Str.{IsUtf8-from_is_utf8, is_utf8-from_IsUtf8}
use Rattle.std.specs.Str.{IsUtf8, is_utf8}
use Rattle.serde_json.specs.Data.{Data}
use Rattle.serde_json.specs.Read.{read}
use Rattle.iam_json_data.specs.Body.{read_bytes, body_data}

pub read_bytes-some : (bytes : List ℕ) (d : Data) → IsUtf8 bytes → read bytes ≡ Some d → read_bytes bytes ≡ Some d
unfolding read_bytes
read_bytes-some bytes d text e = rw (is_utf8-from_IsUtf8 bytes text) e

none_if : (b : Bool) (o : Option Data) → (b ≡ true → o ≡ None) → Rattle.std.specs.Prelude.cond b o None ≡ None
none_if true o h = h refl
none_if false o h = refl

pub read_bytes-none : (bytes : List ℕ) → (IsUtf8 bytes → read bytes ≡ None) → read_bytes bytes ≡ None
unfolding read_bytes
read_bytes-none bytes h = none_if (is_utf8 bytes) (read bytes) (λ e. h (IsUtf8-from_is_utf8 bytes e))

pub body_data-some : (bytes : List ℕ) (d : Data) → 0 < length bytes → IsUtf8 bytes → read bytes ≡ Some d → body_data bytes ≡ Some d
body_data-some [] d some text e = absurd (omega arith)
body_data-some (b ∷ bytes) d some text e = read_bytes-some (b ∷ bytes) d text e

pub body_data-none : (bytes : List ℕ) → 0 < length bytes → (IsUtf8 bytes → read bytes ≡ None) → body_data bytes ≡ None
body_data-none [] some h = absurd (omega arith)
body_data-none (b ∷ bytes) some h = read_bytes-none (b ∷ bytes) h
