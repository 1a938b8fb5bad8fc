-- The texts of numbers, and the numbers of texts.
use Rattle.std.proofs.Common.{◌≡◌, ◌≢◌, ℕ, zero, suc, ◌<◌, ◌^◌, List, length, arith, refl, sym, ◌∙◌, ap, Some, None, Ok, Err}
use Rattle.std.specs.Int.{w64, to_be_bytes, from_be_bytes}
use Rattle.std.proofs.lemmas.Nat.{from_be_bytes-to_be_bytes_8}
use Rattle.base64.specs.declared.decode.DecodeError.{DecodeError}
use Rattle.base64.specs.Engines.{standard}
use Rattle.base64.specs.GeneralPurpose.{encode_of, decode_of, IsBytes, IsStrict}
use Rattle.base64.proofs.EngineFacts.{decode_of_strict, decode_of-encode_of}
use Rattle.base64.proofs.OnLiterals.{base64_on_literals}
use Rattle.iam_json_data.specs.Etag.{etag_text_of, IsEtagNumber}

pub IsStrict_standard : IsStrict standard
IsStrict_standard = (refl, refl)

pub length-etag_text_of : (n : ℕ) → length (etag_text_of n) ≡ 12
unfolding base64_on_literals
length-etag_text_of n = refl

pub IsBytes-to_be_bytes : (n : ℕ) → IsBytes (to_be_bytes w64 n)
IsBytes-to_be_bytes n zero = omega arith
IsBytes-to_be_bytes n (suc zero) = omega arith
IsBytes-to_be_bytes n (suc (suc zero)) = omega arith
IsBytes-to_be_bytes n (suc (suc (suc zero))) = omega arith
IsBytes-to_be_bytes n (suc (suc (suc (suc zero)))) = omega arith
IsBytes-to_be_bytes n (suc (suc (suc (suc (suc zero))))) = omega arith
IsBytes-to_be_bytes n (suc (suc (suc (suc (suc (suc zero)))))) = omega arith
IsBytes-to_be_bytes n (suc (suc (suc (suc (suc (suc (suc zero))))))) = omega arith
IsBytes-to_be_bytes n (suc (suc (suc (suc (suc (suc (suc (suc i)))))))) = omega arith

-- the text of a number decodes to its bytes
pub decoded_of_text : (t : List ℕ) (n : ℕ) → t ≡ etag_text_of n → decode_of standard t ≡ Ok (to_be_bytes w64 n)
decoded_of_text t n is =
    ap (decode_of standard) is ∙ decode_of-encode_of standard (to_be_bytes w64 n) refl (IsBytes-to_be_bytes n)

pub none_from_length : (t : List ℕ) → length t ≢ 12 → IsEtagNumber t None
none_from_length t other n fits =
    (λ h. cc h, λ is. absurd (other (ap length is ∙ length-etag_text_of n)))

pub none_from_err : (t : List ℕ) (e : DecodeError) → decode_of standard t ≡ Err e → IsEtagNumber t None
none_from_err t e failed n fits =
    (λ h. cc h, λ is. let ok = sym failed ∙ decoded_of_text t n is in cc ok)

pub none_from_other : (t b : List ℕ) → decode_of standard t ≡ Ok b → length b ≢ 8 → IsEtagNumber t None
none_from_other t b decoded other n fits = (
  λ h. cc h,
  λ is.
      let ok = sym decoded ∙ decoded_of_text t n is in
      let same : b ≡ to_be_bytes w64 n = cc ok in
      absurd (other (ap length same)),
)

pub some_from_decoded : (t b : List ℕ) (r : ℕ) → IsBytes t → r < 2 ^ 64 → to_be_bytes w64 r ≡ b → decode_of standard t ≡ Ok b → IsEtagNumber t (Some r)
some_from_decoded t b r bytes small is_number decoded n fits = (
  λ h.
      let same : r ≡ n = cc h in
      decode_of_strict standard t b IsStrict_standard bytes decoded ∙ ap (encode_of standard) (sym is_number) ∙ ap etag_text_of same,
  λ is.
      let ok = sym decoded ∙ decoded_of_text t n is in
      let same : b ≡ to_be_bytes w64 n = cc ok in
      ap Some (sym (from_be_bytes-to_be_bytes_8 r small) ∙ ap (from_be_bytes w64) (is_number ∙ same) ∙ from_be_bytes-to_be_bytes_8 n fits),
)

-- numbers of 64 bits with one text are the same
pub etag_told : (m n : ℕ) → m < 2 ^ 64 → n < 2 ^ 64 → etag_text_of m ≡ etag_text_of n → m ≡ n
etag_told m n small less same =
    let both = sym (decoded_of_text (etag_text_of m) m refl) ∙ decoded_of_text (etag_text_of m) n same in
    let bytes : to_be_bytes w64 m ≡ to_be_bytes w64 n = cc both in
    sym (from_be_bytes-to_be_bytes_8 m small) ∙ ap (from_be_bytes w64) bytes ∙ from_be_bytes-to_be_bytes_8 n less
