-- From a front to its message.
use Rattle.std.proofs.Common.{◌≡◌, ℕ, ◌+◌, ◌-◌, ◌≤◌, ◌<◌, true, false, List, [], ◌∷◌, length, take, drop, codes, IsUtf8, refl, sym, ap, ◌∙◌, subst, arith, length-append, slice_range, if◌then◌else◌}
use Rattle.std.proofs.Math.Seq.{drop-append_seam, drop-append-add}
use Rattle.std.proofs.lemmas.Bool.Decides.{nat_tests}
use Rattle.std.proofs.lemmas.List.Elements.{All-weaker}
use Rattle.std.proofs.lemmas.Str.Ascii.{IsAscii-from_all}
use Rattle.std.proofs.lemmas.Str.{IsUtf8-from_ascii, IsUtf8-from_is_utf8, is_utf8-from_IsUtf8}
use Rattle.std.specs.Str.{is_utf8}
use Rattle.httparse.specs.Grammar.{print_request, is_token_byte, IsToken}
use Rattle.iam_wire.specs.Fields.{fields_of, values_named}
use Rattle.iam_wire.specs.Front.{field_of, is_last, message_of, IsMessage}
use Rattle.iam_wire.specs.Look.{HasWhole, IsMade}
use Rattle.iam_wire.specs.declared.head.Head.{Head}
use Rattle.iam_wire.specs.declared.message.Field.TheVariants.{One, Bad}
use Rattle.iam_wire.specs.declared.message.Message.{Message}
use Rattle.iam_wire.proofs.Fronts.{message_at}

-- a method is ASCII
token_is_ascii : (b : ℕ) → is_token_byte b ≡ true → b < 128
unfolding is_token_byte
token_is_ascii b token = grind (arith, nat_tests)

token_text : (bytes : List ℕ) → IsToken bytes → IsUtf8 bytes
token_text bytes token = IsUtf8-from_ascii bytes (IsAscii-from_all bytes (All-weaker (λ b. is_token_byte b ≡ true) (λ b. b < 128) token_is_ascii bytes token.1))

pub method_text : (bytes : List ℕ) (found : Head) (size : ℕ) → HasWhole bytes found size → IsUtf8 found.method.now
method_text bytes found size x = subst IsUtf8 (sym x.parts.method) (token_text x.head.method x.has.reads.0.method)

pub target_text : (bytes : List ℕ) (found : Head) (size : ℕ) → HasWhole bytes found size → IsUtf8 found.target.now
target_text bytes found size x = subst IsUtf8 (sym x.parts.target) x.has.reads.0.target_text

pub end_within : (bytes : List ℕ) (found : Head) (size : ℕ) → HasWhole bytes found size → found.len + size ≤ length bytes
end_within bytes found size x = omega (arith, x.parts.len, x.whole, ap length x.has.reads.1, length-append (print_request x.head) x.rest)

-- the parts are those of the message at the front
pub took_message : (bytes : List ℕ) (found : Head) (size : ℕ) (message : Message) (x : HasWhole bytes found size)
    → IsMade found (slice_range bytes found.len (found.len + size)) message → IsMessage bytes message (drop (found.len + size) bytes)
took_message bytes found size message x made =
    let start : drop found.len bytes ≡ x.rest = ap (λ k. drop k bytes) x.parts.len ∙ ap (drop (length (print_request x.head))) x.has.reads.1 ∙ drop-append_seam (print_request x.head) x.rest in
    let end : drop (found.len + size) bytes ≡ drop size x.rest = ap (λ k. drop (k + size) bytes) x.parts.len ∙ ap (drop (length (print_request x.head) + size)) x.has.reads.1 ∙ drop-append-add (print_request x.head) x.rest size in
    let count : found.len + size - found.len ≡ size = omega arith in
    let taken : message.body ≡ take size x.rest = made.body ∙ ap (λ k. take k (drop found.len bytes)) count ∙ ap (take size) start in
    let method : message.method ≡ x.head.method = made.method ∙ x.parts.method in
    let target : message.target ≡ x.head.target = made.target ∙ x.parts.target in
    let caller : message.caller ≡ field_of (values_named (codes "x-iam-caller") (fields_of x.head)) = made.caller _ x.parts.caller in
    let floor : message.floor ≡ field_of (values_named (codes "x-iam-min-revision") (fields_of x.head)) = made.floor _ x.parts.floor in
    let last : message.last ≡ is_last x.head.minor (fields_of x.head) = made.last ∙ x.parts.last in
    let same : message ≡ message_of x.head (take size x.rest) = λ i. record { method = method i; target = target i; caller = caller i; floor = floor i; last = last i; body = taken i } in
    subst (λ (m : Message). IsMessage bytes m (drop (found.len + size) bytes)) (sym same)
    (subst (IsMessage bytes (message_of x.head (take size x.rest))) (sym end) (message_at bytes x.head x.rest size x.has x.says x.whole))

-- the field of a value that is UTF-8, and of one that isn't
pub field_text : (values : List (List ℕ)) (value : List ℕ) → values ≡ value ∷ [] → IsUtf8 value → One value ≡ field_of values
field_text values value is text = rw (is, is_utf8-from_IsUtf8 value text) refl

pub field_bad : (values : List (List ℕ)) (value : List ℕ) → values ≡ value ∷ [] → ¬ (IsUtf8 value) → Bad ≡ field_of values
field_bad values value is bad = rw is (elim (is_utf8 value) as (λ b. is_utf8 value ≡ b → Bad ≡ (if b then One value else Bad)) [
  | true ↦ λ good. absurd (bad (IsUtf8-from_is_utf8 value good))
  | false ↦ λ _. refl
] refl)

pub field_repeated : (values : List (List ℕ)) → 1 < length values → Bad ≡ field_of values
field_repeated [] many = absurd (omega arith)
field_repeated (value ∷ []) many = absurd (omega arith)
field_repeated (value ∷ other ∷ values) many = refl
