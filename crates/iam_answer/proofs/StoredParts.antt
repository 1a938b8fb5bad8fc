-- The reply to a stored change whose answer got no memory, byte for byte.
use Rattle.std.specs.Prelude.{ℕ, List, [], codes, ◌++◌, length, true}
use Rattle.std.specs.Fmt.{decimal, digits}
use Rattle.std.proofs.Common.{◌≡◌, ◌∙◌, ◌≤◌, drop, refl, sym, ap, append_assoc}
use Rattle.std.proofs.lemmas.List.{drop_all, append-nil}
use Rattle.json.specs.Print.{escape_byte}
use Rattle.iam_json_data.specs.Printed.{printed}
use Rattle.iam_json.specs.Refusals.{error_text}
use Rattle.iam_json.specs.declared.details.Details.TheVariants.{OutOfMemory}
use Rattle.iam_wire.specs.Reply.{head_of}
use Rattle.iam_answer.specs.Replies.{stored_reply}

abbrev pub front : List ℕ
front = codes "HTTP/1.1 507 Insufficient Storage\r\ncontent-type: application/json\r\ncontent-length: 104\r\nx-iam-revision: "

abbrev pub back : List ℕ
back = codes "\r\n\r\n{\"error\":{\"code\":507,\"details\":{\"stored\":true},\"message\":\"OUT_OF_MEMORY\",\"status\":\"RESOURCE_EXHAUSTED\"}}"

abbrev body : List ℕ
body = codes "{\"error\":{\"code\":507,\"details\":{\"stored\":true},\"message\":\"OUT_OF_MEMORY\",\"status\":\"RESOURCE_EXHAUSTED\"}}"

is_body : body ≡ error_text (OutOfMemory true)
unfolding printed digits escape_byte
is_body = refl

abbrev line_end : List ℕ
line_end = codes "\r\n"

-- what stands behind the digits
behind : (ds : List ℕ) → ds ++ line_end ++ [] ++ line_end ++ body ≡ ds ++ back
behind ds =
    ap (λ (t : List ℕ). t ++ line_end ++ body) (append-nil (ds ++ line_end)) ∙ ap (λ (t : List ℕ). t ++ body) (append_assoc ds line_end line_end)
    ∙ append_assoc ds (line_end ++ line_end) body

-- any digits between both
around : (ds : List ℕ) → front ++ (ds ++ back) ≡ head_of 507 104 ++ (codes "x-iam-revision: " ++ ds ++ line_end) ++ [] ++ line_end ++ body
unfolding digits
around ds = ap (λ (t : List ℕ). front ++ t) (sym (behind ds))

pub parts : (number : ℕ) → front ++ (decimal number ++ back) ≡ stored_reply number
unfolding stored_reply
parts number =
    around (decimal number) ∙ ap (λ (text : List ℕ). head_of 507 (length text) ++ (codes "x-iam-revision: " ++ decimal number ++ line_end) ++ [] ++ line_end ++ text) is_body

-- written from the last part to the first
pub assembled : (number : ℕ) (before after_back after_digits after_front : List ℕ) (k d f : ℕ) → length before ≤ 232 → drop k after_back ≡ back ++ drop 232 before → drop d after_digits ≡ decimal number ++ drop k after_back
    → drop f after_front ≡ front ++ drop d after_digits → drop f after_front ≡ stored_reply number
assembled number before after_back after_digits after_front k d f short is_back is_digits is_front =
    is_front ∙ ap (λ (t : List ℕ). front ++ t) (is_digits ∙ ap (λ (t : List ℕ). decimal number ++ t) (is_back ∙ ap (λ (t : List ℕ). back ++ t) (drop_all 232 before short) ∙ append-nil back)) ∙ parts number
