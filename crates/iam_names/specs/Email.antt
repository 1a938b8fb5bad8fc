-- Emails.
use Rattle.std.specs.Prelude.{ℕ, ◌≤◌, ◌==◌, List, length}
use Rattle.std.specs.List.{before_first, after_first}
use Rattle.iam_names.specs.Bytes.{at_sign, is_local_byte, IsWord}
use Rattle.iam_names.specs.Domain.{IsDomain}

-- what stands before `@`
abbrev pub local_part_of : List ℕ → List ℕ
local_part_of email = before_first (λ byte. byte == at_sign) email

-- what stands behind `@`
abbrev pub domain_of : List ℕ → List ℕ
domain_of email = after_first (λ byte. byte == at_sign) email

-- 1 to 64 letters, digits, `.`, `_`, `-`, `+` and `'`
abbrev pub IsLocalPart : List ℕ → Type 0
IsLocalPart text = IsWord 1 64 is_local_byte text

-- a local part, `@` and a domain, of at most 256 bytes: there is no second `@`, since none stands in a domain
abbrev pub IsEmail : List ℕ → Type 0
IsEmail text = (length text ≤ 256) × IsLocalPart (local_part_of text) × IsDomain (domain_of text)

abbrev pub email_text : List ℕ → List ℕ
email_text email = email
