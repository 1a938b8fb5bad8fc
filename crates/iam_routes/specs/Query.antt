-- The query of a target, and its parameters.
use Rattle.std.specs.Prelude.{ℕ, ◌==◌, List, map}
use Rattle.std.specs.List.{after_first}
use Rattle.std.specs.Str.Lossy.{utf8_lossy}
use Rattle.form_urlencoded.specs.Form.{raw_pairs, decode}
use Rattle.iam_routes.specs.Routes.{question_mark}

-- what stands behind the first `?`
abbrev pub query_of : List ℕ → List ℕ
query_of target = after_first (λ byte. byte == question_mark) target

-- what an encoded name or value stands for: `+` is a space, and what is no text is replaced
abbrev pub form_text : List ℕ → List ℕ
form_text encoded = utf8_lossy (decode encoded)

abbrev pub form_pair : List ℕ × List ℕ → List ℕ × List ℕ
form_pair pair = (form_text pair.0, form_text pair.1)

-- the parameters of the query, decoded, in their order
abbrev pub pairs_of : List ℕ → List (List ℕ × List ℕ)
pairs_of target = map form_pair (raw_pairs (query_of target))
