-- What is read behind a prefix.
use Rattle.std.proofs.Common.{◌≡◌, ◌∙◌, ℕ, List, ◌++◌, Some, None, Option, sym, ap}
use Rattle.std.proofs.lemmas.List.{append_cancel_left}
use Rattle.iam_names.specs.Reading.{IsRead, ReadsBack}

pub read_behind : {A : Type 0} (F : A → Type 0) (w : A → List ℕ) (prefix rest text : List ℕ) (r : Option A) → text ≡ prefix ++ rest → IsRead F w rest r → IsRead F (λ v. prefix ++ w v) text r
read_behind F w prefix rest text None is none = λ v formed same. none v formed (append_cancel_left prefix rest (w v) (sym is ∙ same))
read_behind F w prefix rest text (Some v) is found = (found.0, is ∙ ap (λ t. prefix ++ t) found.1)

pub back_behind : {A : Type 0} (F : A → Type 0) (w : A → List ℕ) (prefix rest text : List ℕ) (r : Option A) → text ≡ prefix ++ rest → ReadsBack F w rest r → ReadsBack F (λ v. prefix ++ w v) text r
back_behind F w prefix rest text r is back = λ v formed same. back v formed (append_cancel_left prefix rest (w v) (sym is ∙ same))
