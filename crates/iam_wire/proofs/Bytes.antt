-- The front of bytes, and two ways to split them.
use Rattle.std.proofs.Common.{◌≡◌, ℕ, ◌<◌, inl, inr, List, [], ◌∷◌, ◌++◌, length, take, drop, refl, sym, ap, ◌∙◌, arith, length-append, min}
use Rattle.std.proofs.lemmas.Bool.Decides.{leb_tells}
use Rattle.std.proofs.lemmas.List.{take_all}
use Rattle.std.proofs.Math.Seq.{take-append_seam, drop-append_seam}
use Rattle.httparse.specs.Grammar.{RequestHead, print_request}
use Rattle.iam_wire.specs.Front.{max_head}

-- two ways to split bytes at one place
pub same_split : (a b r s : List ℕ) → length a ≡ length b → a ++ r ≡ b ++ s → (a ≡ b) × (r ≡ s)
same_split a b r s long same = (
  sym (take-append_seam a r) ∙ ap (take (length a)) same ∙ ap (λ n. take n (b ++ s)) long ∙ take-append_seam b s,
  sym (drop-append_seam a r) ∙ ap (drop (length a)) same ∙ ap (λ n. drop n (b ++ s)) long ∙ drop-append_seam b s,
)

-- a head has a byte
pub some_head : (head : RequestHead) → 0 < length (print_request head)
unfolding print_request
some_head head = omega (arith, length-append {A = ℕ})

-- the front of the bytes
pub window : (bytes : List ℕ) (n : ℕ) → n ≡ min (length bytes) max_head → take n bytes ≡ take max_head bytes
window bytes n is =
    elim (leb_tells (length bytes) max_head) [
      | inl p ↦ take_all n bytes (omega (arith, p.1)) ∙ sym (take_all max_head bytes p.1)
      | inr p ↦ let same : n ≡ max_head = omega (arith, p.1) in ap (λ k. take k bytes) same
    ]

-- what is in the list behind the first value
pub nothing_else : (values : List (List ℕ)) → length values ≡ 0 → values ≡ []
nothing_else [] none = refl
nothing_else (value ∷ values) none = absurd (omega arith)
