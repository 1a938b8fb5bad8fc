-- What a clock in memory tells of the moments that it gave.
use Rattle.std.proofs.Common.{◌≡◌, ℕ, zero, suc, ◌+◌, ◌-◌, ◌^◌, ◌<◌, ◌≤◌, Bool, true, false, List, [], ◌∷◌, ◌++◌, length, Some, None, nat_lt, if◌then◌else◌, refl, sym, ◌∙◌, ap, add-one, arith, length-append}
use Rattle.std.proofs.lemmas.Bool.Decides.{nat_tests}
use Rattle.iam_text.specs.declared.moment.Moment.{Moment}
use Rattle.iam_outer.specs.Causes.{one_more}
use Rattle.iam_outer.specs.Given.{moment_at, moments_before, moments_told, AppendsMoments}

length-moments_before : (ms : List Moment) (n : ℕ) → length (moments_before ms n) ≡ n
length-moments_before ms zero = refl
length-moments_before ms (suc n) = omega (arith, length-append (moments_before ms n) (moment_at ms n ∷ []), length-moments_before ms n)

moments_before-more : (ms : List Moment) (n : ℕ) → moments_before ms (n + 1) ≡ moments_before ms n ++ moment_at ms n ∷ []
moments_before-more ms n = rw add-one refl

by_tests : (ms : List Moment) (n k : ℕ) (m : Moment) (b d : Bool) → nat_lt n (2 ^ 64 - 1) ≡ b → nat_lt k (2 ^ 64 - 1) ≡ d → m ≡ moment_at ms n → k ≡ one_more n → AppendsMoments (if b then Some (moments_before ms n) else None) (if d then Some (moments_before ms k) else None) (m ∷ [])
by_tests ms n k m false false old new is next = refl
by_tests ms n k m false true old new is next =
    let below : k < 2 ^ 64 - 1 = grind (arith, nat_tests) in
    let last : 2 ^ 64 - 1 ≤ n = grind (arith, nat_tests) in
    absurd (omega arith)
by_tests ms n k m true true old new is next =
    let below : n < 2 ^ 64 - 1 = grind (arith, nat_tests) in
    let below_now : k < 2 ^ 64 - 1 = grind (arith, nat_tests) in
    let one : k ≡ n + 1 = omega arith in
    ap (λ j. moments_before ms j) one ∙ moments_before-more ms n ∙ ap (λ x. moments_before ms n ++ x ∷ []) (sym is)
by_tests ms n k m true false old new is next =
    let below : n < 2 ^ 64 - 1 = grind (arith, nat_tests) in
    let last : 2 ^ 64 - 1 ≤ k = grind (arith, nat_tests) in
    omega (arith, length-moments_before ms n)

-- one more moment is given
pub gives_one : (ms : List Moment) (n k : ℕ) (m : Moment) → m ≡ moment_at ms n → k ≡ one_more n → AppendsMoments (moments_told ms n) (moments_told ms k) (m ∷ [])
gives_one ms n k m is next = by_tests ms n k m (nat_lt n (2 ^ 64 - 1)) (nat_lt k (2 ^ 64 - 1)) refl refl is next
