-- Where a text first stands in another.
use Rattle.std.proofs.Common.{◌≡◌, ◌≢◌, ℕ, zero, suc, ◌+◌, ◌<◌, ◌≤◌, Bool, true, false, cond, List, [], ◌∷◌, ◌++◌, length, take, drop, Some, None, refl, sym, ap, ◌∙◌, subst, arith, nat_eq}
use Rattle.std.specs.List.{before_first, after_first, position_or_len, starts_with}
use Rattle.std.specs.Option.{option_map}
use Rattle.std.specs.Str.Pattern.{FindsText, LacksTextAt, SplitsAroundMatch}
use Rattle.std.proofs.lemmas.Bool.{false_from_ne_true}
use Rattle.std.proofs.lemmas.Bool.Decides.{Decides-eqb}
use Rattle.std.proofs.lemmas.List.{drop_all, take_all}
use Rattle.std.proofs.lemmas.Slice.Eq.{starts_is}
use Rattle.cel_types.specs.Extract.{before_text, behind_text}

pub starts : (text part rest : List ℕ) → text ≡ part ++ rest → starts_with nat_eq text part ≡ true
starts text part rest is = (starts_is Decides-eqb text part (starts_with nat_eq text part) refl).1 rest is

pub starts_not : (text part : List ℕ) → ((rest : List ℕ) → text ≢ part ++ rest) → starts_with nat_eq text part ≡ false
starts_not text part lacks =
    false_from_ne_true (starts_with nat_eq text part) (λ is. lacks _ ((starts_is Decides-eqb text part (starts_with nat_eq text part) refl).0 is))

-- it stands nowhere
pub record Nowhere (part text : List ℕ) : Type 0 where
  pub behind : behind_text part text ≡ None
  pub before : before_text part text ≡ None

pub nowhere : (part text : List ℕ) → ((i : ℕ) → i ≤ length text → LacksTextAt part text i) → Nowhere part text
nowhere part [] lacks =
    let no : starts_with nat_eq [] part ≡ false = starts_not [] part (lacks 0 (omega arith)) in
    record { behind = ap (λ z. cond z (Some []) None) no; before = ap (λ z. cond z (Some []) None) no }
nowhere part (b ∷ bs) lacks =
    let no : starts_with nat_eq (b ∷ bs) part ≡ false = starts_not (b ∷ bs) part (lacks 0 (omega arith)) in
    let rest : Nowhere part bs = nowhere part bs (λ i within. lacks (suc i) (omega (arith, within))) in
    record {
      behind = ap (λ z. cond z (Some (drop (length part) (b ∷ bs))) (behind_text part bs)) no ∙ rest.behind;
      before = ap (λ z. cond z (Some []) (option_map (λ front. b ∷ front) (before_text part bs))) no ∙ ap (option_map (λ front. b ∷ front)) rest.before;
    }

-- it stands from i to j, and nowhere before
record From (part text : List ℕ) (i j : ℕ) : Type 0 where
  behind : behind_text part text ≡ Some (drop j text)
  before : before_text part text ≡ Some (take i text)

empty_rest : (j : ℕ) → drop {A = ℕ} j [] ≡ []
empty_rest zero = refl
empty_rest (suc j) = refl

found : (part text : List ℕ) (i j : ℕ) → i ≤ length text → ((k : ℕ) → k < i → LacksTextAt part text k) → j ≡ i + length part → drop i text ≡ part ++ drop j text → From part text i j
found part [] zero j within lacks ends is =
    let yes : starts_with nat_eq [] part ≡ true = starts [] part (drop j []) is in
    record { behind = ap (λ z. cond z (Some []) None) yes ∙ ap Some (sym (empty_rest j)); before = ap (λ z. cond z (Some []) None) yes }
found part [] (suc i) j within lacks ends is = absurd (omega (arith, within))
found part (b ∷ bs) zero j within lacks ends is =
    let yes : starts_with nat_eq (b ∷ bs) part ≡ true = starts (b ∷ bs) part (drop j (b ∷ bs)) is in
    let same : length part ≡ j = omega (arith, ends) in
    record {
      behind = ap (λ z. cond z (Some (drop (length part) (b ∷ bs))) (behind_text part bs)) yes ∙ ap (λ z. Some (drop z (b ∷ bs))) same;
      before = ap (λ z. cond z (Some []) (option_map (λ front. b ∷ front) (before_text part bs))) yes;
    }
found part (b ∷ bs) (suc i) j within lacks ends is =
    let no : starts_with nat_eq (b ∷ bs) part ≡ false = starts_not (b ∷ bs) part (lacks 0 (omega arith)) in
    let same : j ≡ suc (i + length part) = omega (arith, ends) in
    let split : drop i bs ≡ part ++ drop (i + length part) bs = subst (λ (z : ℕ). drop i bs ≡ part ++ drop z (b ∷ bs)) same is in
    let rest : From part bs i (i + length part) = found part bs i (i + length part) (omega (arith, within)) (λ k less. lacks (suc k) (omega (arith, less))) refl split in
    record {
      behind = ap (λ z. cond z (Some (drop (length part) (b ∷ bs))) (behind_text part bs)) no ∙ rest.behind ∙ ap (λ z. Some (drop z (b ∷ bs))) (sym same);
      before = ap (λ z. cond z (Some []) (option_map (λ front. b ∷ front) (before_text part bs))) no ∙ ap (option_map (λ front. b ∷ front)) rest.before;
    }

-- what `split_once` gives
pub splits : (part text front back : List ℕ) → SplitsAroundMatch (FindsText part) text front back → (behind_text part text ≡ Some back) × (before_text part text ≡ Some front)
splits part text front back h =
    let at : From part text h.0 h.1 = found part text h.0 h.1 (omega (arith, h.5, h.7)) h.2.0 h.2.1.ends h.2.1.split in
    (at.behind ∙ ap Some (sym h.4), at.before ∙ ap Some (sym h.3))

-- no such byte
pub all_before : (p : ℕ → Bool) (text : List ℕ) → position_or_len p text ≡ length text → (text ≡ before_first p text) × ([] ≡ after_first p text)
all_before p text is =
    (sym (take_all (position_or_len p text) text (omega (arith, is))), sym (drop_all (position_or_len p text + 1) text (omega (arith, is))))
