-- What is shown of a kept thing is read as that thing alone.
use Rattle.std.proofs.Common.{◌≡◌, ℕ, suc, List, [], ◌∷◌, map, Option, Some, None, Result, Ok, Err, inl, inr, refl, ap, subst}
use Rattle.serde_json.specs.Data.{Data, number, unsigned, string}
use Rattle.serde_json.specs.View.{items_of}
use Rattle.iam_names.specs.Reading.{IsToldByText}
use Rattle.iam_json_data.specs.Reading.{Then, ReadsText, ReadsNumber, ReadsItems, ReadsMember, ReadsRequired}
use Rattle.std.specs.List.{AllByRecursion as Each}

-- ---- members

pub text_told : {A : Type 0} (F : A → Type 0) (w : A → List ℕ) → IsToldByText F w → (a : A) → F a → (said : Result A (List ℕ)) → ReadsText F w (string (w a)) said → said ≡ Ok a
text_told F w told a f (Ok v) h = let same : w v ≡ w a = cc (h.1) in ap Ok (told v a h.0 f same)
text_told F w told a f (Err path) h = absurd (h.1 a f refl)

pub number_told : (n : ℕ) (said : Result ℕ (List ℕ)) → ReadsNumber (number (unsigned n)) said → said ≡ Ok n
number_told n (Ok v) h = let same : v ≡ n = cc h in ap Ok same
number_told n (Err path) h = absurd (cc (h.1))

pub items_told : {A : Type 0} (reads : Data → Result A (List ℕ) → Type 0) (shown : A → Data) (F : A → Type 0)
    → ((a : A) → F a → (said : Result A (List ℕ)) → reads (shown a) said → said ≡ Ok a)
    → (xs : List A) → Each F xs → (place : ℕ) (said : Result (List A) (List ℕ)) → ReadsItems reads place (items_of (map shown xs)) said → said ≡ Ok xs
items_told reads shown F one [] each place (Ok values) h = ap Ok h
items_told reads shown F one [] each place (Err path) h = absurd h
items_told reads shown F one (x ∷ xs) each place (Ok []) h = absurd h
items_told reads shown F one (x ∷ xs) each place (Ok (v ∷ vs)) h =
    let first = one x each.0 (Ok v) h.0 in
    let more = items_told reads shown F one xs each.1 (suc place) (Ok vs) h.1 in
    let a : v ≡ x = cc first in
    let b : vs ≡ xs = cc more in
    cc (a, b)
items_told reads shown F one (x ∷ xs) each place (Err path) (inl bad) =
    let first = one x each.0 (Err bad.0) bad.2 in absurd (cc first)
items_told reads shown F one (x ∷ xs) each place (Err path) (inr later) =
    let more = items_told reads shown F one xs each.1 (suc place) (Err path) later.2 in absurd (cc more)

-- a member that has to be there, and is
pub required_told : {A : Type 0} (reads : Data → Result A (List ℕ) → Type 0) (name : List ℕ) (d : Data) (a : A)
    → ((said : Result A (List ℕ)) → reads d said → said ≡ Ok a) → (said : Result A (List ℕ)) → ReadsRequired reads name (Some d) said → said ≡ Ok a
required_told reads name d a one (Ok v) h = one (Ok v) h
required_told reads name d a one (Err path) h = let e = one (Err h.0) h.2 in absurd (cc e)

-- a member that may be absent, and is there
pub member_there_told : {A : Type 0} (reads : Data → Result A (List ℕ) → Type 0) (name : List ℕ) (d : Data) (a : A)
    → ((said : Result A (List ℕ)) → reads d said → said ≡ Ok a) → (said : Result (Option A) (List ℕ)) → ReadsMember reads name (Some d) said → said ≡ Ok (Some a)
member_there_told reads name d a one (Ok None) h = absurd h
member_there_told reads name d a one (Ok (Some v)) h = let e = one (Ok v) h in let same : v ≡ a = cc e in cc same
member_there_told reads name d a one (Err path) h = let e = one (Err h.0) h.2 in absurd (cc e)

-- one is read, and then what follows it
pub then_told : {A B : Type 0} (first : Result A (List ℕ) → Type 0) (next : A → Result B (List ℕ) → Type 0) (a : A) (b : B)
    → ((said : Result A (List ℕ)) → first said → said ≡ Ok a) → ((said : Result B (List ℕ)) → next a said → said ≡ Ok b)
    → (said : Result B (List ℕ)) → Then first next said → said ≡ Ok b
then_told {A} first next a b one more (Ok v) h =
    let e = one (Ok h.0) h.1 in
    let same : h.0 ≡ a = cc e in
    more (Ok v) (subst (λ (x : A). next x (Ok v)) same h.2)
then_told first next a b one more (Err path) (inl bad) = let e = one (Err path) bad in absurd (cc e)
then_told {A} first next a b one more (Err path) (inr later) =
    let e = one (Ok later.0) later.1 in
    let same : later.0 ≡ a = cc e in
    more (Err path) (subst (λ (x : A). next x (Err path)) same later.2)
